-- `sound::book::Book::s2` meets its contract: the searches, the missing vertices first.
-- Assumes nothing.
use Rattle.std.proofs.Common.{rules, ◌≡◌, ◌∙◌, Err}
use Rattle.rules.specs.Bytes.{book_in, tables_of}
use Rattle.rules.specs.Sound.{enters_group}
use Rattle.layer.specs.Laid.{layer_of, inner_shape, outer_shape}
use Rattle.sound.proofs.Spots.{search-on, search-stop, search-last}
use Rattle.sound.proofs.RulePlaces.{own-told, empty-told, empty-sought, faults-told, s2-rest}
use Rattle.sound.proofs.Required.{s1-within}
use Rattle.sound.proofs.book.Book.s2.Goals as goal

pub ownless-requires : goal.ownless-requires
ownless-requires c =
    let b = c.args.self.now in
    (b.room.inner_vertices, (s1-within b.head (tables_of b.tables) b.s1).users≤)

pub ownless-requires-2 : goal.ownless-requires-2
ownless-requires-2 c =
    let b = c.args.self.now in
    (b.room.outer_vertices, (s1-within b.head (tables_of b.tables) b.s1).users≤)

pub returns-in_err-missing : goal.returns-in_err-missing
unfolding book_in layer_of
returns-in_err-missing c =
    let h = c.args.self.now.head in
    let t = tables_of c.args.self.now.tables in
    let k : c.from_residual.result ≡ Err c.in_err-missing.field-0.0 = search rules in
    k ∙ search-stop (s2-rest h t) (own-told (inner_shape h) t.inner_tokens t.inner_vertices _ c.missing.ensures c.ownless.ensures) c.in_err-missing.was

pub returns-in_err-missing-2 : goal.returns-in_err-missing-2
unfolding book_in layer_of
returns-in_err-missing-2 c =
    let h = c.args.self.now.head in
    let t = tables_of c.args.self.now.tables in
    let k : c.from_residual-in_err-missing-2.result ≡ Err c.in_err-missing-2.field-0.0 = search rules in
    k ∙ search-stop (search-on (s2-rest h t) (own-told (inner_shape h) t.inner_tokens t.inner_vertices _ c.missing.ensures c.ownless.ensures) c.in_ok-missing.was) (own-told (outer_shape h) t.outer_tokens t.outer_vertices _ c.missing-2.ensures c.ownless-2.ensures) c.in_err-missing-2.was

pub returns-in_err-row : goal.returns-in_err-row
unfolding book_in layer_of
returns-in_err-row c =
    let h = c.args.self.now.head in
    let t = tables_of c.args.self.now.tables in
    let k : c.from_residual-in_err-row.result ≡ Err c.in_err-row.field-0.0 = search rules in
    k ∙ search-stop (search-on (search-on (s2-rest h t) (own-told (inner_shape h) t.inner_tokens t.inner_vertices _ c.missing.ensures c.ownless.ensures) c.in_ok-missing.was) (own-told (outer_shape h) t.outer_tokens t.outer_vertices _ c.missing-2.ensures c.ownless-2.ensures) c.in_ok-missing-2.was) (empty-told (inner_shape h) t.inner_tokens t.inner_vertices 0 c.row.ensures (empty-sought h.inner_vertices.0 t.inner_vertices c.find_set.ensures c.empty.ensures)) c.in_err-row.was

pub returns-in_err-row-2 : goal.returns-in_err-row-2
unfolding book_in layer_of
returns-in_err-row-2 c =
    let h = c.args.self.now.head in
    let t = tables_of c.args.self.now.tables in
    let k : c.from_residual-in_err-row-2.result ≡ Err c.in_err-row-2.field-0.0 = search rules in
    k ∙ search-stop (search-on (search-on (search-on (s2-rest h t) (own-told (inner_shape h) t.inner_tokens t.inner_vertices _ c.missing.ensures c.ownless.ensures) c.in_ok-missing.was) (own-told (outer_shape h) t.outer_tokens t.outer_vertices _ c.missing-2.ensures c.ownless-2.ensures) c.in_ok-missing-2.was) (empty-told (inner_shape h) t.inner_tokens t.inner_vertices 0 c.row.ensures (empty-sought h.inner_vertices.0 t.inner_vertices c.find_set.ensures c.empty.ensures)) c.in_ok-row.was) (faults-told c.inner.result c.inner.ensures.value 1 c.row-2.ensures enters_group c.enters_own.ensures) c.in_err-row-2.was

pub returns : goal.returns
unfolding book_in layer_of
returns c =
    let h = c.args.self.now.head in
    let t = tables_of c.args.self.now.tables in
    search-last (search-on (search-on (search-on (search-on (s2-rest h t) (own-told (inner_shape h) t.inner_tokens t.inner_vertices _ c.missing.ensures c.ownless.ensures) c.in_ok-missing.was) (own-told (outer_shape h) t.outer_tokens t.outer_vertices _ c.missing-2.ensures c.ownless-2.ensures) c.in_ok-missing-2.was) (empty-told (inner_shape h) t.inner_tokens t.inner_vertices 0 c.row.ensures (empty-sought h.inner_vertices.0 t.inner_vertices c.find_set.ensures c.empty.ensures)) c.in_ok-row.was) (faults-told c.inner.result c.inner.ensures.value 1 c.row-2.ensures enters_group c.enters_own.ensures) c.in_ok-row-2.was) (faults-told c.outer.result c.outer.ensures.value 3 c.row-3.ensures enters_group c.enters_own-2.ensures)
