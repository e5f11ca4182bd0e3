-- `sound::every::s1` meets its contract: the leavers, and the searches in the order of the bytes.
-- Assumes nothing.
use Rattle.std.proofs.Common.{rules, ◌≡◌, ◌∙◌, ap, not, Err, refl}
use Rattle.rules.specs.Bytes.{book_in, tables_of}
use Rattle.layer.specs.Laid.{layer_of, inner_shape, outer_shape}
use Rattle.sound.proofs.Spots.{alone-stop, alone-on, search-on, search-stop, search-last}
use Rattle.sound.proofs.RulePlaces.{sets-told, tokens-told, plain-told, placed-told, s1-rest}
use Rattle.sound.proofs.Required.{counts-within}
use Rattle.sound.proofs.every.s1.Goals as goal

pub below-requires : goal.below-requires
below-requires c = (counts-within _ c.requires.h_value).users≤

pub returns-then-not-below : goal.returns-then-not-below
returns-then-not-below c = alone-stop (s1-rest _ _) c.below.ensures (ap not c.if-not-below.true)

pub strange_set-requires : goal.strange_set-requires
strange_set-requires c = (c.requires.room.inner_vertices, (counts-within _ c.requires.h_value).users≤)

pub strange_set-requires-2 : goal.strange_set-requires-2
strange_set-requires-2 c = (c.requires.room.outer_vertices, (counts-within _ c.requires.h_value).users≤)

pub misplaced-requires : goal.misplaced-requires
misplaced-requires c = (c.requires.room.resources, (counts-within _ c.requires.h_value).users≤)

pub returns-in_err-row : goal.returns-in_err-row
unfolding book_in layer_of
returns-in_err-row c =
    let h = c.args.h in
    let t = tables_of c.args.t.now in
    let k : c.from_residual.result ≡ Err c.in_err-row.field-0.0 = search rules in
    k ∙ search-stop (alone-on (s1-rest h t) c.below.ensures (ap not c.if-not-below.false)) (sets-told (inner_shape h) t.inner_tokens t.inner_vertices 0 c.row.ensures _ c.strange_set.ensures) c.in_err-row.was

pub returns-in_err-row-2 : goal.returns-in_err-row-2
unfolding book_in layer_of
returns-in_err-row-2 c =
    let h = c.args.h in
    let t = tables_of c.args.t.now in
    let k : c.from_residual-in_err-row-2.result ≡ Err c.in_err-row-2.field-0.0 = search rules in
    k ∙ search-stop (search-on (alone-on (s1-rest h t) c.below.ensures (ap not c.if-not-below.false)) (sets-told (inner_shape h) t.inner_tokens t.inner_vertices 0 c.row.ensures _ c.strange_set.ensures) c.in_ok-row.was) (tokens-told (inner_shape h) t.inner_tokens t.inner_vertices 1 c.row-2.ensures c.strange_token.ensures) c.in_err-row-2.was

pub returns-in_err-row-3 : goal.returns-in_err-row-3
unfolding book_in layer_of
returns-in_err-row-3 c =
    let h = c.args.h in
    let t = tables_of c.args.t.now in
    let k : c.from_residual-in_err-row-3.result ≡ Err c.in_err-row-3.field-0.0 = search rules in
    k ∙ search-stop (search-on (search-on (alone-on (s1-rest h t) c.below.ensures (ap not c.if-not-below.false)) (sets-told (inner_shape h) t.inner_tokens t.inner_vertices 0 c.row.ensures _ c.strange_set.ensures) c.in_ok-row.was) (tokens-told (inner_shape h) t.inner_tokens t.inner_vertices 1 c.row-2.ensures c.strange_token.ensures) c.in_ok-row-2.was) (sets-told (outer_shape h) t.outer_tokens t.outer_vertices 2 c.row-3.ensures _ c.strange_set-2.ensures) c.in_err-row-3.was

pub returns-in_err-row-4 : goal.returns-in_err-row-4
unfolding book_in layer_of
returns-in_err-row-4 c =
    let h = c.args.h in
    let t = tables_of c.args.t.now in
    let k : c.from_residual-in_err-row-4.result ≡ Err c.in_err-row-4.field-0.0 = search rules in
    k ∙ search-stop (search-on (search-on (search-on (alone-on (s1-rest h t) c.below.ensures (ap not c.if-not-below.false)) (sets-told (inner_shape h) t.inner_tokens t.inner_vertices 0 c.row.ensures _ c.strange_set.ensures) c.in_ok-row.was) (tokens-told (inner_shape h) t.inner_tokens t.inner_vertices 1 c.row-2.ensures c.strange_token.ensures) c.in_ok-row-2.was) (sets-told (outer_shape h) t.outer_tokens t.outer_vertices 2 c.row-3.ensures _ c.strange_set-2.ensures) c.in_ok-row-3.was) (plain-told (outer_shape h) t.outer_tokens t.outer_vertices 3 c.row-4.ensures refl c.strange_token-2.ensures) c.in_err-row-4.was

pub returns : goal.returns
unfolding book_in layer_of
returns c =
    let h = c.args.h in
    let t = tables_of c.args.t.now in
    search-last (search-on (search-on (search-on (search-on (alone-on (s1-rest h t) c.below.ensures (ap not c.if-not-below.false)) (sets-told (inner_shape h) t.inner_tokens t.inner_vertices 0 c.row.ensures _ c.strange_set.ensures) c.in_ok-row.was) (tokens-told (inner_shape h) t.inner_tokens t.inner_vertices 1 c.row-2.ensures c.strange_token.ensures) c.in_ok-row-2.was) (sets-told (outer_shape h) t.outer_tokens t.outer_vertices 2 c.row-3.ensures _ c.strange_set-2.ensures) c.in_ok-row-3.was) (plain-told (outer_shape h) t.outer_tokens t.outer_vertices 3 c.row-4.ensures refl c.strange_token-2.ensures) c.in_ok-row-4.was) (placed-told h t c.row-5.ensures c.misplaced.ensures)
