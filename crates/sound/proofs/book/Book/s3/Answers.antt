-- `sound::book::Book::s3` meets its contract: the inner layer, then the outer.
-- Assumes nothing.
use Rattle.std.proofs.Common.{rules, ◌≡◌, ◌∙◌, Err}
use Rattle.rules.specs.Bytes.{book_in}
use Rattle.layer.specs.Laid.{layer_of, inner_shape, outer_shape}
use Rattle.sound.proofs.Spots.{search-on, search-stop, search-last}
use Rattle.sound.proofs.RulePlaces.{equal-told, s3-rest}
use Rattle.sound.proofs.book.Book.s3.Goals as goal

pub returns-in_err-row : goal.returns-in_err-row
unfolding book_in layer_of
returns-in_err-row c =
    let k : c.from_residual.result ≡ Err c.in_err-row.field-0.0 = search rules in
    k ∙ search-stop (s3-rest _ _) (equal-told (inner_shape c.args.self.now.head) c.args.self.now.tables.inner_tokens.now c.args.self.now.tables.inner_vertices.now 0 c.row.ensures c.equal_set.ensures) c.in_err-row.was

pub returns : goal.returns
unfolding book_in layer_of
returns c =
    search-last
    (search-on (s3-rest _ _) (equal-told (inner_shape c.args.self.now.head) c.args.self.now.tables.inner_tokens.now c.args.self.now.tables.inner_vertices.now 0 c.row.ensures c.equal_set.ensures) c.in_ok-row.was)
    (equal-told (outer_shape c.args.self.now.head) c.args.self.now.tables.outer_tokens.now c.args.self.now.tables.outer_vertices.now 2 c.row-2.ensures c.equal_set-2.ensures)
