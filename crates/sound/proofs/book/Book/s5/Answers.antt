-- `sound::book::Book::s5` meets its contract: the inner layer, then the outer.
-- Assumes nothing.
use Rattle.std.proofs.Common.{rules, ◌≡◌, ◌∙◌, Err}
use Rattle.rules.specs.Bytes.{tables_of}
use Rattle.sound.proofs.Spots.{search-on, search-stop, search-last}
use Rattle.sound.proofs.RulePlaces.{united-told, s5-rest}
use Rattle.sound.proofs.Required.{inner-few, outer-few}
use Rattle.sound.proofs.book.Book.s5.Goals as goal

pub ununited-requires : goal.ununited-requires
ununited-requires c =
    let b = c.args.self.now in
    inner-few b.head (tables_of b.tables) b.s1 c.inner.ensures.shape_value

pub ununited-requires-2 : goal.ununited-requires-2
ununited-requires-2 c =
    let b = c.args.self.now in
    outer-few b.head (tables_of b.tables) b.s1 c.outer.ensures.shape_value

pub returns-in_err-row : goal.returns-in_err-row
returns-in_err-row c =
    let k : c.from_residual.result ≡ Err c.in_err-row.field-0.0 = search rules in
    k ∙ search-stop (s5-rest _ _) (united-told c.inner.result c.inner.ensures.value 0 c.row.ensures c.ununited.ensures) c.in_err-row.was

pub returns : goal.returns
returns c =
    search-last
    (search-on (s5-rest _ _) (united-told c.inner.result c.inner.ensures.value 0 c.row.ensures c.ununited.ensures) c.in_ok-row.was)
    (united-told c.outer.result c.outer.ensures.value 2 c.row-2.ensures c.ununited-2.ensures)
