-- `sound::book::Book::s4` meets its contract: the inner layer, then the outer.
-- Assumes nothing.
use Rattle.std.proofs.Common.{rules, ◌≡◌, ◌∙◌, Err}
use Rattle.rules.specs.Sound.{rising_row}
use Rattle.sound.proofs.Spots.{search-on, search-stop, search-last}
use Rattle.sound.proofs.RulePlaces.{faults-told, s4-rest}
use Rattle.sound.proofs.book.Book.s4.Goals as goal

pub returns-in_err-row : goal.returns-in_err-row
returns-in_err-row c =
    let k : c.from_residual.result ≡ Err c.in_err-row.field-0.0 = search rules in
    k ∙ search-stop (s4-rest _ _) (faults-told c.inner.result c.inner.ensures.value 1 c.row.ensures rising_row c.not_rising.ensures) c.in_err-row.was

pub returns : goal.returns
returns c =
    search-last
    (search-on (s4-rest _ _) (faults-told c.inner.result c.inner.ensures.value 1 c.row.ensures rising_row c.not_rising.ensures) c.in_ok-row.was)
    (faults-told c.outer.result c.outer.ensures.value 3 c.row-2.ensures rising_row c.not_rising-2.ensures)
