-- `every::counts_hold` meets its contract. Assumes nothing.
use mathlib.Core.Path.{◌∙◌}
use borrow.Author.Tests.{lt-leb}
use native.Mathlib.Omega.{arith}
use Rattle.sound.proofs.Counted.{counts-hold, mode-past}
use Rattle.sound.proofs.every.counts_hold.Goals as goal

pub returns-then-h-le1 : goal.returns-then-h-le1
returns-then-h-le1 c = counts-hold _ (omega arith) c.bad_count.ensures c.is_none.ensures

pub returns-else-h-le1 : goal.returns-else-h-le1
returns-else-h-le1 c = lt-leb _ _ c.if-h-le1.false ∙ mode-past _ c.if-h-le1.false
