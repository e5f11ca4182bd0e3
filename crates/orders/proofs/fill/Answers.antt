-- `orders::fill` meets its contract. Assumes nothing.
use mathlib.Core.Path.{sym}
use native.Mathlib.Omega.{arith}
use lib.Seq.{length-take-le}
use Rattle.orders.proofs.Enough.{least-few, filled-by}
use Rattle.orders.proofs.fill.Goals as goal

pub overflow_mul-end : goal.overflow_mul-end
overflow_mul-end c = omega (arith, least-few c.args.room c.rows_for-end.ensures)

pub slice_bounds-change-end : goal.slice_bounds-change-end
slice_bounds-change-end c = omega (arith, least-few c.args.room c.rows_for-end.ensures, c.requires)

pub slice_bounds-change-end-2 : goal.slice_bounds-change-end-2
slice_bounds-change-end-2 c = sym (length-take-le _ _ (omega (arith, least-few c.args.room c.rows_for-end.ensures, c.requires)))

pub returns-clause-change : goal.returns-clause-change
returns-clause-change c = filled-by _ _ _ _ _ c.requires c.rows_for-end.ensures c.change.ensures.value
