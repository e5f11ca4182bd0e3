-- `orders::rows_for` meets its contract. Assumes nothing.
use Rattle.std.proofs.Common.{arith, tests}
use Rattle.orders.specs.Records.{least}
use Rattle.orders.proofs.rows_for.Goals as goal

pub returns : goal.returns
unfolding least
returns c = grind (arith, tests)
