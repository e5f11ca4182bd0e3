-- `orders::store_rows`: the first i records are the first i rows.
use Rattle.std.proofs.Common.{◌≡◌, ◌-◌, ◌≤◌}
use Rattle.rules.specs.Calls.{orders_in}
use Rattle.orders.specs.Records.{over}
use Rattle.orders.proofs.store_rows.Given as goal

abbrev pub invariant-loop-i : goal.invariant-loop-i
invariant-loop-i l = (l.i ≤ l.n) × (l.records ≡ over (orders_in l.i l.rows) l.fn.records)

abbrev pub decreases-loop-i : goal.decreases-loop-i
decreases-loop-i l = l.n - l.i
