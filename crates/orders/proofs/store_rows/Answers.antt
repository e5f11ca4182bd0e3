-- `orders::store_rows` meets its contract. Assumes nothing.
use Rattle.std.proofs.Common.{◌∙◌, ap, arith, List}
use Rattle.rules.specs.Calls.{order_at}
use Rattle.rules.specs.declared.Order.{Order}
use Rattle.orders.proofs.Records.{over_none, over-next}
use lib.ListN.{set}
use Rattle.orders.proofs.store_rows.Goals as goal

pub loop-i-init : goal.loop-i-init
loop-i-init c = (omega arith, over_none c.args.records.now c.args.rows.now)

pub loop-i-preserved : goal.loop-i-preserved
unfolding order_at
loop-i-preserved c = (
  omega arith,
  c.store.ensures
      ∙ ap (λ (l : List Order). set l c.loop-i.i (order_at c.args.rows.now c.loop-i.i)) c.loop-i.invariant.1
      ∙ over-next c.args.records.now c.args.rows.now c.loop-i.i (omega arith),
)
