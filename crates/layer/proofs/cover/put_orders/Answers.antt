-- `layer::cover::put_orders` meets its contract: the orders of the first i vertices of the cover are stored. Assumes nothing.
use Rattle.std.proofs.Common.{sym, refl}
use native.Mathlib.Nat.{le_refl}
use Rattle.rows.specs.Number.{joined}
use Rattle.rows.proofs.Laws.{stored-none}
use Rattle.rows.proofs.Fill.{fill-next}
use Rattle.layer.specs.Cover.{order_of, cover_orders}
use Rattle.layer.proofs.cover.put_orders.Goals as goal

pub loop-i-init : goal.loop-i-init
unfolding cover_orders joined
loop-i-init c = sym (stored-none _ _)

pub loop-i-preserved : goal.loop-i-preserved
unfolding cover_orders
loop-i-preserved c =
    fill-next 3 (λ v. order_of c.args.kind v c.args.new) (λ v. refl) c.args.row _ c.args.from.now c.args.orders.now c.requires (le_refl _) 0 c.loop-i.i c.loop-i-test.true c.loop-i.invariant c.put_order.ensures
