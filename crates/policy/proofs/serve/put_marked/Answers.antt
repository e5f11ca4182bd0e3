-- `policy::serve::put_marked` meets its contract: the rows of the first i numbers are stored. Assumes nothing.
use mathlib.Core.Path.{refl, sym, ◌∙◌}
use native.Mathlib.Omega.{arith}
use lib.ListN.{length}
use lib.Seq.{take_all}
use Rattle.rows.specs.Number.{joined}
use Rattle.rows.proofs.Laws.{stored-none}
use Rattle.rows.proofs.Fill.{fill-next}
use Rattle.rules.specs.Kinds.{order_number}
use Rattle.policy.specs.Serve.{marked_row, marked}
use Rattle.policy.proofs.serve.put_marked.Goals as goal

pub loop-i-init : goal.loop-i-init
unfolding joined
loop-i-init c = sym (stored-none _ _)

pub loop-i-preserved : goal.loop-i-preserved
loop-i-preserved c =
    let a = c.args in
    fill-next 3 (marked_row (order_number a.mark)) (λ k. refl) a.row (length a.list.now) a.list.now a.orders.now
    c.requires (omega arith) 0 c.loop-i.i c.loop-i-test.true c.loop-i.invariant (rw c.number.ensures at c.put_order.ensures)

pub returns : goal.returns
unfolding marked
returns c = c.loop-i.invariant ∙ rw (take_all c.loop-i.i c.args.list.now (omega arith))
