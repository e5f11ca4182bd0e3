-- `plan::waiting::count_waiting` meets its contract: k of the first i resources wait. Assumes nothing.
use native.Mathlib.Omega.{arith}
use lib.ListN.{length}
use Prim.Native.Nat.{ℕ}
use mathlib.Core.Path.{◌≡◌, ap, ◌∙◌}
use Rattle.sets.specs.Words.{set_in}
use Rattle.plan.proofs.WaitLaws.{below_none, count_yes, count_no, test, waiting, waiting-all}
use Rattle.plan.proofs.waiting.count_waiting.Goals as goal
use Rattle.plan.proofs.waiting.count_waiting.Goals.{then-waits, else-waits}

pub loop-i-init : goal.loop-i-init
loop-i-init c = let a = c.args in omega (arith, ap length (below_none (test a.n a.rs.now a.r.0 a.inner.0 (set_in a.list))))

pub loop-i-preserved : goal.loop-i-preserved
loop-i-preserved c =
    let a = c.args in
    let those = test a.n a.rs.now a.r.0 a.inner.0 (set_in a.list) in
    elim c.if-waits.branch [
      | then-waits w ↦ omega (arith, count_yes those c.loop-i.i c.waits.ensures w.if-waits.true)
      | else-waits w ↦ omega (arith, count_no those c.loop-i.i c.waits.ensures w.if-waits.false)
    ]

pub returns : goal.returns
returns c =
    let a = c.args in
    let all : c.loop-i.i ≡ c.args.n = omega arith in
    c.loop-i.invariant.waiting
    ∙ ap (λ (i : ℕ). length (waiting a.n a.rs.now a.r.0 a.inner.0 (set_in a.list) i)) all
    ∙ ap length (waiting-all a.n a.rs.now a.r.0 a.inner.0 (set_in a.list))
