-- `write::relock_waiting` meets its contract: of the first i resources those that wait are re-locked. Assumes nothing.
use Prim.Native.Nat.{◌<◌}
use mathlib.Core.Path.{◌≡◌}
use native.Mathlib.Omega.{arith}
use Rattle.write.proofs.RelockLaws.{run_none, same-run, run-no, run-yes, run_long, run_room, run-all}
use Rattle.write.proofs.relock_waiting.Goals as goal
use Rattle.write.proofs.relock_waiting.Goals.{then-waits, else-waits}

pub loop-i-init : goal.loop-i-init
loop-i-init c = run_none _ _ _ _ _ _ _ _

pub relock-requires : goal.relock-requires
relock-requires c =
    let there : c.loop-i.i < c.args.n = omega arith in
    omega (
      arith,
      c.loop-i.invariant.table.same,
      run_long _ _ _ _ _ _ _ _ c.loop-i.invariant c.requires.list_in_bounds,
      run_room _ _ _ _ _ _ _ _ c.loop-i.invariant there c.waits.ensures c.if-waits.true c.requires.list_in_bounds,
    )

pub overflow_add-next : goal.overflow_add-next
overflow_add-next c =
    let there : c.loop-i.i < c.args.n = omega arith in
    omega (
      arith,
      c.well_formed,
      run_room _ _ _ _ _ _ _ _ c.loop-i.invariant there c.waits.ensures c.if-waits.true c.requires.list_in_bounds,
    )

pub loop-i-preserved : goal.loop-i-preserved
loop-i-preserved c =
    let there : c.loop-i.i < c.args.n = omega arith in
    elim c.if-waits.branch [
      | then-waits w ↦
          same-run _ _ _ _ _ _ _ _ w.rs-is w.orders-is w.next-is
          (run-yes _ _ _ _ _ _ _ _ c.loop-i.invariant there c.waits.ensures w.if-waits.true c.requires.list_in_bounds w.relock.ensures.resources w.relock.ensures.orders_after)
      | else-waits w ↦
          same-run _ _ _ _ _ _ _ _ w.rs-is w.orders-is w.next-is (run-no _ _ _ _ _ _ _ _ c.loop-i.invariant there c.waits.ensures w.if-waits.false)
    ]

pub shape_of-rs : goal.shape_of-rs
shape_of-rs c = c.loop-i.invariant.table.same

pub shape_of-orders : goal.shape_of-orders
shape_of-orders c = run_long _ _ _ _ _ _ _ _ c.loop-i.invariant c.requires.list_in_bounds

pub returns : goal.returns
returns c =
    let all : c.loop-i.i ≡ c.args.n = omega (arith, c.loop-i.invariant.passed) in
    let the-parts = run-all _ _ _ _ _ _ _ _ (rw all at c.loop-i.invariant) in
    record {
      value = the-parts.0;
      resources = the-parts.1.0;
      orders_after = the-parts.1.1;
    }
