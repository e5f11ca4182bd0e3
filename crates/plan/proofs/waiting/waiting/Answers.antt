-- `plan::waiting::waiting` meets its contract. Assumes nothing.
use native.Mathlib.Omega.{arith}
use Rattle.plan.proofs.WaitLaws.{waiting-full, waiting-held, waiting-some}
use Rattle.plan.proofs.waiting.waiting.Goals as goal
use Rattle.plan.proofs.waiting.waiting.Goals.{else-is_delta-via-then-is_delta+else-p, else-is_delta-via-else-is_delta}

pub returns-then-p : goal.returns-then-p
returns-then-p c =
    let (value, few) = waiting-some _ _ _ _ c.args.p c.is_delta.ensures c.if-is_delta.true c.if-p.true (omega (arith, c.well_formed)) c.count_waiting.ensures in
    record { value = value; upper_bound = few }

pub returns-clause-value : goal.returns-clause-value
returns-clause-value c =
    elim c.else-is_delta.branch [
      | else-is_delta-via-then-is_delta+else-p w ↦ waiting-held _ _ _ _ c.args.p w.if-p.false
      | else-is_delta-via-else-is_delta w ↦ waiting-full _ _ _ _ c.args.p c.is_delta.ensures w.if-is_delta.false
    ]
