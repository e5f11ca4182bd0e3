-- `policy::requests::carry_out` meets its contract: the plan's answer, or the work. Assumes nothing.
use Rattle.rules.specs.Calls.{rows_lent}
use Rattle.policy.proofs.CheckLaws.{passed_on}
use Rattle.policy.proofs.RequestCalls.{call-refused, call-accepted}
use Rattle.policy.proofs.requests.carry_out.Goals as goal

pub returns-in_err-p-clause-value : goal.returns-in_err-p-clause-value
unfolding rows_lent
returns-in_err-p-clause-value c =
    rw (passed_on c.from_residual.result c.from_residual.ensures.1) (call-refused _ _ _ _ c.requires (rw c.read.ensures at c.judge.ensures) c.in_err-p.was)

pub apply-requires-clause-accepted : goal.apply-requires-clause-accepted
unfolding rows_lent
apply-requires-clause-accepted c = (call-accepted _ _ _ c.args.orders.now c.requires (rw c.read.ensures at c.judge.ensures) c.in_ok-p.was).0

pub apply-requires-clause-p_value : goal.apply-requires-clause-p_value
unfolding rows_lent
apply-requires-clause-p_value c = (call-accepted _ _ _ c.args.orders.now c.requires (rw c.read.ensures at c.judge.ensures) c.in_ok-p.was).1
