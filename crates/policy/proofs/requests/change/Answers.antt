-- `policy::requests::change` meets its contract: the check's answer, or the rest. Assumes nothing.
use Rattle.policy.proofs.CheckLaws.{passed_on, checked-ready}
use Rattle.policy.proofs.RequestCalls.{call-unsound}
use Rattle.policy.proofs.requests.change.Goals as goal

pub returns-in_err-check-clause-value : goal.returns-in_err-check-clause-value
returns-in_err-check-clause-value c =
    rw (passed_on c.from_residual.result c.from_residual.ensures.1) (call-unsound _ _ _ _ (rw c.read.ensures at c.check.ensures) c.in_err-check.was)

pub carry_out-requires : goal.carry_out-requires
carry_out-requires c = checked-ready _ _ (rw c.read.ensures at c.check.ensures) c.in_ok-check.was
