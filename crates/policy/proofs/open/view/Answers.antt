-- `policy::open::view` meets its contract. Assumes nothing.
use Rattle.policy.proofs.CheckLaws.{passed_on, checked-ready}
use Rattle.policy.proofs.OpenLaws.{view-unsound, view-no-such, view-told}
use Rattle.policy.proofs.open.view.Goals as goal

pub returns-in_err-check : goal.returns-in_err-check
returns-in_err-check c = rw (passed_on c.from_residual.result c.from_residual.ensures.1) (view-unsound _ _ _ _ c.check.ensures c.in_err-check.was)

pub returns-in_err-exist : goal.returns-in_err-exist
returns-in_err-exist c =
    rw (passed_on c.from_residual-in_err-exist.result c.from_residual-in_err-exist.ensures.1)
    (view-no-such _ _ _ _ (checked-ready _ _ c.check.ensures c.in_ok-check.was) c.exist.ensures c.in_err-exist.was)

pub view_of-requires-clause-ready : goal.view_of-requires-clause-ready
view_of-requires-clause-ready c = checked-ready _ _ c.check.ensures c.in_ok-check.was

pub returns : goal.returns
returns c = view-told _ _ _ _ (checked-ready _ _ c.check.ensures c.in_ok-check.was) c.exist.ensures c.in_ok-exist.was c.view_of.ensures
