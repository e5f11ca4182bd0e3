-- `policy::open::open` meets its contract. Assumes nothing.
use Rattle.policy.proofs.CheckLaws.{passed_on, checked-ready}
use Rattle.policy.proofs.OpenLaws.{open-unsound, open_no, open-shown}
use Rattle.policy.proofs.open.open.Goals as goal

pub returns-in_err-check : goal.returns-in_err-check
returns-in_err-check c = rw (passed_on c.from_residual.result c.from_residual.ensures.1) (open-unsound _ _ _ _ c.check.ensures c.in_err-check.was _)

pub judge_open-requires : goal.judge_open-requires
judge_open-requires c = checked-ready _ _ c.check.ensures c.in_ok-check.was

pub returns-in_err-k : goal.returns-in_err-k
returns-in_err-k c =
    rw (passed_on c.from_residual-in_err-k.result c.from_residual-in_err-k.ensures.1)
    (open_no _ _ _ _ (checked-ready _ _ c.check.ensures c.in_ok-check.was) _ c.judge_open.ensures.value c.in_err-k.was)

pub returns : goal.returns
returns c = open-shown _ _ _ _ (checked-ready _ _ c.check.ensures c.in_ok-check.was) _ c.judge_open.ensures.value c.in_ok-k.was c.put_chains.ensures
