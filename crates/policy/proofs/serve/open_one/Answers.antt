-- `policy::serve::open_one` meets its contract. Assumes nothing.
use Rattle.rules.specs.Calls.{rows_lent}
use Rattle.policy.proofs.CheckLaws.{passed_on}
use Rattle.policy.proofs.MarkedLaws.{one-no, one-shown}
use Rattle.policy.proofs.serve.open_one.Goals as goal

pub returns-in_err-k : goal.returns-in_err-k
unfolding rows_lent
returns-in_err-k c =
    rw (passed_on c.from_residual.result c.from_residual.ensures.1) (one-no _ _ _ _ c.requires _ c.judge_open.ensures.value c.in_err-k.was)

pub put_shown-requires : goal.put_shown-requires
unfolding rows_lent
put_shown-requires c = c.in_ok-k.ensures.passed

pub returns : goal.returns
unfolding rows_lent
returns c = one-shown _ _ _ _ c.requires _ c.judge_open.ensures.value c.in_ok-k.was c.put_shown.ensures
