-- `policy::open::judge_open` meets its contract. Assumes nothing.
use Rattle.policy.proofs.CheckLaws.{passed_on}
use Rattle.policy.proofs.OpenLaws.{open-no-such, open-closed, open-short, open-go}
use Rattle.policy.proofs.open.judge_open.Goals as goal

pub returns-in_err-exist-clause-value : goal.returns-in_err-exist-clause-value
returns-in_err-exist-clause-value c = rw (passed_on c.from_residual.result c.from_residual.ensures.1) (open-no-such _ _ _ _ c.exist.ensures _ c.in_err-exist.was)

pub returns-in_default-clause-value : goal.returns-in_default-clause-value
returns-in_default-clause-value c = open-closed _ _ _ _ c.exist.ensures _ c.in_ok-exist.was c.view_of-v.ensures c.in_default.not-Open

pub returns-then-room-k-clause-value : goal.returns-then-room-k-clause-value
returns-then-room-k-clause-value c = open-short _ _ _ _ c.exist.ensures _ c.in_ok-exist.was c.view_of-v.ensures c.in-Open.is c.chain_lengths-k.ensures.value c.if-room-k.true

pub returns-clause-value : goal.returns-clause-value
returns-clause-value c = open-go _ _ _ _ c.exist.ensures _ c.in_ok-exist.was c.view_of-v.ensures c.in-Open.is c.chain_lengths-k.ensures.value c.if-room-k.false
