-- `checked` meets its contract. Assumes nothing.
use Rattle.host.proofs.Laws.{passed_on, head-short, head-long, check-short, check-told}
use Rattle.host.proofs.checked.Goals as goal

pub returns-in_err-head_in : goal.returns-in_err-head_in
returns-in_err-head_in c = let short = head-short _ c.head_in.ensures c.in_err-head_in.was in rw (passed_on c.from_residual.result c.from_residual.ensures.1, short.1) (check-short _ _ short.0)

pub returns : goal.returns
returns c = let long = head-long _ c.head_in.ensures c.in_ok-head_in.was in check-told _ _ long.0 long.1 c.check.ensures
