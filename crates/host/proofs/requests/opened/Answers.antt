-- `requests::opened` meets its contract. Assumes nothing.
use Rattle.std.proofs.Common.{refl}
use Rattle.host.specs.Answers.{result_of}
use Rattle.host.proofs.Laws.{passed_on, head-short, head-long}
use Rattle.host.proofs.RequestLaws.{open-short, open-refused, open-given}
use Rattle.host.proofs.requests.opened.Goals as goal

pub returns-in_err-head_in : goal.returns-in_err-head_in
unfolding result_of
returns-in_err-head_in c = let short = head-short _ c.head_in.ensures c.in_err-head_in.was in rw (passed_on c.from_residual.result c.from_residual.ensures.1, short.1) (open-short _ _ _ _ _ _ _ short.0)

pub returns-in_err-chains : goal.returns-in_err-chains
returns-in_err-chains c =
    let long = head-long _ c.head_in.ensures c.in_ok-head_in.was in
    rw (passed_on c.from_residual-in_err-chains.result c.from_residual-in_err-chains.ensures.1) (open-refused _ _ _ _ _ _ _ long.0 long.1 c.open.ensures c.in_err-chains.was refl)

pub returns : goal.returns
returns c = let long = head-long _ c.head_in.ensures c.in_ok-head_in.was in open-given _ _ _ _ _ _ _ long.0 long.1 c.open.ensures c.in_ok-chains.was
