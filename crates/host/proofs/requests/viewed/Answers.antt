-- `requests::viewed` meets its contract. Assumes nothing.
use Rattle.std.proofs.Common.{refl}
use Rattle.host.specs.Answers.{result_of}
use Rattle.host.proofs.Laws.{passed_on, head-short, head-long}
use Rattle.host.proofs.RequestLaws.{view-short, view-refused, view-given}
use Rattle.host.proofs.requests.viewed.Goals as goal

pub returns-in_err-head_in : goal.returns-in_err-head_in
unfolding result_of
returns-in_err-head_in c = let short = head-short _ c.head_in.ensures c.in_err-head_in.was in rw (passed_on c.from_residual.result c.from_residual.ensures.1, short.1) (view-short _ _ _ _ _ short.0)

pub returns-in_err-view : goal.returns-in_err-view
returns-in_err-view c =
    let long = head-long _ c.head_in.ensures c.in_ok-head_in.was in
    rw (passed_on c.from_residual-in_err-view.result c.from_residual-in_err-view.ensures.1) (view-refused _ _ _ _ _ long.0 long.1 c.view.ensures c.in_err-view.was refl)

pub returns : goal.returns
returns c = let long = head-long _ c.head_in.ensures c.in_ok-head_in.was in view-given _ _ _ _ _ long.0 long.1 c.view.ensures c.in_ok-view.was c.number.ensures
