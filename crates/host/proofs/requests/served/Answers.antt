-- `requests::served` meets its contract. Assumes nothing.
use Rattle.std.proofs.Common.{refl}
use Rattle.host.specs.Answers.{result_of}
use Rattle.host.proofs.Laws.{passed_on, head-short, head-long}
use Rattle.host.proofs.RequestLaws.{serve-short, serve-told, all-refused, all_done}
use Rattle.host.proofs.requests.served.Goals as goal

pub returns-in_err-head_in-clause-answer : goal.returns-in_err-head_in-clause-answer
unfolding result_of
returns-in_err-head_in-clause-answer c = let short = head-short _ c.head_in.ensures c.in_err-head_in.was in rw (passed_on c.from_residual.result c.from_residual.ensures.1, short.1) (serve-short _ _ _ _ _ _ short.0)

pub returns-in_err-done-clause-answer : goal.returns-in_err-done-clause-answer
returns-in_err-done-clause-answer c =
    let long = head-long _ c.head_in.ensures c.in_ok-head_in.was in
    rw (passed_on c.from_residual-in_err-done.result c.from_residual-in_err-done.ensures.1)
    (serve-told _ _ _ _ _ _ long.0 long.1 c.serve.ensures.value (all-refused _ _ c.in_err-done.was refl))

pub put_head-requires : goal.put_head-requires
put_head-requires c = (head-long _ c.head_in.ensures c.in_ok-head_in.was).0

pub returns-clause-answer : goal.returns-clause-answer
returns-clause-answer c = let long = head-long _ c.head_in.ensures c.in_ok-head_in.was in serve-told _ _ _ _ _ _ long.0 long.1 c.serve.ensures.value (all_done _ _ c.in_ok-done.was c.put_head.ensures)
