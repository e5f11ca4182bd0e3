-- `written` meets its contract. Assumes nothing.
use Rattle.std.proofs.Common.{refl}
use Rattle.host.proofs.Laws.{passed_on, head-short, head-long, write-short, write-refused, write-given}
use Rattle.host.proofs.written.Goals as goal

pub returns-in_err-head_in : goal.returns-in_err-head_in
returns-in_err-head_in c = let short = head-short _ c.head_in.ensures c.in_err-head_in.was in rw (passed_on c.from_residual.result c.from_residual.ensures.1, short.1) (write-short _ _ _ _ short.0)

pub returns-in_err-size : goal.returns-in_err-size
returns-in_err-size c =
    let long = head-long _ c.head_in.ensures c.in_ok-head_in.was in
    rw (passed_on c.from_residual-in_err-size.result c.from_residual-in_err-size.ensures.1) (write-refused _ _ _ _ long.0 long.1 c.write.ensures c.in_err-size.was refl)

pub returns : goal.returns
returns c = let long = head-long _ c.head_in.ensures c.in_ok-head_in.was in write-given _ _ _ _ long.0 long.1 c.write.ensures c.in_ok-size.was
