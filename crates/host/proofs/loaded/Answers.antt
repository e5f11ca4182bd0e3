-- `loaded` meets its contract. Assumes nothing.
use Rattle.std.proofs.Common.{refl}
use Rattle.host.proofs.Laws.{passed_on, head-short, head-long, read_short, read-refused, read-given}
use Rattle.host.proofs.loaded.Goals as goal

pub returns-in_err-head_in-clause-answer : goal.returns-in_err-head_in-clause-answer
returns-in_err-head_in-clause-answer c = let short = head-short _ c.head_in.ensures c.in_err-head_in.was in rw (passed_on c.from_residual.result c.from_residual.ensures.1, short.1) (read_short _ _ _ short.0)

pub returns-in_err-h-clause-answer : goal.returns-in_err-h-clause-answer
returns-in_err-h-clause-answer c =
    rw (passed_on c.from_residual-in_err-h.result c.from_residual-in_err-h.ensures.1) (read-refused _ _ _ (head-long _ c.head_in.ensures c.in_ok-head_in.was).0 c.read.ensures.value c.in_err-h.was refl refl)

pub put_head-requires : goal.put_head-requires
put_head-requires c = (head-long _ c.head_in.ensures c.in_ok-head_in.was).0

pub returns-clause-answer : goal.returns-clause-answer
returns-clause-answer c = read-given _ _ _ (head-long _ c.head_in.ensures c.in_ok-head_in.was).0 c.read.ensures.value c.in_ok-h.was c.put_head.ensures
