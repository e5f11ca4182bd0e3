-- `lines::answer::put_ok` meets its contract. Assumes nothing.
use Rattle.std.proofs.Common.{arith}
use Rattle.lines.specs.Answer.{ok_text}
use Rattle.lines.proofs.Putting.{put_then}
use Rattle.lines.proofs.answer.put_ok.Goals as goal

pub returns : goal.returns
unfolding ok_text
returns c = put_then (omega arith) c.put_text-end.ensures (put_then (omega arith) c.put_numeral-end.ensures c.put_rows.ensures)
