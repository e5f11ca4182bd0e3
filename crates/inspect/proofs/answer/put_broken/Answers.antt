-- `inspect::answer::put_broken` meets its contract. Assumes nothing.
use Rattle.inspect.specs.Text.{broken_text}
use Rattle.lines.proofs.Putting.{put_then}
use native.Mathlib.Omega.{arith}
use Rattle.inspect.proofs.answer.put_broken.Goals as goal

pub returns : goal.returns
unfolding broken_text
returns c = put_then (omega arith) c.put_refused-end.ensures.puts c.put_sentence.ensures
