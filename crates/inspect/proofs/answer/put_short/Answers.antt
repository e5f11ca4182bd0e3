-- `inspect::answer::put_short` meets its contract. Assumes nothing.
use Rattle.inspect.specs.Text.{short_text, header_text}
use Rattle.lines.proofs.Putting.{put_then}
use native.Mathlib.Omega.{arith}
use Rattle.inspect.proofs.answer.put_short.Goals as goal

pub returns : goal.returns
unfolding short_text header_text
returns c = put_then (omega arith) c.put_refused-end.ensures.puts c.put_text.ensures
