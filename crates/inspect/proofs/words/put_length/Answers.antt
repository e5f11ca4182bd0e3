-- `inspect::words::put_length` meets its contract. Assumes nothing.
use Rattle.inspect.specs.Text.{length_text}
use Rattle.lines.proofs.Putting.{put_then}
use native.Mathlib.Omega.{arith}
use Rattle.inspect.proofs.words.put_length.Goals as goal

pub returns : goal.returns
unfolding length_text
returns c = put_then (omega (arith, c.requires)) (rw c.start_of-n.ensures at c.put_number-end.ensures.puts) c.put_text.ensures
