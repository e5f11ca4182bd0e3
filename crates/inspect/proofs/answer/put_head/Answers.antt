-- `inspect::answer::put_head` meets its contract. Assumes nothing.
use Rattle.inspect.specs.Text.{leavers_text, head_text}
use Rattle.lines.proofs.Putting.{put_then}
use native.Mathlib.Omega.{arith}
use Rattle.inspect.proofs.answer.put_head.Goals as goal

pub returns : goal.returns
unfolding head_text leavers_text
returns c =
    let p = c.put_people-a in
    let l = c.put_layers-b in
    let n = c.put_number in
    put_then (omega (arith, c.requires)) p.ensures.puts
    (put_then (omega (arith, c.requires, p.ensures.upper_bound, p.auto)) l.ensures.puts (rw c.size.ensures.value at n.ensures.puts))
