-- `inspect::answer::put_refused` meets its contract. Assumes nothing.
use Rattle.inspect.specs.Text.{refused_text}
use Rattle.lines.proofs.Putting.{put_then}
use native.Mathlib.Omega.{arith}
use Rattle.inspect.proofs.answer.put_refused.Goals as goal

pub returns : goal.returns
unfolding refused_text
returns c =
    let n = c.put_number-end in
    let p = c.put_number in
    record {
      puts = put_then (omega arith) (rw c.number.ensures at n.ensures.puts) (rw c.place.ensures at p.ensures.puts);
      upper_bound = omega (arith, n.ensures.upper_bound, p.ensures.upper_bound);
    }
