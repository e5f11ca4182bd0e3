-- `inspect::answer::put_people` meets its contract. Assumes nothing.
use Rattle.inspect.proofs.TextLaws.{people-text}
use native.Mathlib.Omega.{arith}
use Rattle.inspect.proofs.answer.put_people.Goals as goal

pub returns : goal.returns
returns c =
    let w = c.put_text-a in
    let m = c.put_mode-b in
    let u = c.put_number-c in
    let f = c.put_number in
    record {
      puts = people-text c.args.h (omega arith) (omega (arith, c.requires, w.ensures.ends, w.auto)) (omega (arith, c.requires, w.ensures.ends, w.auto, m.ensures.upper_bound, m.auto)) w.ensures m.ensures.puts u.ensures.puts f.ensures.puts;
      upper_bound = omega (arith, w.ensures.ends, m.ensures.upper_bound, u.ensures.upper_bound, f.ensures.upper_bound);
    }
