-- `inspect::answer::put_layers` meets its contract. Assumes nothing.
use Rattle.inspect.proofs.TextLaws.{layers-text}
use native.Mathlib.Omega.{arith}
use Rattle.inspect.proofs.answer.put_layers.Goals as goal

pub put_number-requires : goal.put_number-requires
put_number-requires c =
    let w = c.put_number-a in
    let x = c.put_number-b in
    let y = c.put_number-c in
    omega (arith, c.requires, w.ensures.upper_bound, w.auto, x.ensures.upper_bound, x.auto, y.ensures.upper_bound, y.auto)

pub shape_of-out : goal.shape_of-out
shape_of-out c = omega (arith, c.put_number-a.auto, c.put_number-b.auto, c.put_number-c.auto, c.put_number.auto)

pub returns : goal.returns
returns c =
    let w = c.put_number-a in
    let x = c.put_number-b in
    let y = c.put_number-c in
    let z = c.put_number in
    record {
      puts = layers-text c.args.h (omega (arith, c.requires)) (omega (arith, c.requires, w.ensures.upper_bound, w.auto)) (omega (arith, c.requires, w.ensures.upper_bound, w.auto, x.ensures.upper_bound, x.auto)) w.ensures.puts x.ensures.puts y.ensures.puts z.ensures.puts;
      upper_bound = omega (arith, w.ensures.upper_bound, x.ensures.upper_bound, y.ensures.upper_bound, z.ensures.upper_bound);
    }
