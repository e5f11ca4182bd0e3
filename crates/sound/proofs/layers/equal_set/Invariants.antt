use Rattle.rules.specs.Bytes.{sets_in}
use Rattle.sound.proofs.Seen.{Distinct}
use Rattle.sound.proofs.layers.equal_set.Given as goal

abbrev pub invariant-loop-i : goal.invariant-loop-i
invariant-loop-i l = Distinct (sets_in l.n l.vertices) l.n l.i l.met
