use lib.ListN.{take}
use Rattle.sets.specs.Words.{set_in}
use Rattle.rules.specs.Bytes.{sets_in}
use Rattle.sound.specs.Faults.{Owners}
use Rattle.sound.proofs.layers.owners.Given as goal

abbrev pub invariant-loop-v : goal.invariant-loop-v
invariant-loop-v l = Owners (take l.v (sets_in l.n l.vertices)) (set_in l.own)
