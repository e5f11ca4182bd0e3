use Prim.Native.Nat.{◌-◌}
use Rattle.sets.specs.Words.{people, set_in}
use Rattle.layer.specs.Lent.{sets_then}
use Rattle.layer.proofs.CoverLaws.{Taken, Left, lower}
use Rattle.layer.proofs.laid.Foreseen.cover.Given as goal

abbrev pub invariant-sizes : goal.invariant-sizes
invariant-sizes l =
    Taken (sets_then l.self) (set_in l.s) l.from l.count (lower (set_in l.s) (sets_then l.self) l.k (set_in l.covered))

abbrev pub invariant-loop-v : goal.invariant-loop-v
invariant-loop-v l =
    Left (sets_then l.self) (set_in l.s) l.n l.from l.count l.k l.left (set_in l.covered)

abbrev pub decreases-loop-v : goal.decreases-loop-v
decreases-loop-v l =
    people - l.count

abbrev pub invariant-loop-v-2 : goal.invariant-loop-v-2
invariant-loop-v-2 l =
    Left (sets_then l.self) (set_in l.s) l.n l.from l.count l.k l.left (set_in l.covered)
