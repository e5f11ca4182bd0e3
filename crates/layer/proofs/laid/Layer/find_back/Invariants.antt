use Rattle.sets.specs.Sets.{has}
use Rattle.theorems.proofs.WalkLaws.{enters?}
use Rattle.layer.specs.Lent.{layer_in}
use Rattle.layer.proofs.Search.{Seeking}
use Rattle.layer.proofs.laid.Layer.find_back.Given as goal

abbrev pub invariant-loop-i : goal.invariant-loop-i
invariant-loop-i l =
    Seeking (enters? (layer_in l.self) 0 l.v (λ s. has s l.u.0)) (layer_in l.self).tokens l.self.shape.tokens l.rows
