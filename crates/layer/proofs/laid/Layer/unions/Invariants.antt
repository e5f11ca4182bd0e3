use Rattle.layer.specs.Lent.{layer_in}
use Rattle.layer.proofs.Sources.{Unions}
use Rattle.layer.proofs.laid.Layer.unions.Given as goal

abbrev pub invariant-loop-i : goal.invariant-loop-i
invariant-loop-i l =
    Unions (layer_in l.self) l.kind l.i l.all
