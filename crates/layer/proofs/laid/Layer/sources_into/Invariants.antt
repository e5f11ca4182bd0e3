use mathlib.Core.Path.{◌≡◌}
use Rattle.sets.specs.Words.{set_in}
use Rattle.layer.specs.Lent.{layer_in}
use Rattle.layer.proofs.Sources.{union_to}
use Rattle.layer.proofs.laid.Layer.sources_into.Given as goal

abbrev pub invariant-loop-i : goal.invariant-loop-i
invariant-loop-i l =
    set_in l.all ≡ union_to (layer_in l.self) l.kind l.v l.i
