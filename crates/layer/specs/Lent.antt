-- A layer in lent tables, as the rules have it.
-- Assumes nothing.
use Rattle.std.specs.Prelude.{ℕ, List}
use Rattle.rules.specs.Layer.{Layer}
use Rattle.layer.specs.declared.laid.Layer.{Layer as Lent}
use Rattle.layer.specs.declared.laid.Foreseen.{Foreseen}
use Rattle.layer.specs.Laid.{layer_of, Kept}
use Rattle.layer.specs.Seen.{seen_sets, seen_layer}

abbrev pub layer_in : Lent → Layer
layer_in l = layer_of l.shape l.tokens.now l.vertices.now

-- it keeps S4 and S5
abbrev pub Keeps : Lent → Type 0
Keeps l = Kept l.shape l.tokens.now l.vertices.now

-- as a leave will have it: the sets alone, and as a layer
abbrev pub sets_then : Foreseen → List ℕ
sets_then l = seen_sets l.seen l.vertices.now l.resources.now l.firsts.now

abbrev pub layer_then : Foreseen → Layer
layer_then l = seen_layer l.seen l.vertices.now l.resources.now l.firsts.now
