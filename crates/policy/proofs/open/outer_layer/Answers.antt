-- `policy::open::outer_layer` meets its contract. Assumes nothing.
use Rattle.rules.specs.Bytes.{book_in}
use Rattle.layer.specs.Laid.{layer_of}
use Rattle.policy.proofs.OpenLaws.{outer-laid}
use Rattle.policy.proofs.open.outer_layer.Goals as goal

pub invariant_of-result : goal.invariant_of-result
invariant_of-result c = record { laid = rw c.outer_shape.ensures (outer-laid _ _ c.requires) }

pub returns : goal.returns
unfolding book_in layer_of
returns c = rw c.outer_shape.ensures
