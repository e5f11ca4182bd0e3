-- `layer::laid::Layer::set_of` meets its contract. Assumes nothing.
use Rattle.rules.specs.Layer.{set_of}
use Rattle.layer.specs.Laid.{layer_of}
use Rattle.layer.proofs.laid.Layer.set_of.Goals as goal

pub returns : goal.returns
unfolding set_of layer_of
returns c = c.set_of.ensures
