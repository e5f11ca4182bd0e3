-- `layer::laid::Layer::chain_length`, which calls itself. The measure is the size of the vertex's set.
use Rattle.sets.specs.Sets.{size}
use Rattle.rules.specs.Layer.{set_of}
use Rattle.layer.specs.Lent.{layer_in}
use Rattle.layer.proofs.laid.Layer.+chain_length.Given as goal

abbrev pub decreases-chain_length : goal.decreases-chain_length
decreases-chain_length l = size (set_of (layer_in l.self.now) l.v)
