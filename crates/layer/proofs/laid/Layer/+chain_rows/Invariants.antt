-- `layer::laid::Layer::chain_rows`, which calls itself. The measure is the size of the vertex's set.
use Rattle.sets.specs.Sets.{size}
use Rattle.rules.specs.Layer.{set_of}
use Rattle.layer.specs.Lent.{layer_in}
use Rattle.layer.proofs.laid.Layer.+chain_rows.Given as goal

abbrev pub decreases-chain_rows : goal.decreases-chain_rows
decreases-chain_rows l = size (set_of (layer_in l.self.now) l.v)
