-- `layer::laid::Layer::holders_of` meets its contract. Assumes nothing.
use Rattle.rules.specs.Holders.{by_token}
use Rattle.layer.proofs.laid.Layer.holders_of.Goals as goal

pub returns-clause-token_value : goal.returns-clause-token_value
unfolding by_token
returns-clause-token_value c = c.sources_into.ensures
