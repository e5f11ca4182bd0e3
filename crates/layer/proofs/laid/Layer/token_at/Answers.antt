-- `layer::laid::Layer::token_at` meets its contract. Assumes nothing.
use Rattle.rules.specs.Open.{token_at}
use Rattle.layer.specs.Laid.{layer_of}
use Rattle.layer.proofs.laid.Layer.token_at.Goals as goal

pub returns : goal.returns
unfolding token_at layer_of
returns c =
    record {
      value = c.token_in.ensures;
      from = rw c.token_in.ensures (c.args.self.now.laid.from< c.args.row c.requires);
      to = rw c.token_in.ensures (c.args.self.now.laid.to< c.args.row c.requires);
    }
