-- `layer::laid::Layer::find_direct` meets its contract. Assumes nothing.
use Rattle.std.proofs.Common.{rules, tests}
use Rattle.rules.specs.Layer.{token}
use Rattle.rules.specs.Open.{direct, token_at}
use Rattle.layer.specs.Lent.{layer_in}
use Rattle.layer.proofs.Read.{layer-tokens}
use Rattle.layer.proofs.Search.{placed_first}
use Rattle.layer.proofs.laid.Layer.find_direct.Goals as goal

pub returns : goal.returns
unfolding direct token_at
returns c =
    let l = c.args.self.now in
    placed_first _ _ (layer_in l).tokens (token 0 0 0) (layer-tokens l.shape l.tokens.now l.vertices.now) c.position.ensures.ran (λ i b q k. search rules) (λ i b q l k. search (rules, tests))
