-- `sound::layers::not_rising` meets its contract.
-- Assumes nothing.
use Rattle.std.proofs.Common.{rules, tests}
use Rattle.rules.specs.Layer.{token}
use Rattle.rules.specs.Open.{token_at}
use Rattle.rules.specs.Sound.{rising_row}
use Rattle.layer.specs.Lent.{layer_in}
use Rattle.layer.proofs.Read.{layer-tokens}
use Rattle.layer.proofs.Search.{placed_first}
use Rattle.sound.proofs.layers.not_rising.Goals as goal

pub returns : goal.returns
unfolding rising_row token_at
returns c =
    let l = c.args.l.now in
    placed_first _ _ (layer_in l).tokens (token 0 0 0) (layer-tokens l.shape l.tokens.now l.vertices.now) c.position.ensures.ran (λ i b q k. search rules) (λ i b q l k. search (rules, tests))
