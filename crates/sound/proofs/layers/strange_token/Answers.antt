-- `sound::layers::strange_token` meets its contract.
-- Assumes nothing.
use Rattle.std.proofs.Common.{rules, tests}
use Rattle.rules.specs.Layer.{token}
use Rattle.rules.specs.Bytes.{tokens_in}
use Rattle.layer.proofs.Read.{length-tokens}
use Rattle.layer.proofs.Search.{placed_first}
use Rattle.sound.proofs.layers.strange_token.Goals as goal

pub returns : goal.returns
returns c =
    let a = c.args in
    placed_first _ _ (tokens_in a.width a.n a.tokens.now) (token 0 0 0) (length-tokens a.width a.n a.tokens.now) c.position.ensures.ran (λ i b q k. search rules) (λ i b q l k. search (rules, tests))
