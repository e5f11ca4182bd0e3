-- `sound::layers::ownless` meets its contract.
-- Assumes nothing.
use Rattle.std.proofs.Common.{rules, tests}
use Rattle.layer.proofs.Search.{placed_number}
use Rattle.sound.proofs.layers.ownless.Goals as goal

pub returns : goal.returns
returns c =
    let owns = c.owners-own.ensures.owns in
    placed_number _ _ c.position.ensures.ran (λ i b q k. search rules) (λ i b q l k. search (rules, tests, owns))
