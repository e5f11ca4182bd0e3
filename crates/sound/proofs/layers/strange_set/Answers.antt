-- `sound::layers::strange_set` meets its contract.
-- Assumes nothing.
use Rattle.std.proofs.Common.{rules, tests}
use Rattle.rules.specs.Bytes.{sets_in}
use Rattle.rules.specs.Sound.{joined_set}
use Rattle.layer.proofs.Read.{length-sets}
use Rattle.layer.proofs.Search.{placed_first}
use Rattle.sound.proofs.layers.strange_set.Goals as goal

pub returns : goal.returns
unfolding joined_set
returns c =
    let n = c.args.n in
    let vs = c.args.vertices.now in
    placed_first _ _ (sets_in n vs) 0 (length-sets n vs) c.position.ensures.ran (λ i b q k. search rules) (λ i b q l k. search (rules, tests))
