-- `sound::resources::misplaced` meets its contract.
-- Assumes nothing.
use Rattle.std.proofs.Common.{rules, tests}
use Rattle.rules.specs.Bytes.{resources_in}
use Rattle.layer.specs.Laid.{no_resource}
use Rattle.layer.proofs.Read.{length-resources}
use Rattle.layer.proofs.Search.{placed_first}
use Rattle.sound.proofs.resources.misplaced.Goals as goal

pub returns : goal.returns
returns c =
    let n = c.args.n in
    let xs = resources_in n c.args.resources.now in
    placed_first _ _ xs no_resource (length-resources n c.args.resources.now) c.position.ensures.ran (λ i b q k. search rules) (λ i b q l k. search (rules, tests))
