-- `sound::resources::unheld` meets its contract.
-- Assumes nothing.
use Rattle.std.proofs.Common.{rules, tests}
use Rattle.rules.specs.Bytes.{resources_in}
use Rattle.layer.specs.Laid.{no_resource}
use Rattle.layer.proofs.Read.{length-resources}
use Rattle.layer.proofs.Search.{placed_first}
use Rattle.std.proofs.lemmas.Iterator.{serves_from_Range}
use Rattle.sound.proofs.Reading.{inner-at}
use Rattle.sound.proofs.resources.unheld.Goals as goal

pub position-requires-clause-callable : goal.position-requires-clause-callable
position-requires-clause-callable c =
    serves_from_Range (λ x q k. search rules)
    (λ x l m.
    let inner = inner-at _ m c.requires.bytes_in_bounds.1 in
    (search rules, search (rules, inner)))

pub returns : goal.returns
returns c =
    let n = c.args.n in
    let xs = resources_in n c.args.resources.now in
    placed_first _ _ xs no_resource (length-resources n c.args.resources.now) c.position.ensures.ran (λ i b q k. search rules) (λ i b q l k. search (rules, tests))
