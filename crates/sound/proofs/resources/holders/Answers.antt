-- `sound::resources::holders` meets its contract.
-- Assumes nothing.
use Rattle.std.proofs.Common.{arith, ◌∙◌, ap₂, ◌<◌}
use Rattle.sets.specs.Sets.{union}
use Rattle.rules.specs.Holders.{holders, by_token}
use Rattle.layer.specs.Laid.{max_vertices}
use Rattle.sound.proofs.resources.holders.Goals as goal

pub returns : goal.returns
unfolding holders by_token
returns c =
    let cell : c.args.v.0 < max_vertices = omega arith in
    c.union.ensures ∙ ap₂ union c.set_of.ensures (c.requires.unions c.args.v.0 cell)
