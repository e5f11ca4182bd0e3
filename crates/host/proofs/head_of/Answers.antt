-- `head_of` meets its contract. Assumes nothing.
use lib.ListN.{get_or}
use Rattle.rules.specs.Bytes.{head}
use Rattle.host.proofs.head_of.Goals as goal

pub returns : goal.returns
returns c =
    let numbers = c.args.head.now in
    λ i. head (get_or numbers 0 0) (c.new-users.ensures i) (c.new-resources.ensures i) (c.new-inner_vertices.ensures i) (c.new-inner_tokens.ensures i) (c.new-outer_vertices.ensures i) (c.new-outer_tokens.ensures i) (c.leavers_of-leavers.ensures i)
