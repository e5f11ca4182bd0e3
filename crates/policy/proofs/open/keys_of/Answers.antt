-- `policy::open::keys_of` meets its contract. Assumes nothing.
use mathlib.Core.Path.{refl}
use Rattle.policy.proofs.OpenLaws.{counts, keys-are}
use Rattle.policy.proofs.open.keys_of.Goals as goal

pub resource_in-x-requires : goal.resource_in-x-requires
resource_in-x-requires c = ((counts _ _ c.requires.ready).room.resources, c.requires.r_lt_resources)

pub returns : goal.returns
returns c =
    keys-are _ _ c.requires.ready c.requires.r_lt_resources c.resource_in-x.ensures c.inner_layer.ensures.layer c.inner_layer.result.laid
    c.outer_layer.ensures c.outer_layer.result.laid refl refl
