-- `policy::open::view_of` meets its contract. Assumes nothing.
use Rattle.policy.proofs.OpenLaws.{view-is}
use Rattle.policy.proofs.open.view_of.Goals as goal

pub returns : goal.returns
returns c = view-is c.keys_of-k.ensures _ c.all_holders.ensures c.has-inner.ensures c.outer_known-outer.ensures c.view_by.ensures
