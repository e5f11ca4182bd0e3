-- `policy::open::put_chains` meets its contract. Assumes nothing.
use Rattle.policy.proofs.OpenLaws.{inner_room, outer-room, both_stored}
use Rattle.policy.proofs.open.put_chains.Goals as goal

pub inner_rows-requires-clause-v_in_bounds : goal.inner_rows-requires-clause-v_in_bounds
inner_rows-requires-clause-v_in_bounds c = inner_room c.keys_of-k.ensures c.requires.opening _ c.requires.r_in_bounds

pub outer_rows-requires-clause-v_in_bounds : goal.outer_rows-requires-clause-v_in_bounds
outer_rows-requires-clause-v_in_bounds c = outer-room c.keys_of-k.ensures c.requires.opening _ c.requires.r_in_bounds c.requires.at_value c.inner_rows.ensures

pub returns : goal.returns
returns c = both_stored c.keys_of-k.ensures c.requires.opening _ c.requires.r_in_bounds c.requires.at_value c.inner_rows.ensures c.outer_rows.ensures
