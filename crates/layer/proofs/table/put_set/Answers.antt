-- `layer::table::put_set` meets its contract. Assumes nothing.
use Rattle.rules.specs.Bytes.{set_row}
use Rattle.layer.proofs.table.put_set.Goals as goal

pub returns : goal.returns
unfolding set_row
returns c = c.put.ensures
