-- `policy::open::outer_rows` meets its contract. Assumes nothing.
use mathlib.Core.Path.{sym}
use Rattle.rows.proofs.Laws.{stored-none}
use Rattle.policy.proofs.open.outer_rows.Goals as goal

pub returns-else-v-ne-NONE : goal.returns-else-v-ne-NONE
returns-else-v-ne-NONE c = rw c.if-v-ne-NONE.false (sym (stored-none 0 _))
