-- `layer::laid::Foreseen::in_table` meets its contract. Assumes nothing.
use mathlib.Core.List.{append-nil}
use Rattle.layer.specs.Seen.{seen_sets}
use Rattle.layer.proofs.laid.Foreseen.in_table.Goals as goal

pub returns-clause-sets_value : goal.returns-clause-sets_value
unfolding seen_sets
returns-clause-sets_value c = rw c.as_laid.ensures (append-nil _)
