-- `orders::change` meets its contract. Assumes nothing.
use Rattle.std.proofs.Common.{◌∙◌, refl}
use Rattle.orders.proofs.Records.{zeros, zeros-length}
use Rattle.orders.proofs.Enough.{filled-counts, recorded-by}
use Rattle.orders.proofs.change.Goals as goal

pub store_rows-requires : goal.store_rows-requires
unfolding zeros
store_rows-requires c = filled-counts _ _ _ _ _ (rw c.in_ok-done.was at c.fill.ensures.change) refl (c.fill.auto.rows ∙ zeros-length)

pub returns-clause-change : goal.returns-clause-change
returns-clause-change c = recorded-by _ _ _ _ _ (rw c.in_ok-done.was at c.fill.ensures.change) refl c.store_rows.ensures
