-- `apply::step::Work::lock_with` meets its contract. Assumes nothing.
use mathlib.Core.Path.{refl}
use Rattle.apply.proofs.WorksLaws.{lock-counts, works-lock}
use Rattle.apply.proofs.step.Work.lock_with.Goals as goal

pub with_outer-self-requires : goal.with_outer-self-requires
with_outer-self-requires c = lock-counts c.requires c.outer_shape.ensures c.vertex_for-m.ensures

pub returns-clause-works : goal.returns-clause-works
returns-clause-works c =
    λ iv it.
    works-lock c.requires c.outer_shape.ensures c.vertex_for-m.ensures iv it c.relock.ensures.resources c.relock.ensures.orders_after refl c.with_outer-self.ensures
