-- `apply::step::Work::settle` meets its contract. Assumes nothing.
use mathlib.Core.Path.{refl}
use Rattle.apply.proofs.WorksLaws.{works-same, settle-free, settle-lock}
use Rattle.apply.proofs.step.Work.settle.Goals as goal

pub returns-then-free-clause-works : goal.returns-then-free-clause-works
returns-then-free-clause-works c =
    let same = c.unlock.ensures.outer_same in
    λ iv it.
    settle-free _ _ _ _ c.if-free.true (works-same same.vertices same.tokens refl (c.unlock.ensures.works iv it _ _))

pub returns-else-free-clause-works : goal.returns-else-free-clause-works
returns-else-free-clause-works c = λ iv it. settle-lock _ _ _ _ c.if-free.false (c.lock_with.ensures.works iv it)
