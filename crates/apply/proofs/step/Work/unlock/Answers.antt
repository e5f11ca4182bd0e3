-- `apply::step::Work::unlock` meets its contract. Assumes nothing.
use Rattle.apply.proofs.WorksLaws.{unlock-none, unlock-relocked}
use Rattle.apply.proofs.step.Work.unlock.Goals as goal

pub returns-then-outer-eq-NONE-clause-works : goal.returns-then-outer-eq-NONE-clause-works
returns-then-outer-eq-NONE-clause-works c = λ iv it ov ot. unlock-none _ c.if-outer-eq-NONE.true

pub returns-clause-works : goal.returns-clause-works
returns-clause-works c = λ iv it ov ot. unlock-relocked _ c.if-outer-eq-NONE.false c.relock.ensures.resources c.relock.ensures.orders_after
