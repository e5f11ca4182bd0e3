-- `apply::step::Work::encrypt` meets its contract. Assumes nothing.
use Rattle.apply.proofs.WorksLaws.{works-told}
use Rattle.apply.proofs.step.Work.encrypt.Goals as goal

pub returns-clause-works : goal.returns-clause-works
returns-clause-works c = λ iv it. works-told _ _ _ _ _ _ c.put_order.ensures
