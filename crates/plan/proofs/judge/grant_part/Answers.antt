-- `plan::judge::grant_part` meets its contract. Assumes nothing.
use Rattle.layer.specs.Laid.{resource_is}
use Rattle.plan.proofs.PartLaws.{grant-parts}
use Rattle.plan.proofs.judge.grant_part.Goals as goal

pub returns-clause-value : goal.returns-clause-value
returns-clause-value c =
    let a = c.args in
    grant-parts _ _ _ _ _ (resource_is a.x) a.p c.with.ensures c.settled-s.ensures.value c.waiting-n.ensures.value c.with_neighbours.ensures.value
