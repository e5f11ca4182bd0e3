-- `plan::waiting::waits` meets its contract. Assumes nothing.
use mathlib.Core.Path.{◌∙◌}
use Rattle.layer.specs.Laid.{resource_is}
use Rattle.plan.proofs.WaitLaws.{itself, same-vertex, other-vertex}
use Rattle.plan.proofs.waiting.waits.Goals as goal

pub returns-then-i-r : goal.returns-then-i-r
returns-then-i-r c = itself _ _ _ _ _ c.if-i-r.true

pub returns-then-x-inner : goal.returns-then-x-inner
returns-then-x-inner c =
    c.eq.ensures
    ∙ same-vertex _ _ _ _ _ c.if-i-r.false (resource_is c.resource_in-x.result) c.resource_in-x.ensures c.if-x-inner.true

pub returns-else-x-inner : goal.returns-else-x-inner
returns-else-x-inner c =
    other-vertex _ _ _ _ _ c.if-i-r.false (resource_is c.resource_in-x.result) c.resource_in-x.ensures c.if-x-inner.false
