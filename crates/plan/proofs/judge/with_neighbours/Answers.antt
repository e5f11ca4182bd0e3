-- `plan::judge::with_neighbours` meets its contract. Assumes nothing.
use Rattle.plan.proofs.PartLaws.{none-waiting, some-waiting}
use Rattle.plan.proofs.judge.with_neighbours.Goals as goal

pub returns-then-n-eq0-clause-value : goal.returns-then-n-eq0-clause-value
returns-then-n-eq0-clause-value c = none-waiting _ _ _ _ c.if-n-eq0.true

pub returns-clause-value : goal.returns-clause-value
returns-clause-value c = some-waiting _ _ _ _ c.if-n-eq0.false c.lock_rows.ensures.value c.add.ensures
