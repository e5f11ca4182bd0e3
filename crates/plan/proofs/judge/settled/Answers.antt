-- `plan::judge::settled` meets its contract. Assumes nothing.
use Rattle.plan.proofs.PartLaws.{settled-bare, settled-free, settled-lock}
use Rattle.plan.proofs.judge.settled.Goals as goal

pub returns-then-not-free-clause-value : goal.returns-then-not-free-clause-value
returns-then-not-free-clause-value c = settled-lock c.args.free _ _ _ c.if-not-free.true c.lock_rows.ensures.value

pub returns-then-outer-eq-NONE-clause-value : goal.returns-then-outer-eq-NONE-clause-value
returns-then-outer-eq-NONE-clause-value c = settled-bare c.args.free _ _ _ c.if-not-free.false c.if-outer-eq-NONE.true

pub returns-clause-value : goal.returns-clause-value
returns-clause-value c = settled-free c.args.free _ _ _ c.if-not-free.false c.if-outer-eq-NONE.false
