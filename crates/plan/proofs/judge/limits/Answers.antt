-- `plan::judge::limits` meets its contract. Assumes nothing.
use Rattle.plan.proofs.PartLaws.{groups-full, inner-full, outer-full, list-short, all-within}
use Rattle.plan.proofs.judge.limits.Goals as goal

pub returns-then-a : goal.returns-then-a
returns-then-a c = groups-full _ _ _ c.if-a.true

pub returns-then-a-2 : goal.returns-then-a-2
returns-then-a-2 c = inner-full _ _ _ c.if-a.false c.if-a-2.true

pub returns-then-a-3 : goal.returns-then-a-3
returns-then-a-3 c = outer-full _ _ _ c.if-a.false c.if-a-2.false c.if-a-3.true

pub returns-then-a-room : goal.returns-then-a-room
returns-then-a-room c = list-short _ _ _ c.if-a.false c.if-a-2.false c.if-a-3.false c.if-a-room.true

pub returns : goal.returns
returns c = all-within _ _ _ c.if-a.false c.if-a-2.false c.if-a-3.false c.if-a-room.false
