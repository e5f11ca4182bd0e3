-- `plan::book::SoundBook::judge_join` meets its contract. Assumes nothing.
use Rattle.plan.proofs.JudgeLaws.{join-full, join-short, join-judged}
use Rattle.plan.proofs.book.SoundBook.judge_join.Goals as goal

pub returns-then-h-ge-LIMIT : goal.returns-then-h-ge-LIMIT
returns-then-h-ge-LIMIT c = join-full _ _ _ _ _ _ c.args.self.now.ready _ c.if-h-ge-LIMIT.true

pub returns-then-room-lt2 : goal.returns-then-room-lt2
returns-then-room-lt2 c = join-short _ _ _ _ _ _ c.args.self.now.ready _ c.if-h-ge-LIMIT.false c.if-room-lt2.true

pub returns : goal.returns
returns c =
    join-judged _ _ _ _ _ _ c.args.self.now.ready _ c.if-h-ge-LIMIT.false c.if-room-lt2.false c.plain.ensures
