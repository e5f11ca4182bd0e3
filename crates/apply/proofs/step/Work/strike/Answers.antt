-- `apply::step::Work::strike` meets its contract. Assumes nothing.
use mathlib.Core.Path.{sym, ◌∙◌}
use Rattle.apply.proofs.RevokeLaws.{strike-out, strike-lock, strike-in}
use Rattle.apply.proofs.step.Work.strike.Goals as goal

pub returns-then-not-has-clause-works : goal.returns-then-not-has-clause-works
returns-then-not-has-clause-works c = λ iv it. strike-out c.requires c.row_of-x.ensures iv it c.has.ensures c.if-not-has.true

pub returns-clause-works : goal.returns-clause-works
returns-clause-works c =
    λ iv it.
    strike-in c.requires c.row_of-x.ensures (sym c.has.ensures ∙ c.if-not-has.false) c.without-list.ensures c.relist.ensures iv it
    (c.lock_with.ensures.works iv it)

pub lock_with-requires : goal.lock_with-requires
lock_with-requires c =
    strike-lock c.requires c.row_of-x.ensures (sym c.has.ensures ∙ c.if-not-has.false) c.without-list.ensures c.relist.ensures
