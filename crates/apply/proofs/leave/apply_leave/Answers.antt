-- `apply::leave::apply_leave` meets its contract. Assumes nothing.
use borrow.Author.Rules.{rules}
use native.Mathlib.Omega.{arith}
use Rattle.apply.proofs.ApplyLaws.{known}
use Rattle.apply.proofs.LeaveLaws.{leave-user, leave_none, leave_room, leave-next, leave-count, leave-done}
use Rattle.apply.proofs.leave.apply_leave.Goals as goal

pub loop-r-init : goal.loop-r-init
loop-r-init c = record { same = search rules; works = leave_none (known c.requires) }

pub strike-requires : goal.strike-requires
strike-requires c = leave_room (known c.requires) c.loop-r.invariant.works (omega arith)

pub loop-r-preserved : goal.loop-r-preserved
loop-r-preserved c =
    record { same = search rules; works = leave-next (known c.requires) c.loop-r.invariant.works (omega arith) (c.strike.ensures.works _ _) }

pub with-leavers-requires : goal.with-leavers-requires
with-leavers-requires c = omega (arith, leave-user (known c.requires))

pub answer-requires : goal.answer-requires
answer-requires c = leave-count (known c.requires) c.loop-r.invariant.works (omega arith)

pub returns-clause-value : goal.returns-clause-value
returns-clause-value c =
    let given = leave-done (known c.requires) c.loop-r.invariant.works (omega arith) c.with-leavers.ensures c.answer.ensures.bytes in
    search rules
