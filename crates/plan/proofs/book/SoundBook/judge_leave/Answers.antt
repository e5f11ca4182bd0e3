-- `plan::book::SoundBook::judge_leave` meets its contract. Assumes nothing.
use Prim.Native.Nat.{◌≤◌, ◌<◌}
use mathlib.Core.Path.{sym, ◌∙◌}
use native.Mathlib.Omega.{arith}
use Rattle.plan.proofs.PartLaws.{users-within}
use Rattle.plan.proofs.ReadyLaws.{sizes}
use Rattle.plan.proofs.LeaveLaws.{leave-no-such, leave-left, leave-judged}
use Rattle.plan.proofs.book.SoundBook.judge_leave.Goals as goal

pub returns-then-u-h : goal.returns-then-u-h
returns-then-u-h c =
    let past : c.args.self.now.head.users.0 ≤ c.args.u.0 = omega arith in
    leave-no-such _ _ _ _ _ _ c.args.self.now.ready _ _ past

pub has-requires : goal.has-requires
has-requires c =
    let exists : let a = c.args in a.u.0 < a.self.now.head.users.0 = omega arith in
    omega (arith, exists, (sizes _ _ _ _ _ _ c.args.self.now.ready).users≤)

pub returns-then-has : goal.returns-then-has
returns-then-has c =
    let exists : let a = c.args in a.u.0 < a.self.now.head.users.0 = omega arith in
    leave-left _ _ _ _ _ _ c.args.self.now.ready _ _ exists (sym c.has.ensures ∙ c.if-has.true)

pub leave_part-p-requires : goal.leave_part-p-requires
leave_part-p-requires c =
    let exists : let a = c.args in a.u.0 < a.self.now.head.users.0 = omega arith in
    record {
      bytes_in_bounds = ((sizes _ _ _ _ _ _ c.args.self.now.ready).room.outer_vertices, (sizes _ _ _ _ _ _ c.args.self.now.ready).room.resources);
      resources_le_max_resources = omega (arith, exists, (sizes _ _ _ _ _ _ c.args.self.now.ready).users≤, (sizes _ _ _ _ _ _ c.args.self.now.ready).resources≤, (sizes _ _ _ _ _ _ c.args.self.now.ready).outer≤);
    }

pub limits-requires : goal.limits-requires
limits-requires c =
    users-within c.args.self.now.head _ _ _ c.rows_after.ensures (sizes _ _ _ _ _ _ c.args.self.now.ready).users≤

pub returns : goal.returns
returns c =
    let exists : let a = c.args in a.u.0 < a.self.now.head.users.0 = omega arith in
    leave-judged _ _ _ _ _ _ c.args.self.now.ready _ _ exists (sym c.has.ensures ∙ c.if-has.false)
    c.leave_part-p.ensures.value c.rows_after.ensures c.plain.ensures c.limits.ensures
