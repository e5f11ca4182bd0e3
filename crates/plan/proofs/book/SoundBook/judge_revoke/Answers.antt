-- `plan::book::SoundBook::judge_revoke` meets its contract. Assumes nothing.
use Rattle.std.proofs.lemmas.Result.{err_from_is_err_and}
use native.Mathlib.Omega.{arith}
use Rattle.plan.proofs.PartLaws.{reach, users-within}
use Rattle.plan.proofs.ReadyLaws.{sizes}
use Rattle.plan.proofs.JudgeLaws.{revoke-no-such, revoke-unlisted, revoke-judged}
use Rattle.plan.proofs.book.SoundBook.judge_revoke.Goals as goal

pub returns-in_err-exist : goal.returns-in_err-exist
returns-in_err-exist c =
    let p = err_from_is_err_and c.from_residual.result c.from_residual.ensures.1 in
    rw (p.1, p.2) (revoke-no-such _ _ _ _ _ _ c.args.self.now.ready _ _ _ c.exist.ensures c.in_err-exist.was)

pub resource_in-x-requires : goal.resource_in-x-requires
resource_in-x-requires c =
    let on = reach _ _ _ _ _ _ c.args.self.now.ready _ _ c.exist.ensures c.in_ok-exist.was in
    omega (arith, on.row, on.sizes.room.resources)

pub has-requires : goal.has-requires
has-requires c =
    let on = reach _ _ _ _ _ _ c.args.self.now.ready _ _ c.exist.ensures c.in_ok-exist.was in
    omega (arith, on.user)

pub returns-then-not-has : goal.returns-then-not-has
returns-then-not-has c =
    revoke-unlisted _ _ _ _ _ _ c.args.self.now.ready _ _ _ c.exist.ensures c.in_ok-exist.was c.resource_in-x.ensures c.has.ensures
    (c.if-not-has.true)

pub without-requires : goal.without-requires
without-requires c =
    let on = reach _ _ _ _ _ _ c.args.self.now.ready _ _ c.exist.ensures c.in_ok-exist.was in
    omega (arith, on.user)

pub lock_rows-s-requires : goal.lock_rows-s-requires
lock_rows-s-requires c =
    omega (arith, (sizes _ _ _ _ _ _ c.args.self.now.ready).room.outer_vertices)

pub limits-requires : goal.limits-requires
limits-requires c =
    users-within c.args.self.now.head _ _ _ c.rows_after.ensures (sizes _ _ _ _ _ _ c.args.self.now.ready).users≤

pub returns : goal.returns
returns c =
    revoke-judged _ _ _ _ _ _ c.args.self.now.ready _ _ _ c.exist.ensures c.in_ok-exist.was c.resource_in-x.ensures c.has.ensures
    (c.if-not-has.false) c.without.ensures c.lock_rows-s.ensures.value c.rows_after.ensures c.plain.ensures c.limits.ensures
