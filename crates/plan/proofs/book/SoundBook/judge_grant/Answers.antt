-- `plan::book::SoundBook::judge_grant` meets its contract. Assumes nothing.
use Rattle.std.proofs.lemmas.Result.{err_from_is_err_and}
use mathlib.Core.Path.{◌≡◌, sym, ap, ◌∙◌}
use mathlib.Core.Bool.{false}
use native.Mathlib.Omega.{arith}
use Rattle.sets.specs.Sets.{has}
use Rattle.sets.specs.Words.{set_in}
use Rattle.layer.specs.declared.walk.Shape.{Shape}
use Rattle.plan.proofs.PartLaws.{reach, after-token, users-within}
use Rattle.plan.proofs.ReadyLaws.{sizes, row-inner}
use Rattle.plan.proofs.JudgeLaws.{grant-no-such, grant-left, grant-listed, grant-judged}
use Rattle.plan.proofs.book.SoundBook.judge_grant.Goals as goal

pub returns-in_err-exist : goal.returns-in_err-exist
returns-in_err-exist c =
    let p = err_from_is_err_and c.from_residual.result c.from_residual.ensures.1 in
    rw (p.1, p.2) (grant-no-such _ _ _ _ _ _ c.args.self.now.ready _ _ _ c.exist.ensures c.in_err-exist.was)

pub has-requires : goal.has-requires
has-requires c =
    let on = reach _ _ _ _ _ _ c.args.self.now.ready _ _ c.exist.ensures c.in_ok-exist.was in
    omega (arith, on.user)

pub returns-then-has : goal.returns-then-has
returns-then-has c =
    grant-left _ _ _ _ _ _ c.args.self.now.ready _ _ _ c.exist.ensures c.in_ok-exist.was (sym c.has.ensures ∙ c.if-has.true)

pub resource_in-x-requires : goal.resource_in-x-requires
resource_in-x-requires c =
    let on = reach _ _ _ _ _ _ c.args.self.now.ready _ _ c.exist.ensures c.in_ok-exist.was in
    omega (arith, on.row, on.sizes.room.resources)

pub has-requires-2 : goal.has-requires-2
has-requires-2 c =
    let on = reach _ _ _ _ _ _ c.args.self.now.ready _ _ c.exist.ensures c.in_ok-exist.was in
    omega (arith, on.user)

pub returns-then-has-2 : goal.returns-then-has-2
returns-then-has-2 c =
    let stays : let a = c.args in has (set_in a.self.now.head.leavers) a.u.0 ≡ false = sym c.has.ensures ∙ c.if-has.false in
    grant-listed _ _ _ _ _ _ c.args.self.now.ready _ _ _ c.exist.ensures c.in_ok-exist.was c.resource_in-x.ensures c.has-2.ensures stays c.if-has-2.true

pub grant_plan-p-requires : goal.grant_plan-p-requires
grant_plan-p-requires c =
    let on = reach _ _ _ _ _ _ c.args.self.now.ready _ _ c.exist.ensures c.in_ok-exist.was in
    omega (arith, ap (λ (s : Shape). s.vertices) c.inner_layer.ensures.shape, row-inner _ _ _ _ _ _ c.args.self.now.ready _ on.row c.resource_in-x.ensures, on.user)

pub grant_part-s-requires : goal.grant_part-s-requires
grant_part-s-requires c =
    let on = reach _ _ _ _ _ _ c.args.self.now.ready _ _ c.exist.ensures c.in_ok-exist.was in
    (on.sizes.room.outer_vertices, on.sizes.room.resources, omega (arith, on.user))

pub limits-requires : goal.limits-requires
limits-requires c =
    users-within c.args.self.now.head _ _ _ c.rows_after.ensures (sizes _ _ _ _ _ _ c.args.self.now.ready).users≤

pub returns : goal.returns
returns c =
    let stays : let a = c.args in has (set_in a.self.now.head.leavers) a.u.0 ≡ false = sym c.has.ensures ∙ c.if-has.false in
    grant-judged _ _ _ _ _ _ c.args.self.now.ready _ _ _ c.exist.ensures c.in_ok-exist.was c.resource_in-x.ensures c.has-2.ensures
    stays c.if-has-2.false c.inner_layer.ensures.layer c.grant_plan-p.ensures c.grant_part-s.ensures.value (after-token c.args.self.now.head _ _ c.from-more.ensures c.rows_after.ensures) c.limits.ensures
