-- `apply::step::Work::lock_waiting` meets its contract. Assumes nothing.
use mathlib.Core.Path.{sym, ◌∙◌}
use Rattle.std.proofs.lemmas.List.{nil_from_length}
use native.Mathlib.Omega.{arith}
use Rattle.apply.proofs.GrantWorks.{group-none, some_left, some-wait, relocks-room, told-long, counts-room, works-group}
use Rattle.apply.proofs.step.Work.lock_waiting.Goals as goal

pub returns-then-count_waiting-eq0-clause-works : goal.returns-then-count_waiting-eq0-clause-works
returns-then-count_waiting-eq0-clause-works c = λ iv it. group-none _ (nil_from_length _ (sym c.count_waiting.ensures ∙ c.if-count_waiting-eq0.true))

pub relock_waiting-self-requires-clause-list_in_bounds : goal.relock_waiting-self-requires-clause-list_in_bounds
relock_waiting-self-requires-clause-list_in_bounds c =
    let any = some_left c.count_waiting.ensures c.if-count_waiting-eq0.false in
    let e = some-wait _ _ _ _ _ any in
    omega (arith, relocks-room c.requires any c.outer_shape.ensures c.vertex_for-m.ensures e, told-long c.requires any c.outer_shape.ensures c.vertex_for-m.ensures)

pub with_outer-self-requires : goal.with_outer-self-requires
with_outer-self-requires c =
    counts-room c.requires (some_left c.count_waiting.ensures c.if-count_waiting-eq0.false) c.outer_shape.ensures c.vertex_for-m.ensures

pub returns-clause-works : goal.returns-clause-works
returns-clause-works c =
    let any = some_left c.count_waiting.ensures c.if-count_waiting-eq0.false in
    let ends = c.relock_waiting-self.ensures in
    λ iv it.
    works-group c.requires any c.outer_shape.ensures c.vertex_for-m.ensures iv it (some-wait _ _ _ _ _ any) ends.resources ends.orders_after ends.value c.with_outer-self.ensures
