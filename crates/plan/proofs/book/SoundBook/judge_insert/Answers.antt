-- `plan::book::SoundBook::judge_insert` meets its contract. Assumes nothing.
use Prim.Native.Nat.{◌^◌}
use mathlib.Core.Path.{◌≡◌, sym, ◌∙◌}
use mathlib.Core.Bool.{true}
use mathlib.Core.Logic.{◌≢◌}
use native.Mathlib.Omega.{arith}
use lib.Dec.{ltb}
use borrow.Author.Tests.{ltb-true}
use Rattle.sets.specs.Sets.{apart}
use Rattle.sets.specs.Words.{set_in}
use Rattle.plan.proofs.PartLaws.{none-listed, some-listed, users-within}
use Rattle.plan.proofs.ReadyLaws.{sizes}
use Rattle.plan.proofs.JudgeLaws.{insert-no-such, insert-left, insert-empty, insert-full, insert-judged}
use Rattle.plan.proofs.book.SoundBook.judge_insert.Goals as goal

pub below-requires : goal.below-requires
below-requires c =
    omega (arith, (sizes _ _ _ _ _ _ c.args.self.now.ready).users≤)

pub returns-then-not-below : goal.returns-then-not-below
returns-then-not-below c =
    insert-no-such _ _ _ _ _ _ c.args.self.now.ready _ _ (sym c.below.ensures ∙ c.if-not-below.true)

pub returns-then-not-apart : goal.returns-then-not-apart
returns-then-not-apart c =
    let joined : let a = c.args in ltb (set_in a.l) (2 ^ a.self.now.head.users.0) ≡ true = sym c.below.ensures ∙ c.if-not-below.false in
    insert-left _ _ _ _ _ _ c.args.self.now.ready _ _ joined (sym c.apart.ensures ∙ c.if-not-apart.true)

pub returns-then-eq : goal.returns-then-eq
returns-then-eq c =
    let joined : let a = c.args in ltb (set_in a.l) (2 ^ a.self.now.head.users.0) ≡ true = sym c.below.ensures ∙ c.if-not-below.false in
    let stay : let a = c.args in apart (set_in a.l) (set_in a.self.now.head.leavers) ≡ true = sym c.apart.ensures ∙ c.if-not-apart.false in
    insert-empty _ _ _ _ _ _ c.args.self.now.ready _ _ joined stay (none-listed _ c.empty.ensures c.eq.ensures c.if-eq.true)

pub returns-then-h-ge-LIMIT : goal.returns-then-h-ge-LIMIT
returns-then-h-ge-LIMIT c =
    let joined : let a = c.args in ltb (set_in a.l) (2 ^ a.self.now.head.users.0) ≡ true = sym c.below.ensures ∙ c.if-not-below.false in
    let stay : let a = c.args in apart (set_in a.l) (set_in a.self.now.head.leavers) ≡ true = sym c.apart.ensures ∙ c.if-not-apart.false in
    let filled : set_in c.args.l ≢ 0 = some-listed _ c.empty.ensures c.eq.ensures c.if-eq.false in
    insert-full _ _ _ _ _ _ c.args.self.now.ready _ _ joined stay filled c.if-h-ge-LIMIT.true

pub new_rows-i-requires : goal.new_rows-i-requires
new_rows-i-requires c =
    ((sizes _ _ _ _ _ _ c.args.self.now.ready).room.inner_vertices, omega (arith, (sizes _ _ _ _ _ _ c.args.self.now.ready).inner≤))

pub settled-s-requires : goal.settled-s-requires
settled-s-requires c =
    (sizes _ _ _ _ _ _ c.args.self.now.ready).room.outer_vertices

pub limits-requires : goal.limits-requires
limits-requires c =
    users-within c.args.self.now.head _ _ _ c.rows_after-a.ensures (sizes _ _ _ _ _ _ c.args.self.now.ready).users≤

pub returns : goal.returns
returns c =
    let joined : let a = c.args in ltb (set_in a.l) (2 ^ a.self.now.head.users.0) ≡ true = sym c.below.ensures ∙ c.if-not-below.false in
    let stay : let a = c.args in apart (set_in a.l) (set_in a.self.now.head.leavers) ≡ true = sym c.apart.ensures ∙ c.if-not-apart.false in
    let filled : set_in c.args.l ≢ 0 = some-listed _ c.empty.ensures c.eq.ensures c.if-eq.false in
    insert-judged _ _ _ _ _ _ c.args.self.now.ready _ _ (ltb-true _ _ joined) stay filled c.if-h-ge-LIMIT.false c.inner_layer.ensures.layer c.insert_free-free.ensures
    c.new_rows-i.ensures.vertices_value c.new_rows-i.ensures.tokens_value c.settled-s.ensures.value c.rows_after-a.ensures c.plain.ensures c.limits.ensures
