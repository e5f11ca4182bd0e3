-- `layer::laid::Foreseen::cover` meets its contract: at each turn of the loops, what is taken and what is left to take are the cover. Assumes nothing.
use Rattle.std.proofs.Common.{sym, ap₂, ◌∙◌, refl, ℕ, arith}
use borrow.Author.Tests.{eqb-true}
use Rattle.sets.specs.Words.{set_in}
use Rattle.layer.specs.Lent.{sets_then}
use Rattle.layer.proofs.SeenLaws.{length_seen}
use Rattle.layer.proofs.CoverLaws.{lower, cover-short, rest-covered, lower-start, lower_end, taken-all, left-start, left-end, walk-outside, walk-miss, walk-room, walk-hit}
use Rattle.layer.proofs.laid.Foreseen.cover.Goals as goal
use Rattle.layer.proofs.laid.Foreseen.cover.Goals.{else-within-via-then-within+else-is_fresh, else-within-via-else-within}

pub sizes-init : goal.sizes-init
sizes-init c =
    let s = set_in c.args.s in
    let sets = sets_then c.args.self.now in
    record {
      all = ap₂ (λ (k z : ℕ). lower s sets k z) c.size-k.ensures.value c.empty-covered.ensures ∙ lower-start s sets;
      few = omega arith;
      places = refl;
    }

pub loop-v-init : goal.loop-v-init
loop-v-init c = left-start c.sizes.invariant c.sizes-test.true

pub sizes-preserved : goal.sizes-preserved
sizes-preserved c = left-end c.loop-v-2.invariant (omega (arith, length_seen _ _ _ _ c.args.self.now.seen_in)) c.in_default.ensures.steps

pub loop-v-2-preserved : goal.loop-v-2-preserved
loop-v-2-preserved c =
    elim c.else-within.branch [
      | else-within-via-then-within+else-is_fresh w ↦ walk-miss c.loop-v-2.invariant (omega (arith, length_seen _ _ _ _ c.args.self.now.seen_in)) c.in-Some.ensures.steps c.set_of-x.ensures (sym c.within.ensures ∙ w.if-within.true) (omega (arith, c.size-k.ensures.value)) w.is_fresh.ensures w.if-is_fresh.false
      | else-within-via-else-within w ↦ walk-outside c.loop-v-2.invariant (omega (arith, length_seen _ _ _ _ c.args.self.now.seen_in)) c.in-Some.ensures.steps c.set_of-x.ensures (sym c.within.ensures ∙ w.if-within.false)
    ]

pub bounds-from-count : goal.bounds-from-count
bounds-from-count c =
    walk-room c.loop-v-2.invariant (omega (arith, length_seen _ _ _ _ c.args.self.now.seen_in)) c.in-Some.ensures.steps c.set_of-x.ensures
    (sym c.within.ensures ∙ c.if-within.true) (omega (arith, c.size-k.ensures.value)) c.is_fresh.ensures c.if-is_fresh.true
    (cover-short _ _ c.size-k.ensures.value c.size-k.ensures.upper_bound)

pub loop-v-smaller : goal.loop-v-smaller
loop-v-smaller c =
    let room = walk-room c.loop-v-2.invariant (omega (arith, length_seen _ _ _ _ c.args.self.now.seen_in)) c.in-Some.ensures.steps c.set_of-x.ensures
    (sym c.within.ensures ∙ c.if-within.true) (omega (arith, c.size-k.ensures.value)) c.is_fresh.ensures c.if-is_fresh.true
    (cover-short _ _ c.size-k.ensures.value c.size-k.ensures.upper_bound) in
    omega (arith, room)

pub loop-v-preserved : goal.loop-v-preserved
loop-v-preserved c =
    walk-hit c.loop-v-2.invariant (omega (arith, length_seen _ _ _ _ c.args.self.now.seen_in)) c.in-Some.ensures.steps c.set_of-x.ensures
    (sym c.within.ensures ∙ c.if-within.true) (omega (arith, c.size-k.ensures.value)) c.is_fresh.ensures c.if-is_fresh.true
    (cover-short _ _ c.size-k.ensures.value c.size-k.ensures.upper_bound) c.set_of.ensures c.union-covered.ensures

-- nothing is left to take: no set is smaller, or all of s are covered
pub invariant_of-result-2 : goal.invariant_of-result-2
invariant_of-result-2 c = record { few = c.sizes.invariant.few }

pub returns : goal.returns
returns c = taken-all c.sizes.invariant (lower_end _ _ _ _ c.sizes-test.false)

pub invariant_of-result : goal.invariant_of-result
invariant_of-result c =
    let on = walk-hit c.loop-v-2.invariant (omega (arith, length_seen _ _ _ _ c.args.self.now.seen_in)) c.in-Some.ensures.steps c.set_of-x.ensures
    (sym c.within.ensures ∙ c.if-within.true) (omega (arith, c.size-k.ensures.value)) c.is_fresh.ensures c.if-is_fresh.true
    (cover-short _ _ c.size-k.ensures.value c.size-k.ensures.upper_bound) c.set_of.ensures c.union-covered.ensures in
    record { few = on.taken.few }

pub returns-then-eq : goal.returns-then-eq
returns-then-eq c =
    let on = walk-hit c.loop-v-2.invariant (omega (arith, length_seen _ _ _ _ c.args.self.now.seen_in)) c.in-Some.ensures.steps c.set_of-x.ensures
    (sym c.within.ensures ∙ c.if-within.true) (omega (arith, c.size-k.ensures.value)) c.is_fresh.ensures c.if-is_fresh.true
    (cover-short _ _ c.size-k.ensures.value c.size-k.ensures.upper_bound) c.set_of.ensures c.union-covered.ensures in
    taken-all on.taken (rest-covered _ _ _ _ _ (eqb-true _ _ (sym c.eq.ensures ∙ c.if-eq.true)))
