-- `sound::resources::placed` meets its contract: one test after the other.
-- Assumes nothing.
use Rattle.std.proofs.Common.{◌≡◌, ◌&&◌, ◌||◌, ◌∙◌, not}
use lib.Dec.{ltb}
use borrow.Author.Tests.{eq-eqb, ne_eqb}
use Rattle.rules.specs.Book.{has_outer}
use Rattle.layer.specs.Laid.{resource_is}
use Rattle.sound.proofs.Verdicts.{first-yes, first-no}
use Rattle.sound.proofs.resources.placed.Goals.{then-below, else-below, then-x-inner+then-x-eq-NONE, then-x-inner+else-x-eq-NONE, else-x-inner}
use Rattle.sound.proofs.resources.placed.Goals as goal

pub returns-then-x-outer : goal.returns-then-x-outer
unfolding has_outer
returns-then-x-outer c =
    let x = resource_is c.args.x in
    let there = not (has_outer x) || ltb x.outer c.args.outer in
    let two : c.if-below.value ≡ (c.below.result && ltb x.inner c.args.inner) = elim c.if-below.branch [
      | then-below w ↦ first-yes w.if-below.true w.value-is
      | else-below w ↦ first-no _ w.if-below.false w.value-is
    ] in
    let three : c.if-x-inner.value ≡ (c.if-below.value && there) = elim c.if-x-inner.branch [
      | then-x-inner+then-x-eq-NONE w ↦ first-yes w.if-x-inner.true (w.value-is ∙ rw (eq-eqb _ _ w.if-x-eq-NONE.true))
      | then-x-inner+else-x-eq-NONE w ↦ first-yes w.if-x-inner.true (w.value-is ∙ rw (ne_eqb _ _ w.if-x-eq-NONE.false))
      | else-x-inner w ↦ first-no _ w.if-x-inner.false w.value-is
    ] in
    rw (← c.below.ensures, ← c.apart.ensures, ← two, ← three, c.if-x-outer.true)

pub returns-else-x-outer : goal.returns-else-x-outer
unfolding has_outer
returns-else-x-outer c =
    let x = resource_is c.args.x in
    let there = not (has_outer x) || ltb x.outer c.args.outer in
    let two : c.if-below.value ≡ (c.below.result && ltb x.inner c.args.inner) = elim c.if-below.branch [
      | then-below w ↦ first-yes w.if-below.true w.value-is
      | else-below w ↦ first-no _ w.if-below.false w.value-is
    ] in
    let three : c.if-x-inner.value ≡ (c.if-below.value && there) = elim c.if-x-inner.branch [
      | then-x-inner+then-x-eq-NONE w ↦ first-yes w.if-x-inner.true (w.value-is ∙ rw (eq-eqb _ _ w.if-x-eq-NONE.true))
      | then-x-inner+else-x-eq-NONE w ↦ first-yes w.if-x-inner.true (w.value-is ∙ rw (ne_eqb _ _ w.if-x-eq-NONE.false))
      | else-x-inner w ↦ first-no _ w.if-x-inner.false w.value-is
    ] in
    rw (← c.below.ensures, ← two, ← three, c.if-x-outer.false)
