-- `sound::resources::locked` meets its contract.
-- Assumes nothing.
use Rattle.std.proofs.Common.{◌≡◌, sym, ap, ◌∙◌}
use mathlib.Core.Bool.{Bool, true, false, ◌&&◌, and-false, not-not}
use lib.Dec.{eqb}
use borrow.Author.Tests.{eq-eqb, ne_eqb}
use Rattle.sets.specs.Words.{set_in}
use Rattle.rules.specs.Book.{has_outer}
use Rattle.sound.proofs.resources.locked.Goals.{else-is_delta-via-then-is_delta+else-eq, else-is_delta-via-else-is_delta}
use Rattle.sound.proofs.resources.locked.Goals as goal

pub returns-then-eq : goal.returns-then-eq
unfolding has_outer
returns-then-eq c =
    let free : let a = c.args in (eqb a.mode.0 1 && eqb (set_in a.holders) (set_in a.x.list)) ≡ true = rw (← c.is_delta.ensures, c.if-is_delta.true) (sym c.eq.ensures ∙ c.if-eq.true) in
    rw (free, not-not)

pub returns-then-not-none : goal.returns-then-not-none
unfolding has_outer
returns-then-not-none c =
    let bound : let a = c.args in (eqb a.mode.0 1 && eqb (set_in a.holders) (set_in a.x.list)) ≡ false = let delta = eqb c.args.mode.0 1 in
    elim c.else-is_delta.branch [
      | else-is_delta-via-then-is_delta+else-eq w ↦ ap (λ (b : Bool). delta && b) (sym w.eq.ensures ∙ w.if-eq.false) ∙ and-false delta
      | else-is_delta-via-else-is_delta w ↦ rw (← c.is_delta.ensures, w.if-is_delta.false)
    ] in
    c.eq-then-not-none.ensures ∙ rw (bound, ne_eqb _ _ c.if-not-none.true, c.set_of.ensures)

pub returns-else-not-none : goal.returns-else-not-none
unfolding has_outer
returns-else-not-none c =
    let bound : let a = c.args in (eqb a.mode.0 1 && eqb (set_in a.holders) (set_in a.x.list)) ≡ false = let delta = eqb c.args.mode.0 1 in
    elim c.else-is_delta.branch [
      | else-is_delta-via-then-is_delta+else-eq w ↦ ap (λ (b : Bool). delta && b) (sym w.eq.ensures ∙ w.if-eq.false) ∙ and-false delta
      | else-is_delta-via-else-is_delta w ↦ rw (← c.is_delta.ensures, w.if-is_delta.false)
    ] in
    rw (bound, eq-eqb _ _ c.if-not-none.false)
