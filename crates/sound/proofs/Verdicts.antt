-- The answer of the check: 13, then 12, then a sound book.
-- Assumes nothing.
use Rattle.std.specs.Prelude.{Result, Ok, Err, is_ok}
use Prim.Native.Nat.{◌+◌, ◌*◌}
use mathlib.Core.Path.{◌≡◌, refl, sym, ap, ◌∙◌}
use mathlib.Core.Bool.{Bool, true, false, ◌&&◌, ◌||◌, not}
use mathlib.Core.Option.{Option, some, none}
use lib.Dec.{ltb, leb}
use lib.ListN.{length}
use borrow.Author.Tests.{not-true, not-false}
use Rattle.sets.specs.Words.{bytes}
use Rattle.rules.specs.Bytes.{Tables, book_in}
use Rattle.rules.specs.Tests.{first_rule, is_none}
use Rattle.rules.specs.Sound.{rules, sound, max_users, max_resources, max_tokens, max_groups}
use Rattle.rules.specs.Refusals.{short, common, verdict}
use Rattle.rules.specs.declared.Head.{Head}
use Rattle.rules.specs.declared.Refusal.TheVariants.{ShortTable, Unsound}
use Rattle.rules.specs.declared.Letter.{Letter}
use Rattle.rules.specs.declared.Spot.{Spot}
use Rattle.theorems.proofs.TestedLaws.{sound-nowhere}
use Rattle.theorems.proofs.FaultLaws.{not-less}
use Rattle.sound.specs.Check.{counts_of, unless, checked}
use Rattle.sound.proofs.RulePlaces.{counts-of}

none-of-five : (a b c d e : Bool) → (not a && not b && not c && not d && not e) ≡ not (a || b || c || d || e)
none-of-five true b c d e = refl
none-of-five false true c d e = refl
none-of-five false false true d e = refl
none-of-five false false false true e = refl
none-of-five false false false false e = refl

-- no table is short
pub long-is : (t : Tables)
    → (leb ((max_users + max_resources) * bytes) (length t.inner_vertices) && leb (max_tokens * 5) (length t.inner_tokens)
    && leb ((max_users + max_groups) * bytes) (length t.outer_vertices) && leb (max_tokens * 4) (length t.outer_tokens)
    && leb (max_resources * (bytes + 4)) (length t.resources))
    ≡ not (short t)
unfolding short
long-is t =
    let iv = ltb (length t.inner_vertices) ((max_users + max_resources) * bytes) in
    let it = ltb (length t.inner_tokens) (max_tokens * 5) in
    let ov = ltb (length t.outer_vertices) ((max_users + max_groups) * bytes) in
    let ot = ltb (length t.outer_tokens) (max_tokens * 4) in
    let rs = ltb (length t.resources) (max_resources * (bytes + 4)) in
    simp not-less at (none-of-five iv it ov ot rs)

-- a test of two parts, by which of them is asked: the first fails, or the second is the answer
pub first-no : {v a : Bool} (b : Bool) → a ≡ false → v ≡ a → v ≡ (a && b)
first-no b e q = q ∙ e ∙ sym (ap (λ z. z && b) e)

pub first-yes : {v a b : Bool} → a ≡ true → v ≡ b → v ≡ (a && b)
first-yes {b = b} e q = q ∙ sym (ap (λ z. z && b) e)

fine-none : {E : Type 0} (o : Option E) → is_ok (unless o) ≡ is_none o
unfolding is_none
fine-none none = refl
fine-none (some r) = refl

-- the answers x on the tables' lengths and y on the book; the check tests `!x` and `!y`
module _ (h : Head) (t : Tables) {x : Bool} (a : x ≡ not (short t)) where
  pub tables-short : not x ≡ true → Err ShortTable ≡ checked h t
  unfolding checked verdict common
  tables-short e = let s : short t ≡ true = not-false (short t) (sym a ∙ not-true x e) in rw s

  module _ (e : not x ≡ false) where
    long : short t ≡ false
    long = not-true (short t) (sym a ∙ not-false x e)

    unsound : sound (book_in h t) ≡ false → Err Unsound ≡ checked h t
    unfolding checked verdict common
    unsound s = rw (long, s)

    -- S1 fails
    pub counts-wrong : {y : Bool} → y ≡ counts_of h → not y ≡ true → Err Unsound ≡ checked h t
    counts-wrong {y} b f = unsound (sound-nowhere (book_in h t) ∙ ap (λ z. z && is_none (first_rule (rules (book_in h t)))) (counts-of h t ∙ sym b ∙ not-true y f))

    -- by the answer k on the rules, and whether it is an error, z
    module _ (k : Result (Unit {0}) (Letter × Spot)) (z : Bool) (c : counts_of h ≡ true) (b : k ≡ unless (first_rule (rules (book_in h t)))) (d : is_ok k ≡ not z) where
      by-rules : sound (book_in h t) ≡ not z
      by-rules =
          sound-nowhere (book_in h t) ∙ ap (λ z. z && is_none (first_rule (rules (book_in h t)))) (counts-of h t ∙ c)
          ∙ sym (fine-none (first_rule (rules (book_in h t)))) ∙ sym (ap is_ok b) ∙ d

      pub not_sound : z ≡ true → Err Unsound ≡ checked h t
      not_sound e = unsound (by-rules ∙ ap not e)

      pub is-sound : z ≡ false → Ok tt ≡ checked h t
      unfolding checked verdict common
      is-sound e =
          let s : sound (book_in h t) ≡ true = by-rules ∙ ap not e in
          rw (long, s)
