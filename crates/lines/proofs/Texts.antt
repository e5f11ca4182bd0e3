-- The text of an answer, part by part. Assumes nothing.
use Prim.Native.Nat.{ℕ, ◌+◌, ◌*◌, ◌-◌, ◌/◌, ◌^◌, ◌≤◌, ◌<◌}
use mathlib.Core.Path.{◌≡◌, refl, ap₂, ◌∙◌}
use mathlib.Core.Bool.{true, false}
use mathlib.Core.Logic.{⊎_elim}
use mathlib.Core.List.{List, [], ◌∷◌, ◌++◌}
use native.Mathlib.Omega.{arith}
use lib.Dec.{eqb}
use lib.ListN.{length, get_or, set}
use borrow.Author.Tests.{ne_eqb, eqb-true, le-leb, lt-leb}
use Rattle.sets.proofs.Laws.{either}
use Rattle.lines.specs.Answer.{numeral, of_open, row_text, rows_text, ok_text, no_text, answer_text, Puts, writing, room_for, put_answer}
use Rattle.std.specs.Prelude.{Some, None}
use Rattle.lines.proofs.Putting.{put_then, put_two, numeral-long}

-- a 16-bit number and the byte behind it take 6 bytes at most, a 64-bit one 21
pub six : (n last : ℕ) → n < 2 ^ 16 → length (numeral n last) ≤ 6
six n last h = numeral-long 4 n last (omega arith)

pub twenty_one : (n last : ℕ) → n < 2 ^ 64 → length (numeral n last) ≤ 21
twenty_one n last h = numeral-long 19 n last (omega arith)

-- ---- a row

pub letter : (k : ℕ) → of_open k ≡ true → k < 256
unfolding of_open
letter k h = ⊎_elim (λ e. omega (arith, eqb-true k 105 e)) (λ e. omega (arith, eqb-true k 111 e)) (either (eqb k 105) (eqb k 111) h)

module _ (k a b : ℕ) {at r : ℕ} {out now : List ℕ} where
  pub row_open : of_open k ≡ true → at + 2 ≤ length out → Puts (numeral a 10) (at + 2) (set (set out at k) (at + 1) 32) r now → Puts (row_text k a b) at out r now
  unfolding row_text
  row_open o h p = rw o (put_then {a = k ∷ 32 ∷ []} (omega arith) (put_two k 32 at out h) p)

  pub row_plain : {x y : ℕ} {one two : List ℕ} → of_open k ≡ false → at ≤ length out → x ≤ length one
      → Puts (numeral k 32) at out x one → Puts (numeral a 32) x one y two → Puts (numeral b 10) y two r now → Puts (row_text k a b) at out r now
  unfolding row_text
  row_plain o h l p q s = rw o (put_then h p (put_then l q s))

-- ---- rows

pub rows_next : (row rest : List ℕ) → length row ≡ 3 → rows_text (row ++ rest) ≡ row_text (get_or row 0 0) (get_or row 1 0) (get_or row 2 0) ++ rows_text rest
unfolding rows_text
rows_next [] rest h = absurd (omega arith)
rows_next (k ∷ []) rest h = absurd (omega arith)
rows_next (k ∷ a ∷ []) rest h = absurd (omega arith)
rows_next (k ∷ a ∷ b ∷ []) rest h = refl
rows_next (k ∷ a ∷ b ∷ c ∷ xs) rest h = absurd (omega arith)

pub rows_done : (rows : List ℕ) → length rows < 3 → rows_text rows ≡ []
unfolding rows_text
rows_done [] h = refl
rows_done (k ∷ []) h = refl
rows_done (k ∷ a ∷ []) h = refl
rows_done (k ∷ a ∷ b ∷ xs) h = absurd (omega arith)

-- ---- the whole answer

module _ (number view : ℕ) (rows out : List ℕ) (at : ℕ) where
  pub no_room : length out - at < 24 + 18 * (length rows / 3) → writing None out ≡ put_answer number view rows out at
  unfolding put_answer room_for
  no_room h = rw (lt-leb (24 + 18 * (length rows / 3)) (length out - at) h)

  module _ {r : ℕ} {now : List ℕ} (h : 24 + 18 * (length rows / 3) ≤ length out - at) where
    put : Puts (answer_text number view rows) at out r now → writing (Some r) now ≡ put_answer number view rows out at
    unfolding put_answer room_for
    put p = ap₂ (λ (e : ℕ) (o : List ℕ). writing (Some e) o) p.ends p.holds ∙ rw (le-leb (24 + 18 * (length rows / 3)) (length out - at) h)

    pub put-accepted : number ≡ 0 → Puts (ok_text rows) at out r now → writing (Some r) now ≡ put_answer number view rows out at
    unfolding answer_text
    put-accepted e p = put (rw e p)

    pub put_refused : (number ≡ 0 → ⊥) → Puts (no_text number view) at out r now → writing (Some r) now ≡ put_answer number view rows out at
    unfolding answer_text
    put_refused e p = put (rw (ne_eqb number 0 e) p)
