-- Laws of the buffers: where an answer ends in the output, and the rows of three numbers in a list.
-- Assumes nothing.
use Prim.Native.Nat.{ℕ, zero, suc, ◌+◌, ◌*◌, ◌%◌, ◌≤◌}
use mathlib.Core.Path.{◌≡◌, refl, sym, ap, ◌∙◌}
use mathlib.Core.Bool.{Bool, true, false, cond}
use mathlib.Core.List.{List, [], ◌∷◌, ◌++◌, append_assoc}
use native.Mathlib.Omega.{arith}
use lib.Dec.{ltb}
use lib.ListN.{length, take, drop, length-append, length-take, length-drop}
use lib.Seq.{length-take-le, take_at}
use borrow.Author.Tests.{ltb-true}
use Rattle.rows.specs.Number.{stored}
use Rattle.rules.specs.Lists.{first}
use Rattle.lines.specs.Answer.{answer_text, room_for, writing, Written, put_answer}
use Rattle.lines.specs.Request.{same, modes, mode_of, first_line}
use Rattle.rules.specs.declared.Mode.{Mode}
use Rattle.lines.specs.declared.request.Asked.{Asked}
use Rattle.std.specs.Prelude.{Option, Some, None, IsSome, Result, Ok, Err, IfOk}
use Rattle.std.specs.Option.{unwrap_or}
use Rattle.desk.specs.Block.{malformed, row_for, numbers_of, most_of, most_in}

pub some≢none : {A : Type 0} {x : A} → Some x ≡ None → ⊥
some≢none e = let z : ◌≡◌ {A = ℕ} 0 1 = cc in omega arith

pub some-by : {A : Type 0} (o : Option A) → (o ≡ None → ⊥) → IsSome o
some-by None h = absurd (h refl)
some-by (Some x) h = refl

-- two facts of what a call answers
pub ok-both : {T E : Type 0} (r : Result T E) (P Q S : T → Type 0) → ((x : T) → P x → Q x → S x) → IfOk r P → IfOk r Q → IfOk r S
ok-both (Ok x) P Q S f p q = f x p q
ok-both (Err e) P Q S f p q = tt

-- what is stored at a place within a list ends within the list that is left
pub stored-within : (at : ℕ) (bs t : List ℕ) → at ≤ length t → at + length bs ≤ length (stored at bs t)
unfolding stored
stored-within at bs t h = simp (length-append, length-take, length-drop) (omega arith)

pub put-within : (number view : ℕ) (rows out : List ℕ) (at : ℕ) {p : Option ℕ} {end : ℕ} {now : List ℕ} → at ≤ length out → p ≡ Some end
    → writing p now ≡ put_answer number view rows out at → end ≤ length now
unfolding put_answer
put-within number view rows out at {p} {end} {now} h e w = go (room_for rows at out) (ap (λ (x : Option ℕ). writing x now) (sym e) ∙ w)
  where
    text : List ℕ
    text = answer_text number view rows

    go : (z : Bool) → writing (Some end) now ≡ cond z (writing (Some (at + length text)) (stored at text out)) (writing None out) → end ≤ length now
    go true p =
        let a : Some end ≡ Some (at + length text) = ap (λ (w : Written). w.answer) p in
        let e : end ≡ at + length text = cc in
        let n : now ≡ stored at text out = ap (λ (w : Written). w.out) p in
        omega (arith, stored-within at text out h, ap length n)
    go false p = let a : Some end ≡ None = ap (λ (w : Written). w.answer) p in absurd (some≢none a)

-- ---- the row of a line

pub row_cut : (cut : Bool) (l : Option Asked) → cut ≡ true → malformed ≡ row_for cut l
row_cut cut l e = rw e

pub row-asked : (cut : Bool) (l : Option Asked) → cut ≡ false → unwrap_or l malformed ≡ row_for cut l
row-asked cut None e = rw e
row-asked cut (Some q) e = rw e

-- ---- the most order rows

pub most_other : (k : ℕ) → 6 ≤ k → most_of k ≡ 0
unfolding most_of
most_other zero h = absurd (omega arith)
most_other (suc zero) h = absurd (omega arith)
most_other (suc (suc zero)) h = absurd (omega arith)
most_other (suc (suc (suc zero))) h = absurd (omega arith)
most_other (suc (suc (suc (suc zero)))) h = absurd (omega arith)
most_other (suc (suc (suc (suc (suc zero))))) h = absurd (omega arith)
most_other (suc (suc (suc (suc (suc (suc k)))))) h = refl

-- the order list is long enough for any one of them
pub most-fits : (k : ℕ) → most_of k ≤ 6144
unfolding most_of
most-fits zero = omega arith
most-fits (suc zero) = omega arith
most-fits (suc (suc zero)) = omega arith
most-fits (suc (suc (suc zero))) = omega arith
most-fits (suc (suc (suc (suc zero)))) = omega arith
most-fits (suc (suc (suc (suc (suc zero))))) = omega arith
most-fits (suc (suc (suc (suc (suc (suc k)))))) = omega arith

pub most-none : 6144 + most_in [] ≤ 6144
unfolding most_in
most-none = omega arith

-- whole rows in front
most-append : (xs ys : List ℕ) → length xs % 3 ≡ 0 → most_in (xs ++ ys) ≡ most_in xs + most_in ys
unfolding most_in
most-append [] ys h = omega arith
most-append (k ∷ []) ys h = absurd (omega arith)
most-append (k ∷ a ∷ []) ys h = absurd (omega arith)
most-append (k ∷ a ∷ b ∷ xs) ys h = omega (arith, most-append xs ys (omega arith))

-- a row is put behind others
pub most-more : (rows : ℕ) (q : Asked) (l : List ℕ) → rows * 3 + 3 ≤ length l
    → most_in (take ((rows + 1) * 3) (stored (rows * 3) (numbers_of q) l)) ≡ most_in (take (rows * 3) l) + most_of q.kind
unfolding stored most_in
most-more rows q l h =
    let before : List ℕ = take (rows * 3) l in
    let long : length before ≡ rows * 3 = length-take-le (rows * 3) l (omega arith) in
    ap most_in
    (ap (λ (x : List ℕ). take ((rows + 1) * 3) x) (sym (append_assoc before (numbers_of q) (drop (rows * 3 + 3) l)))
    ∙ take_at (before ++ numbers_of q) (drop (rows * 3 + 3) l) ((rows + 1) * 3) (omega (arith, length-append before (numbers_of q))))
    ∙ (most-append before (numbers_of q) (omega arith) ∙ ap (λ (n : ℕ). most_in before + n) (omega arith))

-- ---- the first line

pub moded : (bs : List ℕ) {o : Option Mode} {m : Mode} → o ≡ first_line bs → o ≡ Some m → m.0 ≤ 1
unfolding first_line mode_of
moded bs {o} {m} e f = go (first (same bs) modes) (sym f ∙ e)
  where
    go : (k : ℕ) → Some m ≡ cond (ltb k 2) (Some (record { 0 = k })) None → m.0 ≤ 1
    go zero e = let z : m ≡ record { 0 = 0 } = cc in rw z (omega arith)
    go (suc zero) e = let z : m ≡ record { 0 = 1 } = cc in rw z (omega arith)
    go (suc (suc k)) e = more (ltb (suc (suc k)) 2) refl e
      where
        more : (z : Bool) → ltb (suc (suc k)) 2 ≡ z → Some m ≡ cond z (Some (record { 0 = suc (suc k) })) None → m.0 ≤ 1
        more true e f = absurd (omega (arith, ltb-true (suc (suc k)) 2 e))
        more false e f = absurd (some≢none f)
