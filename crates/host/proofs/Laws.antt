-- What the C interface answers, from what the calls below it answer: each law is one way out of a call.
-- Assumes nothing.
use Rattle.std.specs.Prelude.{Result, Ok, Err, IsErrAnd}
use Rattle.std.proofs.lemmas.Result.{err_from_is_err_and}
use Prim.Native.Nat.{ℕ, zero, suc, ◌≤◌, ◌<◌}
use mathlib.Core.Path.{◌≡◌, refl, sym, ap, ap₂, ◌∙◌}
use mathlib.Core.Bool.{Bool, true, false, not, cond}
use mathlib.Core.List.{List, [], ◌∷◌}
use mathlib.Core.Option.{Option, some, none}
use native.Mathlib.Omega.{arith}
use lib.Dec.{ltb}
use lib.ListN.{length}
use borrow.Author.Tests.{lt-ltb, le-ltb, ltb-true, ltb-false}
use Rattle.rows.specs.Number.{stored}
use Rattle.rules.specs.Tests.{when, first_some}
use Rattle.rules.specs.Bytes.{Tables, version_in, head_in, start, fault, is_book, book_in}
use Rattle.rules.specs.Refusals.{number, denial_number, denial_place, common, verdict, faulty_by, refusal_section}
use Rattle.rules.specs.Calls.{Part, part, part_by, section_call, Load, loading, read_call, Write, writing, write_call}
use Rattle.rules.specs.declared.Head.{Head}
use Rattle.rules.specs.declared.Refusal.{Refusal}
use Rattle.rules.specs.declared.Refusal.TheVariants.{NoSuch, ShortTable}
use Rattle.rules.specs.declared.Denial.{Denial}
use Rattle.rules.specs.declared.Denial.TheVariants.{Refused}
use Rattle.rules.specs.declared.Fault.{Fault}
use Rattle.sound.specs.Check.{unless, checked}
use Rattle.theorems.proofs.FaultLaws.{fault-none}
use Rattle.host.specs.Answers.{head_length, head_from, head_read, head_numbers, number_of, told, check_answer, answered, stretch_by, section_answer, loaded_as, read_by, read_answer, written_as, write_by, write_answer}
use Rattle.host.proofs.PlaceLaws.{fault-number}

-- ---- check

-- the error e that a `?` passes on
pub passed_on : {A E : Type 0} {e : E} (r : Result A E) → IsErrAnd r (λ y. y ≡ e) → r ≡ Err e
passed_on r h = let p = err_from_is_err_and r h in p.1 ∙ ap (λ y. Err y) p.2

-- what a head's numbers give: 13 where they are too few, and else a head
pub head-short : (l : List ℕ) {r : Result Head Refusal} {e : Refusal} → r ≡ head_read l → r ≡ Err e → (length l < head_length) × (e ≡ ShortTable)
head-short l {e = e} q is = go (ltb (length l) head_length) refl (sym is ∙ q)
  where
    go : (z : Bool) → ltb (length l) head_length ≡ z → Err e ≡ cond z (Err ShortTable) (Ok (head_from l)) → (length l < head_length) × (e ≡ ShortTable)
    go true k x = (ltb-true (length l) head_length k, cc)
    go false k x = let z : ◌≡◌ {A = ℕ} 0 1 = cc in absurd (omega arith)

pub head-long : (l : List ℕ) {r : Result Head Refusal} {h : Head} → r ≡ head_read l → r ≡ Ok h → (head_length ≤ length l) × (h ≡ head_from l)
head-long l {h = h} q is = go (ltb (length l) head_length) refl (sym is ∙ q)
  where
    go : (z : Bool) → ltb (length l) head_length ≡ z → Ok h ≡ cond z (Err ShortTable) (Ok (head_from l)) → (head_length ≤ length l) × (h ≡ head_from l)
    go true k x = let z : ◌≡◌ {A = ℕ} 0 1 = cc in absurd (omega arith)
    go false k x = (ltb-false (length l) head_length k, cc)

told-by : (o : Option Refusal) → number_of (unless o) ≡ told o
told-by none = refl
told-by (some r) = refl

pub check-told : (l : List ℕ) (t : Tables) {h : Head} {k : Result (Unit {0}) Refusal} → head_length ≤ length l → h ≡ head_from l → k ≡ checked h t → number_of k ≡ check_answer l t
unfolding check_answer checked
check-told l t n eh ek =
    rw (le-ltb (length l) head_length n)
    (ap number_of (ek ∙ ap (λ (x : Head). checked x t) eh) ∙ told-by (verdict (common t (book_in (head_from l) t))))

pub check-short : (l : List ℕ) (t : Tables) → length l < head_length → 13 ≡ check_answer l t
unfolding check_answer
check-short l t n = rw (lt-ltb (length l) head_length n)

-- ---- section

-- a cell of 0 means that the bytes are a book and that it has this section
pub section-passed : (bs : List ℕ) (k : ℕ) {s : List ℕ} {n at : ℕ} → part s n at ≡ section_call bs k → n ≡ 0 → (is_book bs ≡ true) × (k < 5)
unfolding section_call part_by refusal_section first_some faulty_by when
section-passed bs k {n = n} p e = go (fault bs) (ltb k 5) refl refl (sym e ∙ ap (λ (x : Part). x.cell) p)
  where
    go : (o : Option Fault) (b : Bool) → fault bs ≡ o → ltb k 5 ≡ b → 0 ≡ (part_by (first_some (faulty_by o ∷ when (not b) (Refused NoSuch) ∷ [])) bs k).cell → (is_book bs ≡ true) × (k < 5)
    go (some f) b eo eb z = absurd (omega (arith, z, fault-number f))
    go none false eo eb z = absurd (omega (arith, z))
    go none true eo eb z = ((fault-none bs).0 eo, ltb-true k 5 eb)

pub section-given : (bs : List ℕ) (k b m : ℕ) {s : List ℕ} {n at a : ℕ} → part s n at ≡ section_call bs k → n ≡ 0 → a ≡ start (version_in bs) (head_in bs) k
    → answered 0 a (length s) at ≡ section_answer bs k b m
unfolding section_answer stretch_by
section-given bs k b m p e ea =
    (λ i. answered 0 (ea i) (length (p i).stretch) (p i).place)
    ∙ ap (stretch_by bs k b m (section_call bs k).place) (sym e ∙ ap (λ (x : Part). x.cell) p)

stretch-none : (bs : List ℕ) (k a m at n : ℕ) → (n ≡ 0 → ⊥) → answered n a m at ≡ stretch_by bs k a m at n
unfolding stretch_by
stretch-none bs k a m at zero ne = absurd (ne refl)
stretch-none bs k a m at (suc n) ne = refl

pub section-refused : (bs : List ℕ) (k a m : ℕ) {s : List ℕ} {n at : ℕ} → part s n at ≡ section_call bs k → (n ≡ 0 → ⊥) → answered n a m at ≡ section_answer bs k a m
unfolding section_answer
section-refused bs k a m {n = n} {at = at} p ne = stretch-none bs k a m at n ne ∙ ap (λ (x : Part). stretch_by bs k a m x.place x.cell) p

-- ---- read

read-by : (bs l : List ℕ) (t : Tables) {a : Result Head Denial} {u : Tables} → head_length ≤ length l → loading a u ≡ read_call bs t → read_by a l u ≡ read_answer bs l t
unfolding read_answer
read-by bs l t n p = rw (le-ltb (length l) head_length n) (ap (λ (x : Load). read_by x.answer l x.tables) p)

pub read_short : (bs l : List ℕ) (t : Tables) → length l < head_length → loaded_as 13 l t 0 ≡ read_answer bs l t
unfolding read_answer
read_short bs l t n = rw (lt-ltb (length l) head_length n)

pub read-refused : (bs l : List ℕ) (t : Tables) {a : Result Head Denial} {u : Tables} {d : Denial} {r at : ℕ} → head_length ≤ length l → loading a u ≡ read_call bs t
    → a ≡ Err d → r ≡ denial_number d → at ≡ denial_place d → loaded_as r l u at ≡ read_answer bs l t
unfolding read_by
read-refused bs l t {u = u} n p is er ep =
    ap₂ (λ (x y : ℕ). loaded_as x l u y) er ep ∙ sym (ap (λ (x : Result Head Denial). read_by x l u) is) ∙ read-by bs l t n p

pub read-given : (bs l : List ℕ) (t : Tables) {a : Result Head Denial} {u : Tables} {h : Head} {m : List ℕ} → head_length ≤ length l → loading a u ≡ read_call bs t → a ≡ Ok h
    → m ≡ stored 0 (head_numbers h) l → loaded_as 0 m u 0 ≡ read_answer bs l t
unfolding read_by
read-given bs l t {u = u} n p is em =
    ap (λ (x : List ℕ). loaded_as 0 x u 0) em ∙ sym (ap (λ (x : Result Head Denial). read_by x l u) is) ∙ read-by bs l t n p

-- ---- write

write-by : (l : List ℕ) (t : Tables) (b : List ℕ) (k : ℕ) {h : Head} {a : Result ℕ Refusal} {d : List ℕ} → head_length ≤ length l → h ≡ head_from l → writing a d ≡ write_call h t b
    → write_by a d k ≡ write_answer l t b k
unfolding write_answer
write-by l t b k n eh p =
    rw (le-ltb (length l) head_length n) (ap (λ (x : Write). write_by x.answer x.buffer k) (p ∙ ap (λ (x : Head). write_call x t b) eh))

pub write-short : (l : List ℕ) (t : Tables) (b : List ℕ) (k : ℕ) → length l < head_length → written_as 13 b k ≡ write_answer l t b k
unfolding write_answer
write-short l t b k n = rw (lt-ltb (length l) head_length n)

pub write-refused : (l : List ℕ) (t : Tables) (b : List ℕ) (k : ℕ) {h : Head} {a : Result ℕ Refusal} {d : List ℕ} {n : Refusal} {r : ℕ} → head_length ≤ length l
    → h ≡ head_from l → writing a d ≡ write_call h t b → a ≡ Err n → r ≡ number n → written_as r d k ≡ write_answer l t b k
unfolding write_by
write-refused l t b k {d = d} n eh p is er =
    ap (λ (x : ℕ). written_as x d k) er ∙ sym (ap (λ (x : Result ℕ Refusal). write_by x d k) is) ∙ write-by l t b k n eh p

pub write-given : (l : List ℕ) (t : Tables) (b : List ℕ) (k : ℕ) {h : Head} {a : Result ℕ Refusal} {d : List ℕ} {n : ℕ} → head_length ≤ length l → h ≡ head_from l
    → writing a d ≡ write_call h t b → a ≡ Ok n → written_as 0 d n ≡ write_answer l t b k
unfolding write_by
write-given l t b k {d = d} n eh p is = sym (ap (λ (x : Result ℕ Refusal). write_by x d k) is) ∙ write-by l t b k n eh p
