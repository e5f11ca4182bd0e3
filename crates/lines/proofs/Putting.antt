-- Texts put one behind the other, and the decimal digits of a number. Assumes nothing.
use Prim.Native.Nat.{ℕ, zero, suc, ◌+◌, ◌-◌, ◌/◌, ◌%◌, ◌^◌, ◌≤◌, ◌<◌}
use mathlib.Core.Path.{◌≡◌, refl, sym, ap, ◌∙◌}
use mathlib.Core.List.{List, [], ◌∷◌, ◌++◌, append_assoc}
use native.Mathlib.Nat.{pow-suc}
use native.Mathlib.Numerals.{add-one}
use native.Mathlib.Omega.{arith}
use lib.ListN.{length, set, length-append, length-set}
use lib.Seq.{drop-drop, set_split}
use borrow.Rule.Slice.PartMut.{put_mid}
use Rattle.rows.specs.Number.{stored}
use Rattle.rows.proofs.Laws.{stored-none, stored-behind, length-stored}
use Rattle.lines.specs.Answer.{digits_in, digits, numeral, Puts}

-- ---- texts

pub put-none : (at : ℕ) (out : List ℕ) → Puts [] at out at out
put-none at out = record { ends = omega arith; holds = sym (stored-none at out) }

pub put_byte : (b at : ℕ) (out : List ℕ) → at < length out → Puts (b ∷ []) at out (at + 1) (set out at b)
unfolding stored
put_byte b at out h = record { ends = refl; holds = rw (set_split out at b h, add-one at) }

-- a text copied into its part of what was lent
pub put_part : (text : List ℕ) (at : ℕ) (out ys : List ℕ) → ys ≡ text → Puts text at out (at + length text) (put_mid at (at + length text - at) out ys)
unfolding stored
put_part text at out ys e =
    let n : at + length text - at ≡ length text = omega arith in
    record { ends = refl; holds = rw (e, n, drop-drop (length text) at out) }

-- ---- one behind the other

pub put_then : {a b : List ℕ} {at m r : ℕ} {out mid now : List ℕ} → at ≤ length out → Puts a at out m mid → Puts b m mid r now → Puts (a ++ b) at out r now
put_then {a} {b} {at} {m} {r} {out} h p q =
    record {
      ends = q.ends ∙ ap (λ (n : ℕ). n + length b) p.ends ∙ omega (arith, length-append a b);
      holds = q.holds ∙ ap (stored m b) p.holds ∙ stored-behind at a b out m h p.ends;
    }

pub put-length : {a : List ℕ} {at r : ℕ} {out now : List ℕ} → at + length a ≤ length out → Puts a at out r now → length now ≡ length out
put-length {a} {at} {r} {out} h p = ap length p.holds ∙ length-stored at a out h

pub put_two : (x y at : ℕ) (out : List ℕ) → at + 2 ≤ length out → Puts (x ∷ y ∷ []) at out (at + 2) (set (set out at x) (at + 1) y)
put_two x y at out h =
    let e : at + 1 + 1 ≡ at + 2 = omega arith in
    rw (← e) (put_then {a = x ∷ []} (omega arith) (put_byte x at out (omega arith)) (put_byte y (at + 1) (set out at x) (simp length-set (omega arith))))

-- ---- digits

enough : (f g n : ℕ) → n ≤ f → n ≤ g → digits_in f n ≡ digits_in g n
unfolding digits_in
enough zero zero n h k = refl
enough zero (suc g) zero h k = refl
enough zero (suc g) (suc n) h k = absurd (omega arith)
enough (suc f) zero zero h k = refl
enough (suc f) zero (suc n) h k = absurd (omega arith)
enough (suc f) (suc g) zero h k = refl
enough (suc f) (suc g) (suc n) h k =
    ap (λ (ds : List ℕ). ds ++ ((48 + suc n % 10) ∷ [])) (enough f g (suc n / 10) (omega arith) (omega arith))

pub digits-none : (n : ℕ) → n ≡ 0 → digits n ≡ []
unfolding digits digits_in
digits-none n e = rw e

pub digits_more : (n : ℕ) → (n ≡ 0 → ⊥) → digits n ≡ digits (n / 10) ++ ((48 + n % 10) ∷ [])
unfolding digits digits_in
digits_more zero h = absurd (h refl)
digits_more (suc n) h =
    ap (λ (ds : List ℕ). ds ++ ((48 + suc n % 10) ∷ [])) (enough n (suc n / 10) (suc n / 10) (omega arith) (omega arith))

pub numeral-parts : (n last : ℕ) → numeral n last ≡ (digits (n / 10) ++ ((48 + n % 10) ∷ [])) ++ (last ∷ [])
unfolding numeral
numeral-parts n last = sym (append_assoc (digits (n / 10)) ((48 + n % 10) ∷ []) (last ∷ []))

-- a number below 10 ^ k has k digits at most
pub digits_long : (k n : ℕ) → n < 10 ^ k → length (digits n) ≤ k
digits_long zero n h = rw (digits-none n (omega arith)) (omega arith)
digits_long (suc k) zero h = rw (digits-none 0 refl) (omega arith)
digits_long (suc k) (suc n) h =
    rw (digits_more (suc n) (λ e. omega arith), length-append)
    (omega (arith, digits_long k (suc n / 10) (omega (arith, pow-suc 10 k))))

pub numeral-long : (k n last : ℕ) → n < 10 ^ suc k → length (numeral n last) ≤ k + 2
unfolding numeral
numeral-long k n last h = rw length-append (omega (arith, digits_long k (n / 10) (omega (arith, pow-suc 10 k))))

-- ---- a number, digit by digit

pub digits-length : (n : ℕ) → (n ≡ 0 → ⊥) → length (digits n) ≡ length (digits (n / 10)) + 1
digits-length n h = ap length (digits_more n h) ∙ length-append (digits (n / 10)) ((48 + n % 10) ∷ [])

pub numeral-length : (n last : ℕ) → length (numeral n last) ≡ length (digits (n / 10)) + 2
unfolding numeral
numeral-length n last = length-append (digits (n / 10)) ((48 + n % 10) ∷ last ∷ [])

module _ (n : ℕ) {at end : ℕ} {out mid : List ℕ} (p : Puts (digits (n / 10)) at out end mid) where
  -- one digit more behind those before it
  pub put-digit : (n ≡ 0 → ⊥) → at + length (digits n) ≤ length out → Puts (digits n) at out (end + 1) (set mid end (48 + n % 10))
  put-digit h room =
      let some : at + length (digits (n / 10)) < length out = omega (arith, digits-length n h) in
      let l : length mid ≡ length out = put-length (omega arith) p in
      rw (digits_more n h) (put_then (omega arith) p (put_byte (48 + n % 10) end mid (omega (arith, p.ends))))

  -- the last digit, and the byte behind it
  pub put_last : (last : ℕ) → at + length (numeral n last) ≤ length out
      → Puts (numeral n last) at out (end + 2) (set (set mid end (48 + n % 10)) (end + 1) last)
  put_last last room =
      let some : at + length (digits (n / 10)) + 2 ≤ length out = omega (arith, numeral-length n last) in
      let l : length mid ≡ length out = put-length (omega arith) p in
      let q = put_then (omega arith) p (put_byte (48 + n % 10) end mid (omega (arith, p.ends))) in
      let e : end + 1 + 1 ≡ end + 2 = omega arith in
      rw (numeral-parts n last, ← e) (put_then (omega arith) q (put_byte last (end + 1) (set mid end (48 + n % 10)) (simp length-set (omega (arith, p.ends)))))
