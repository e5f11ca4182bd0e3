-- Loops and chains that go through a list: what a loop still looks for stands in the part that it has not passed. Assumes nothing.
use Prim.Native.Nat.{ℕ, suc, ◌+◌, ◌*◌, ◌-◌, ◌^◌, ◌≤◌, ◌<◌}
use mathlib.Core.Path.{◌≡◌, refl, sym, ap, ap₂, ◌∙◌}
use mathlib.Core.Bool.{Bool, true, false, cond, ◌&&◌, ◌||◌, not}
use mathlib.Core.List.{List, [], ◌∷◌}
use native.Mathlib.Nat.{add-zero, pow-suc, pow-le-pow_right}
use native.Mathlib.Numerals.{add-one}
use native.Mathlib.Omega.{arith}
use lib.Dec.{eqb, leb}
use lib.ListN.{length, take, drop, get_or, drop_of_length-le}
use mir.Val.{bool_byte}
use lib.Seq.{drop-cons, get_or-drop, take_all}
use borrow.Author.Tests.{leb-true, lt-ltb, le-ltb}
use Rattle.std.specs.Prelude.{Option, Some, None}
use Rattle.std.specs.List.{list_any, AllWithin, HoldsAt}
use Rattle.std.specs.Option.{MatchOption, unwrap_or}
use Rattle.std.specs.Cmp.Lexicographic.{pointwise}
use Rattle.std.proofs.lemmas.Bool.Decides.{nat_tests}
use Rattle.std.proofs.lemmas.Iterator.{index_from_first}
use Rattle.sets.specs.Sets.{single, union}
use Rattle.sets.proofs.Laws.{union_assoc, both}
use Rattle.rules.specs.Lists.{some, every, first}
use Rattle.lines.specs.Request.{same, digit, shaped, is_number, value_from, value, number_in, twice, users}

module _ (xs : List ℕ) (i : ℕ) where
  -- the element at i, and those behind it
  pub next : i < length xs → drop i xs ≡ get_or xs i 0 ∷ drop (i + 1) xs
  next h = rw (add-one, drop-cons xs i 0)

  ended : length xs ≤ i → drop i xs ≡ []
  ended h = drop_of_length-le xs h

  pub none-at : length xs ≤ i → get_or xs i 0 ≡ 0
  none-at h = ap (λ (n : ℕ). get_or xs n 0) (sym (add-zero i)) ∙ (sym (get_or-drop i xs 0 0) ∙ ap (λ (ys : List ℕ). get_or ys 0 0) (ended h))

  module _ (p : ℕ → Bool) where
    pub every-miss : i < length xs → p (get_or xs i 0) ≡ false → every p (drop i xs) ≡ false
    unfolding every
    every-miss h e = rw (next h, e)

    pub every-hit : i < length xs → p (get_or xs i 0) ≡ true → every p (drop i xs) ≡ every p (drop (i + 1) xs)
    unfolding every
    every-hit h e = rw (next h, e)

    pub every-end : length xs ≤ i → every p (drop i xs) ≡ true
    unfolding every
    every-end h = rw (ended h)

  pub value-next : (n : ℕ) → i < length xs → value_from n (drop i xs) ≡ value_from (n * 10 + (get_or xs i 0 - 48)) (drop (i + 1) xs)
  unfolding value_from
  value-next n h = rw (next h)

  pub value-end : (n : ℕ) → length xs ≤ i → value_from n (drop i xs) ≡ n
  unfolding value_from
  value-end n h = rw (ended h)

  -- a set that has been gathered, and those still to come
  pub users-more : (s : ℕ) → i < length xs → get_or xs i 0 < 64
      → union s (users (drop i xs)) ≡ union (union s (single (get_or xs i 0))) (users (drop (i + 1) xs))
  unfolding users
  users-more s h l = rw (next h, lt-ltb (get_or xs i 0) 64 l) (sym (union_assoc s (single (get_or xs i 0)) (users (drop (i + 1) xs))))

  pub users-other : (s : ℕ) → i < length xs → 64 ≤ get_or xs i 0 → union s (users (drop i xs)) ≡ union s (users (drop (i + 1) xs))
  unfolding users
  users-other s h l = rw (next h, le-ltb (get_or xs i 0) 64 l)

-- ---- a number that comes twice

eqb-sym : (a b : ℕ) → eqb a b ≡ eqb b a
eqb-sym a b = grind (arith, nat_tests)

some-swapped : (n : ℕ) (xs : List ℕ) → list_any (λ y. eqb y n) xs ≡ some (eqb n) xs
unfolding some
some-swapped n [] = refl
some-swapped n (x ∷ xs) = ap₂ (λ (a b : Bool). a || b) (eqb-sym x n) (some-swapped n xs)

pub twice_next : (xs : List ℕ) → 1 ≤ length xs
    → twice xs ≡ (list_any (λ y. eqb y (get_or xs 0 0)) (take (length xs - 1) (drop 1 xs)) || twice (take (length xs - 1) (drop 1 xs)))
unfolding twice
twice_next [] h = absurd (omega arith)
twice_next (x ∷ xs) h = rw (take_all (suc (length xs) - 1) xs (omega arith)) (ap (λ (b : Bool). b || twice xs) (sym (some-swapped x xs)))

pub twice_none : (xs : List ℕ) → length xs < 1 → twice xs ≡ false
unfolding twice
twice_none [] h = refl
twice_none (x ∷ xs) h = absurd (omega arith)

-- ---- the words of rules/specs/Lists and of specs/Request, as the library has them

module _ (p : ℕ → Bool) where
  pub some_is : (xs : List ℕ) → some p xs ≡ list_any p xs
  unfolding some
  some_is [] = refl
  some_is (x ∷ xs) = ap (λ (b : Bool). p x || b) (some_is xs)

  -- the place where `position` stops, or the length
  pub first_found : (xs : List ℕ) (r : Option ℕ)
      → MatchOption r (AllWithin (λ x. p x ≡ false) xs 0 (length xs)) (λ i. (i < length xs) × HoldsAt (λ x. p x ≡ true) xs i × AllWithin (λ x. p x ≡ false) xs 0 i)
      → first p xs ≡ unwrap_or r (length xs)
  unfolding first
  first_found = index_from_first (first p) (λ x. p x ≡ true) (λ x. p x ≡ false) refl (λ x ys e. rw e) (λ x ys e. rw e (sym (add-one (first p ys))))

pub flag-is : (b : Bool) → bool_byte b ≡ cond b 1 0
flag-is true = refl
flag-is false = refl

pub same_is : (xs ys : List ℕ) → same xs ys ≡ pointwise eqb xs ys
unfolding same
same_is [] [] = refl
same_is [] (y ∷ ys) = refl
same_is (x ∷ xs) [] = refl
same_is (x ∷ xs) (y ∷ ys) = ap (λ (b : Bool). eqb x y && b) (same_is xs ys)

-- ---- the same bytes

pub same-lengths : (xs ys : List ℕ) → (length xs ≡ length ys → ⊥) → same xs ys ≡ false
unfolding same
same-lengths [] [] h = absurd (h refl)
same-lengths [] (y ∷ ys) h = refl
same-lengths (x ∷ xs) [] h = refl
same-lengths (x ∷ xs) (y ∷ ys) h = rw (same-lengths xs ys (λ e. h (ap suc e))) (go (eqb x y))
  where
    go : (b : Bool) → (b && false) ≡ false
    go true = refl
    go false = refl

-- ---- numbers

pub shape-length : (p : List ℕ) → shaped p ≡ true → length p ≤ 5
unfolding shaped
shape-length p h =
    let rest = (both (leb 1 (length p)) (leb (length p) 5 && (eqb (length p) 1 || not (eqb (get_or p 0 0) 48))) h).1 in
    leb-true (length p) 5 (both (leb (length p) 5) (eqb (length p) 1 || not (eqb (get_or p 0 0) 48)) rest).0

pub bad-shape : (p : List ℕ) → shaped p ≡ false → number_in p ≡ None
unfolding number_in is_number
bad-shape p h = rw h

pub bad-digit : (p : List ℕ) → shaped p ≡ true → every digit p ≡ false → number_in p ≡ None
unfolding number_in is_number
bad-digit p h k = rw (h, k)

pub good : (p : List ℕ) → shaped p ≡ true → every digit p ≡ true → number_in p ≡ Some (value_from 0 p)
unfolding number_in is_number value
good p h k = rw (h, k)

pub digit-small : (c : ℕ) → digit c ≡ true → c - 48 ≤ 9
unfolding digit
digit-small c h = omega (arith, leb-true c 57 (both (leb 48 c) (leb c 57) h).1)

-- digits make a number below 10 ^ i, and five of them one below 100,000
pub few-digits : (n i : ℕ) → n < 10 ^ i → i ≤ 5 → n < 100000
few-digits n i h k = omega (arith, pow-le-pow_right {n = 10} (omega arith) {i = i} {j = 5} k)

pub more-digits : (n i d : ℕ) → n < 10 ^ i → d ≤ 9 → n * 10 + d < 10 ^ (i + 1)
more-digits n i d h k = rw (add-one, pow-suc) (omega arith)
