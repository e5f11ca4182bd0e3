-- A rule of a sound book holds exactly where no row breaks it; and S1 to S8, layer by layer.
-- Assumes nothing.
use Prim.Native.Nat.{ℕ, zero, suc, ◌+◌, ◌<◌}
use mathlib.Core.Path.{◌≡◌, refl, sym, ap, ap₂, ◌∙◌, subst}
use mathlib.Core.Bool.{Bool, true, false, ◌&&◌, not, cond, false≢true, and_assoc, and-true, and-false, and_comm}
use mathlib.Core.List.{List, [], ◌∷◌, map, Memᴰ}
use mathlib.Core.Option.{Option, some, none}
use native.Mathlib.Nat.{zero-lt-suc, zero-add}
use native.Mathlib.Omega.{arith}
use lib.Dec.{eqb, ltb}
use lib.ListN.{length, get_or, take, length-take}
use lib.Seq.{get_or-take}
use Rattle.rules.specs.Lists as lists
use Rattle.rules.specs.Lists.{every, first, pairwise, numbered, up_to}
use Rattle.rules.specs.Tests.{Tested, unlike_earlier, all_pass, kept, broken, all_kept, or_rule, first_rule, is_none}
use Rattle.rules.specs.Layer.{Layer}
use Rattle.rules.specs.Book.{Book}
use Rattle.rules.specs.Sound.{counts, joined_set, placed_row, plain_row, placed, has_own, not_empty, enters_group, unequal, rising_row, united_vertex, lateral_row, other_row, new_row, held, locked, rows1, rows2, rows3, rows4, rows5, rows6, rows7, rows8, rules, S1, S2, S3, S4, S5, S6, S7, S8, sound}
use Rattle.rules.specs.declared.Token.{Token}
use Rattle.rules.specs.declared.Letter.{Letter}
use Rattle.rules.specs.declared.Spot.{Spot}
use Rattle.theorems.specs.Layers.{named, owned, distinct, rising, united, lateral}
use Rattle.theorems.proofs.ListLaws.{every-mem, mem-every, get_or-mem, mem-get_or, numbered-mem, mem-numbered, pairwise-at, some_first}

-- two tests that imply each other
pub same : (p q : Bool) → (p ≡ true → q ≡ true) → (q ≡ true → p ≡ true) → p ≡ q
same true q f g = sym (f refl)
same false true f g = absurd (false≢true (g refl))
same false false f g = refl

module _ {A : Type 0} where
  pub every-pass : (p : A → Bool) (xs : List A) → all_pass (map p xs) ≡ every p xs
  unfolding all_pass every
  every-pass p [] = refl
  every-pass p (x ∷ xs) = ap (λ b. p x && b) (every-pass p xs)

  pub first-pass : (p : A → Bool) (xs : List A) → first not (map p xs) ≡ first (λ x. not (p x)) xs
  unfolding first
  first-pass p [] = refl
  first-pass p (x ∷ xs) = ap (λ n. cond (not (p x)) zero (suc n)) (first-pass p xs)

  pub length-pass : (p : A → Bool) (xs : List A) → length (map p xs) ≡ length xs
  length-pass p [] = refl
  length-pass p (x ∷ xs) = ap suc (length-pass p xs)

  -- tests that agree on the rows
  pub first-same : (p q : A → Bool) (xs : List A) → ((x : A) → Memᴰ x xs → p x ≡ q x) → first p xs ≡ first q xs
  unfolding first
  first-same p q [] h = refl
  first-same p q (x ∷ xs) h =
      ap₂ (λ (b : Bool) (n : ℕ). cond b zero (suc n)) (h x (Memᴰ.head refl)) (first-same p q xs (λ y m. h y (Memᴰ.tail m)))

  pub every-both : (p q : A → Bool) (xs : List A) → every (λ x. p x && q x) xs ≡ (every p xs && every q xs)
  unfolding every
  every-both p q [] = refl
  every-both p q (x ∷ xs) = ap (λ b. p x && q x && b) (every-both p q xs) ∙ swap (p x) (q x) (every p xs) (every q xs)
    where
      swap : (a b c d : Bool) → (a && b && (c && d)) ≡ ((a && c) && (b && d))
      swap true true c d = refl
      swap true false c d = sym (and-false c)
      swap false b c d = refl

  pub every-numbered : (p : A → Bool) (n : ℕ) (xs : List A) → every (λ v. p v.1) (numbered n xs) ≡ every p xs
  unfolding every numbered
  every-numbered p n [] = refl
  every-numbered p n (x ∷ xs) = ap (λ b. p x && b) (every-numbered p (suc n) xs)

  -- each pair, by numbers
  pub all-pairs : (p : A → A → Bool) (xs : List A) (d : A) → ((i j : ℕ) → i < j → j < length xs → p (get_or xs i d) (get_or xs j d) ≡ true) → pairwise p xs ≡ true
  unfolding pairwise
  all-pairs p [] d h = refl
  all-pairs p (x ∷ xs) d h =
      rw (mem-every (p x) xs (λ y m. let (j, l, e) = mem-get_or xs d m in ap (p x) (sym e) ∙ h 0 (suc j) (zero-lt-suc j) (omega arith)))
      (all-pairs p xs d (λ i j k l. h (suc i) (suc j) (omega arith) (omega arith)))

  -- every row is unlike those before it: no two are alike
  module _ (p : A → A → Bool) where
    earlier-pairs : (xs : List A) (d : A) → every (unlike_earlier p xs) (numbered 0 xs) ≡ true → pairwise p xs ≡ true
    unfolding unlike_earlier
    earlier-pairs xs d e =
        all-pairs p xs d
        (λ i j k l.
        let there : i < length (take j xs) = simp length-take (omega arith) in
        let row : every (λ x. p x (get_or xs j d)) (take (0 + j) xs) ≡ true = every-mem (unlike_earlier p xs) (numbered 0 xs) e (mem-numbered 0 xs d j l) in
        let row' : every (λ x. p x (get_or xs j d)) (take j xs) ≡ true = subst (λ (n : ℕ). every (λ x. p x (get_or xs j d)) (take n xs) ≡ true) (zero-add j) row in
        ap (λ x. p x (get_or xs j d)) (sym (get_or-take j xs i d k)) ∙ every-mem (λ x. p x (get_or xs j d)) (take j xs) row' (get_or-mem (take j xs) i d there))

    pairs-earlier : (xs : List A) (d : A) → pairwise p xs ≡ true → every (unlike_earlier p xs) (numbered 0 xs) ≡ true
    unfolding unlike_earlier
    pairs-earlier xs d e =
        mem-every (unlike_earlier p xs) (numbered 0 xs)
        (λ v m.
        let (j, l, q) = numbered-mem 0 xs d m in
        subst (λ (v : ℕ × A). unlike_earlier p xs v ≡ true) (sym (q ∙ ap (λ (n : ℕ). (n, get_or xs j d)) (zero-add j))) (at j l))
      where
        at : (j : ℕ) → j < length xs → unlike_earlier p xs (j, get_or xs j d) ≡ true
        at j l =
            mem-every (λ x. p x (get_or xs j d)) (take j xs)
            (λ x m.
            let (i, k, s) = mem-get_or (take j xs) d m in
            let lt : i < j = omega (arith, simp length-take at k) in
            ap (λ z. p z (get_or xs j d)) (sym s ∙ get_or-take j xs i d lt) ∙ pairwise-at p xs d i j e lt l)

    pub unlike-pairs : (xs : List A) → every (unlike_earlier p xs) (numbered 0 xs) ≡ pairwise p xs
    unfolding every numbered pairwise
    unlike-pairs [] = refl
    unlike-pairs (x ∷ xs) =
        same (every (unlike_earlier p (x ∷ xs)) (numbered 0 (x ∷ xs))) (pairwise p (x ∷ xs)) (earlier-pairs (x ∷ xs) x) (pairs-earlier (x ∷ xs) x)

-- ---- a rule is kept exactly where it is broken nowhere

none-fails : (bs : List Bool) → all_pass bs ≡ not (lists.some not bs)
unfolding all_pass every lists.some
none-fails [] = refl
none-fails (true ∷ bs) = none-fails bs
none-fails (false ∷ bs) = refl

all_first : (bs : List Bool) → all_pass bs ≡ not (ltb (first not bs) (length bs))
all_first bs = none-fails bs ∙ ap not (some_first not bs)

pub kept-nowhere : (ts : List Tested) → kept ts ≡ is_none (broken ts)
unfolding kept every broken is_none
kept-nowhere [] = refl
kept-nowhere (t ∷ ts) =
    ap₂ (λ (a b : Bool). a && b) (all_first t.passes) (kept-nowhere ts) ∙ go (ltb (first not t.passes) (length t.passes))
  where
    go : (b : Bool) → (not b && is_none (broken ts)) ≡ is_none (cond b (some (t.spot (first not t.passes))) (broken ts))
    go true = refl
    go false = refl

pub rules-nowhere : (rs : List (Letter × List Tested)) → all_kept rs ≡ is_none (first_rule rs)
unfolding all_kept every first_rule or_rule is_none
rules-nowhere [] = refl
rules-nowhere (r ∷ rs) = ap₂ (λ (a b : Bool). a && b) (kept-nowhere r.1) (rules-nowhere rs) ∙ go (broken r.1)
  where
    go : (s : Option Spot) → (is_none s && is_none (first_rule rs)) ≡ is_none (or_rule r.0 s (first_rule rs))
    go none = refl
    go (some s) = refl

-- ---- S1 to S8, layer by layer

s2-order : (a b z e f : Bool) → (a && (b && (z && (e && (f && true))))) ≡ ((a && e) && (b && f) && z)
s2-order true true z e f = ap (λ x. z && x) (ap (λ x. e && x) (and-true f)) ∙ and_comm z (e && f)
s2-order true false z e f = sym (ap (λ x. x && z) (and-false e))
s2-order false b z e f = refl

module _ (b : Book) where
  pub s1-is : S1 b ≡ (counts b && joined_set b.users b.leavers && named b.users b.inner && named b.users b.outer && every (λ t. eqb t.kind 0) b.outer.tokens && every (placed b) b.resources)
  unfolding S1 rows1 kept all_pass every named plain_row
  s1-is =
      rw (
        every-pass (joined_set b.users) b.inner.sets,
        every-pass (placed_row b.inner) b.inner.tokens,
        every-pass (joined_set b.users) b.outer.sets,
        every-pass (plain_row b.outer) b.outer.tokens,
        every-pass (placed b) b.resources,
        every-both (placed_row b.outer) (λ (t : Token). eqb t.kind 0) b.outer.tokens,
      )
      (simp (and_assoc, and-true))

  pub s2-is : S2 b ≡ (owned b.users b.inner && owned b.users b.outer && every not_empty b.inner.sets)
  unfolding S2 rows2 kept every owned
  s2-is =
      rw (
        every-pass (has_own b.inner) (up_to b.users),
        every-pass (has_own b.outer) (up_to b.users),
        every-pass not_empty b.inner.sets,
        every-pass (enters_group b.inner) b.inner.tokens,
        every-pass (enters_group b.outer) b.outer.tokens,
      )
      (s2-order (every (has_own b.inner) (up_to b.users)) (every (has_own b.outer) (up_to b.users)) (every not_empty b.inner.sets) (every (enters_group b.inner) b.inner.tokens) (every (enters_group b.outer) b.outer.tokens))

  pub s3-is : S3 b ≡ (distinct b.inner && distinct b.outer)
  unfolding S3 rows3 kept every distinct
  s3-is =
      rw (
        every-pass (unlike_earlier unequal b.inner.sets) (numbered 0 b.inner.sets),
        every-pass (unlike_earlier unequal b.outer.sets) (numbered 0 b.outer.sets),
        unlike-pairs unequal b.inner.sets,
        unlike-pairs unequal b.outer.sets,
        and-true,
      )

  pub s4-is : S4 b ≡ (rising b.inner && rising b.outer)
  unfolding S4 rows4 kept every rising
  s4-is = rw (every-pass (rising_row b.inner) b.inner.tokens, every-pass (rising_row b.outer) b.outer.tokens, and-true)

  pub s5-is : S5 b ≡ (united b.inner && united b.outer)
  unfolding S5 rows5 kept every united
  s5-is =
      rw (every-pass (united_vertex b.inner) (numbered 0 b.inner.sets), every-pass (united_vertex b.outer) (numbered 0 b.outer.sets), and-true)

  pub s6-is : S6 b ≡ (lateral b.inner && lateral b.outer)
  unfolding S6 rows6 kept every new_row lateral
  s6-is =
      rw (
        every-pass (new_row b.inner) (numbered 0 b.inner.tokens),
        every-pass (new_row b.outer) (numbered 0 b.outer.tokens),
        layer b.inner,
        layer b.outer,
        and-true,
      )
    where
      layer : (L : Layer) → every (new_row L) (numbered 0 L.tokens) ≡ lateral L
      layer L =
          every-both (λ (v : ℕ × Token). lateral_row L v.1) (unlike_earlier other_row L.tokens) (numbered 0 L.tokens)
          ∙ ap₂ (λ (a b : Bool). a && b) (every-numbered (lateral_row L) 0 L.tokens) (unlike-pairs other_row L.tokens)

  pub s7-is : S7 b ≡ every (held b) b.resources
  unfolding S7 rows7 kept every
  s7-is = and-true (all_pass (map (held b) b.resources)) ∙ every-pass (held b) b.resources

  pub s8-is : S8 b ≡ every (locked b) b.resources
  unfolding S8 rows8 kept every
  s8-is = and-true (all_pass (map (locked b) b.resources)) ∙ every-pass (locked b) b.resources

  -- a sound book keeps each rule
  pub sound-is : sound b ≡ (S1 b && S2 b && S3 b && S4 b && S5 b && S6 b && S7 b && S8 b)
  unfolding sound rules all_kept every S1 S2 S3 S4 S5 S6 S7 S8
  sound-is = simp (and_assoc, and-true)

  -- and has its counts and no rule that is broken
  pub sound-nowhere : sound b ≡ (counts b && is_none (first_rule (rules b)))
  unfolding sound
  sound-nowhere = ap (λ z. counts b && z) (rules-nowhere (rules b))
