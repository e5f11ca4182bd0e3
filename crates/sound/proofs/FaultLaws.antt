-- Tests of the rules of one layer by what the code reads: the users with a vertex of their own by a union, whether a
-- vertex has a set by the search for it, and a token's rule by the sets at its ends.
-- Assumes nothing.
use Rattle.std.specs.Prelude.{Option, Some, None, is_some}
use Prim.Native.Nat.{ℕ, ◌+◌, ◌≤◌, ◌<◌}
use mathlib.Core.Path.{◌≡◌, refl, sym, ap, ◌∙◌}
use mathlib.Core.Bool.{Bool, true, false, ◌||◌, not, cond, or-false}
use mathlib.Core.List.{List, []}
use native.Mathlib.Numerals.{add-one}
use lib.Dec.{eqb, ltb}
use lib.ListN.{length, take, get_or}
use lib.Seq.{take_all, take-suc}
use borrow.Author.Tests.{eqb-true, eq-eqb, ne_eqb}
use Rattle.sets.specs.Sets.{has, single, union, size}
use Rattle.sets.proofs.Laws.{has-empty, has-union, has-own, single-of-size, size-single}
use Rattle.rules.specs.Lists.{first, some}
use Rattle.rules.specs.Bytes.{sets_in}
use Rattle.theorems.proofs.ListLaws.{some-append, some_first}
use Rattle.layer.specs.Laid.{found_in, is_set}
use Rattle.layer.proofs.Read.{length-sets, sets-front}
use Rattle.sound.specs.Faults.{has_own_in, Owners, repeated}
use Rattle.theorems.proofs.TestedLaws.{same}

-- S2: the users who have one of the sets for themselves

pub owners-none : Owners [] 0
unfolding some
owners-none = record { owns = has-empty }

module _ (sets : List ℕ) {i own : ℕ} (h : Owners (take i sets) own) where
  pub owners-all : length sets ≤ i → Owners sets own
  owners-all l = rw (take_all i sets l) at h

  -- with the next set, s, of k users
  module _ {s k : ℕ} (l : i < length sets) (e : s ≡ get_or sets i 0) (q : k ≡ size s) where
    owns-more : (u : ℕ) → has_own_in (take (i + 1) sets) u ≡ (has own u || eqb s (single u))
    unfolding some
    owns-more u = rw (e, add-one, take-suc sets i 0, some-append, or-false, h.owns u)

    pub owners-own : k ≡ 1 → {after : ℕ} → after ≡ union own s → Owners (take (i + 1) sets) after
    owners-own z a = rw a (record { owns = λ u. has-union own s u ∙ ap (λ (b : Bool). has own u || b) (only u) ∙ sym (owns-more u) })
      where
        only : (u : ℕ) → has s u ≡ eqb s (single u)
        only u =
            same (has s u) (eqb s (single u)) (λ t. eq-eqb s (single u) (single-of-size s u (sym q ∙ z) t))
            (λ t. ap (λ (x : ℕ). has x u) (eqb-true s (single u) t) ∙ has-own u)

    pub owners-group : (k ≡ 1 → ⊥) → {after : ℕ} → after ≡ own → Owners (take (i + 1) sets) after
    owners-group z a = rw a (record { owns = λ u. sym (owns-more u ∙ rw (ne_eqb s (single u) (λ t. z (q ∙ ap size t ∙ size-single u)), or-false)) })

-- whether user u is one of them, by the answer r
pub owner-told : {sets : List ℕ} {s : ℕ} (u : ℕ) {r b : Bool} → Owners sets s → r ≡ has s u → not r ≡ b → not (has_own_in sets u) ≡ b
owner-told u h e q = ap not (sym (h.owns u) ∙ sym e) ∙ q

-- S3: whether one of n vertices has the set x, by the answer r of the search for it
pub set-told : (n : ℕ) (vs : List ℕ) {s x : ℕ} {r : Option ℕ} → s ≡ x → r ≡ found_in n (first (is_set s) (sets_in n vs)) → some (is_set x) (sets_in n vs) ≡ is_some r
set-told n vs {s} {x} {r} k e =
    ap (λ (y : ℕ). some (is_set y) (sets_in n vs)) (sym k) ∙ some_first (is_set s) (sets_in n vs) ∙ ap (ltb (first (is_set s) (sets_in n vs))) (length-sets n vs)
    ∙ go (ltb (first (is_set s) (sets_in n vs)) n) ∙ ap is_some (sym e)
  where
    go : (b : Bool) → b ≡ is_some (cond b (Some (first (is_set s) (sets_in n vs))) None)
    go true = refl
    go false = refl

-- S3: the vertices before vertex i are the first i of the table
pub repeated-before : (n : ℕ) (vs : List ℕ) (i : ℕ) → i ≤ n → repeated (sets_in n vs) i ≡ some (is_set (get_or (sets_in n vs) i 0)) (sets_in i vs)
unfolding repeated
repeated-before n vs i h = ap (some (is_set (get_or (sets_in n vs) i 0))) (sets-front n vs i h)
