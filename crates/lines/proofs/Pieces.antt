-- The pieces of a line, and the numbers that they are. Assumes nothing.
use Prim.Native.Nat.{ℕ, suc, ◌+◌, ◌≤◌, ◌<◌}
use mathlib.Core.Path.{◌≡◌, refl, sym, ap, ◌∙◌}
use mathlib.Core.Bool.{Bool, true, false, cond, ◌&&◌}
use mathlib.Core.List.{List, [], ◌∷◌, ◌++◌, map, append_assoc, append-nil}
use native.Mathlib.Numerals.{add-one}
use native.Mathlib.Omega.{arith}
use lib.Dec.{eqb}
use lib.ListN.{length, take, drop, get_or, set}
use lib.Seq.{take-suc-set}
use borrow.Author.Tests.{eqb-true}
use Rattle.std.specs.Prelude.{Option, Some, None}
use Rattle.std.specs.List.{slice_split, onto_first}
use Rattle.std.proofs.lemmas.List.Splits.{length-slice_split}
use Rattle.rules.specs.Lists.{every, first}
use Rattle.lines.specs.Request.{longer, pieces, shaped, is_number, value, number_in}
use Rattle.lines.specs.Program.{span}
use Rattle.lines.specs.Reading.{space, behind, numbers_of}

-- ---- pieces

longer_is : (x : ℕ) (ps : List (List ℕ)) → 0 < length ps → longer x ps ≡ onto_first x ps
unfolding longer
longer_is x [] h = absurd (omega arith)
longer_is x (p ∷ ps) h = refl

pub pieces_is : (xs : List ℕ) → pieces xs ≡ slice_split space xs
unfolding pieces
pieces_is [] = refl
pieces_is (x ∷ xs) =
    rw (pieces_is xs)
    (ap (λ (ps : List (List ℕ)). cond (eqb x 32) ([] ∷ slice_split space xs) ps) (longer_is x (slice_split space xs) (omega (arith, length-slice_split space xs))))

-- the first piece, and the pieces behind the space that ends it
pub first_piece : (xs : List ℕ) → pieces xs ≡ take (first space xs) xs ∷ behind (drop (first space xs) xs)
unfolding pieces longer first
first_piece [] = refl
first_piece (x ∷ xs) = go (first_piece xs) (eqb x 32) refl
  where
    go : pieces xs ≡ take (first space xs) xs ∷ behind (drop (first space xs) xs) → (b : Bool) → eqb x 32 ≡ b
        → pieces (x ∷ xs) ≡ take (first space (x ∷ xs)) (x ∷ xs) ∷ behind (drop (first space (x ∷ xs)) (x ∷ xs))
    go ih true e = rw e (rw e)
    go ih false e = rw (e, ih)

-- a piece ends at a space or at the end
pub ends-spaced : (xs : List ℕ) → get_or (drop (first space xs) xs) 0 32 ≡ 32
unfolding first
ends-spaced [] = refl
ends-spaced (x ∷ xs) = go (ends-spaced xs) (eqb x 32) refl
  where
    go : get_or (drop (first space xs) xs) 0 32 ≡ 32 → (b : Bool) → eqb x 32 ≡ b → get_or (drop (first space (x ∷ xs)) (x ∷ xs)) 0 32 ≡ 32
    go ih true e = rw e (eqb-true x 32 e)
    go ih false e = rw e ih

-- each piece with the space or the end behind it
pub pieces-span : (xs : List ℕ) → span (pieces xs) ≡ length xs + 1
unfolding pieces span longer
pieces-span [] = refl
pieces-span (x ∷ xs) = go (eqb x 32) (pieces xs) (pieces-span xs)
  where
    go : (b : Bool) (ps : List (List ℕ)) → span ps ≡ length xs + 1 → span (cond b ([] ∷ ps) (longer x ps)) ≡ suc (length xs) + 1
    go true ps e = omega arith
    go false [] e = absurd (omega arith)
    go false (p ∷ ps) e = omega arith

-- ---- the numbers of the pieces

-- numbers in front of those of the pieces still to come
abbrev pub onto : List ℕ → Option (List ℕ) → Option (List ℕ)
onto xs None = None
onto xs (Some ys) = Some (xs ++ ys)

pub onto-one : (xs : List ℕ) (x : ℕ) (o : Option (List ℕ)) → onto xs (onto (x ∷ []) o) ≡ onto (xs ++ (x ∷ [])) o
onto-one xs x None = refl
onto-one xs x (Some ys) = ap Some (sym (append_assoc xs (x ∷ []) ys))

pub onto-first : (o : Option (List ℕ)) → o ≡ onto [] o
onto-first None = refl
onto-first (Some ys) = refl

pub onto-none : (xs : List ℕ) → onto xs (Some []) ≡ Some xs
onto-none xs = ap Some (append-nil xs)

module _ (p : List ℕ) (ps : List (List ℕ)) where
  pub number-bad : number_in p ≡ None → numbers_of (p ∷ ps) ≡ None
  unfolding number_in numbers_of every
  number-bad = go (is_number p)
    where
      go : (b : Bool) → cond b (Some (value p)) None ≡ None → cond (b && every is_number ps) (Some (value p ∷ map value ps)) None ≡ None
      go true e = absurd (cc)
      go false e = refl

  pub number-good : (x : ℕ) → number_in p ≡ Some x → numbers_of (p ∷ ps) ≡ onto (x ∷ []) (numbers_of ps)
  unfolding number_in numbers_of every
  number-good x = go (is_number p) (every is_number ps)
    where
      go : (b c : Bool) → cond b (Some (value p)) None ≡ Some x
          → cond (b && c) (Some (value p ∷ map value ps)) None ≡ onto (x ∷ []) (cond c (Some (map value ps)) None)
      go true true e = cc
      go true false e = refl
      go false c e = absurd (cc)

pub number-long : (p : List ℕ) (x : ℕ) → number_in p ≡ Some x → 1 ≤ length p
unfolding number_in is_number shaped
number-long [] x e = absurd (cc)
number-long (c ∷ cs) x e = omega arith

-- a turn of the reader: the next piece is no number, or is one more
module _ (numbers : List ℕ) (n : ℕ) (p : List ℕ) (left : List (List ℕ)) (whole : Option (List ℕ)) (e : whole ≡ onto (take n numbers) (numbers_of (p ∷ left))) where
  pub turn-bad : number_in p ≡ None → whole ≡ None
  turn-bad b = e ∙ ap (onto (take n numbers)) (number-bad p left b)

  pub turn-good : (x : ℕ) → number_in p ≡ Some x → n < length numbers → whole ≡ onto (take (n + 1) (set numbers n x)) (numbers_of left)
  turn-good x g l =
      e
      ∙ ap (onto (take n numbers)) (number-good p left x g)
      ∙ onto-one (take n numbers) x (numbers_of left)
      ∙ ap (λ (ys : List ℕ). onto ys (numbers_of left)) (rw (add-one, take-suc-set numbers n x l))
