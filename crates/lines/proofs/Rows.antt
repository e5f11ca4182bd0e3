-- What a line asks, by its word's kind and its numbers. Assumes nothing.
use Prim.Native.Nat.{ℕ, ◌-◌, ◌≤◌, ◌<◌}
use mathlib.Core.Path.{◌≡◌, refl, ap, ◌∙◌}
use mathlib.Core.Bool.{Bool, true, false, cond}
use mathlib.Core.Logic.{◌⊎◌, inl, inr}
use mathlib.Core.List.{List, map}
use native.Mathlib.Omega.{arith}
use lib.ListN.{length, take, drop, length-drop}
use lib.Seq.{take_all}
use borrow.Author.Tests.{le-leb, lt-leb}
use Rattle.std.specs.Prelude.{Option, Some, None}
use Rattle.rules.specs.Lists.{every, first}
use Rattle.lines.specs.Request.{is_number, value, exactly, row_of, asks_for, request_of, line_asks, kind_of}
use Rattle.lines.specs.declared.request.Asked.{Asked}
use Rattle.rules.specs.Kinds.{request_number}
use Rattle.rules.specs.declared.RequestKind.{RequestKind}
use Rattle.rules.specs.declared.RequestKind.TheVariants.{Grant, Revoke, Open}
use Rattle.lines.specs.Reading.{space, behind, Rest, numbers_of}
use Rattle.lines.proofs.Pieces.{first_piece, ends-spaced}

module _ (k : ℕ) (ps : List (List ℕ)) where
  pub asks-bad : numbers_of ps ≡ None → asks_for k ps ≡ None
  unfolding asks_for numbers_of
  asks-bad = go (every is_number ps)
    where
      go : (b : Bool) → cond b (Some (map value ps)) None ≡ None → cond b (row_of k (map value ps)) None ≡ None
      go true e = absurd (cc)
      go false e = refl

  pub asks-good : (ns : List ℕ) → numbers_of ps ≡ Some ns → asks_for k ps ≡ row_of k ns
  unfolding asks_for numbers_of
  asks-good ns = go (every is_number ps)
    where
      go : (b : Bool) → cond b (Some (map value ps)) None ≡ Some ns → cond b (row_of k (map value ps)) None ≡ row_of k ns
      go true e = let same : map value ps ≡ ns = cc in ap (row_of k) same
      go false e = absurd (cc)

-- a word that is none of the six
pub asks-nothing : (ps : List (List ℕ)) → asks_for 6 ps ≡ None
unfolding asks_for row_of
asks-nothing ps = go (every is_number ps)
  where
    go : (b : Bool) → cond {A = Option Asked} b None None ≡ None
    go true = refl
    go false = refl

pub too-long : (bs : List ℕ) → 512 < length bs → line_asks bs ≡ None
unfolding line_asks
too-long bs h = rw (lt-leb (length bs) 512 h)

-- what a line asks, where its word ends at k, by the numbers of its rest as the code lends it
module _ (line : List ℕ) (k : ℕ) (h : length line ≤ 512) (e : k ≡ first space line) where
  abbrev rest : List ℕ
  rest = take (length line - k) (drop k line)

  rest_is : rest ≡ drop k line
  rest_is = take_all (length line - k) (drop k line) (simp length-drop (omega arith))

  pub rest-starts : Rest rest
  rest-starts = rw rest_is (record { short = simp length-drop (omega arith); spaced = rw e (ends-spaced line) })

  parts : line_asks line ≡ asks_for (kind_of (take k line)) (behind rest)
  unfolding line_asks request_of
  parts = rw (le-leb (length line) 512 h, rest_is, e, first_piece line)

  pub line-nothing : kind_of (take k line) ≡ 6 → line_asks line ≡ None
  line-nothing w = parts ∙ rw w (asks-nothing (behind rest))

  pub line-bad : numbers_of (behind rest) ≡ None → line_asks line ≡ None
  line-bad n = parts ∙ asks-bad (kind_of (take k line)) (behind rest) n

  pub line-good : (ns : List ℕ) → numbers_of (behind rest) ≡ Some ns → line_asks line ≡ row_of (kind_of (take k line)) ns
  line-good ns n = parts ∙ asks-good (kind_of (take k line)) (behind rest) ns n

-- a request of two numbers
pub row-pair : (k : RequestKind) (ns : List ℕ) → (k ≡ Grant) ⊎ ((k ≡ Revoke) ⊎ (k ≡ Open)) → exactly 2 (request_number k) ns ≡ row_of (request_number k) ns
unfolding row_of
row-pair k ns (inl e) = rw e
row-pair k ns (inr (inl e)) = rw e
row-pair k ns (inr (inr e)) = rw e
