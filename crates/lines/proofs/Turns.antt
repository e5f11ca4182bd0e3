-- The reader of a line's numbers, piece by piece. Assumes nothing.
use Prim.Native.Nat.{ℕ, ◌+◌, ◌≤◌, ◌<◌}
use mathlib.Core.Path.{◌≡◌, refl, sym, ap, subst, ◌∙◌}
use mathlib.Core.Bool.{Bool, false}
use mathlib.Core.List.{List, [], ◌∷◌}
use native.Mathlib.Omega.{arith}
use lib.ListN.{length, take, drop, set}
use denote.Ref.{Bor}
use denote.Param.Members.{Mut}
use Rattle.std.specs.Prelude.{Option, Some, None}
use Rattle.std.specs.List.{slice_split}
use Rattle.std.specs.Fn.{CalledAt}
use Rattle.std.specs.Iterator.Adapters.{skip_source, skip_count, skip_steps}
use Rattle.std.specs.Slice.Iter.{split_rest, split_done, split_callee, split_steps}
use Rattle.std.specs.declared.iter.Skip.{Skip}
use Rattle.std.specs.declared.slice.Split.{Split}
use Rattle.std.proofs.lemmas.Iterator.{YieldsList}
use Rattle.std.proofs.lemmas.Iterator.Adapters.{YieldsList-from_skip}
use Rattle.std.proofs.lemmas.Iterator.Splits.{YieldsList-from_slice_split}
use Rattle.rules.specs.Lists.{every}
use Rattle.lines.specs.Request.{pieces, number_in}
use Rattle.lines.specs.Program.{span}
use Rattle.lines.specs.Reading.{space, tail, behind, Rest, numbers_of}
use Rattle.lines.proofs.Pieces.{pieces_is, pieces-span, onto, onto-first, onto-none, number-long, turn-bad, turn-good}

tail_is : (ps : List (List ℕ)) → tail ps ≡ drop 1 ps
tail_is [] = refl
tail_is (p ∷ ps) = refl

tail-span : (ps : List (List ℕ)) → span ps ≤ 513 → span (tail ps) ≤ 512
unfolding span
tail-span [] h = omega arith
tail-span (p ∷ ps) h = omega arith

-- the pieces behind the first one, as `split` and `skip` give them
behind_is : (rest : List ℕ) → behind rest ≡ drop 1 (slice_split space rest)
behind_is rest = tail_is (pieces rest) ∙ ap (drop 1) (pieces_is rest)

module _ {S : Type 0} (steps : S → Option (Bor (List ℕ)) → S → Type 0) where
  -- all that will still be given
  abbrev pub Gives : S → List (List ℕ) → Type 0
  Gives s ps = YieldsList steps (λ (x : Bor (List ℕ)). x.now) s ps

  -- a piece, and those behind it
  record Piece (x : List ℕ) (t : S) (ps : List (List ℕ)) : Type 0 where
    pub left : List (List ℕ)
    pub is : ps ≡ x ∷ left
    pub gives : Gives t left

  module _ {s t : S} {r : Option (Bor (List ℕ))} where
    some-piece : (ps : List (List ℕ)) (x : Bor (List ℕ)) → Gives s ps → r ≡ Some x → steps s r t → Piece x.now t ps
    some-piece [] x g e k = absurd (g.runs x t (subst (λ (o : Option (Bor (List ℕ))). steps s o t) e k))
    some-piece (p ∷ ps) x g e k =
        let m = g.runs.1 x t (subst (λ (o : Option (Bor (List ℕ))). steps s o t) e k) in
        record { left = ps; is = ap (λ (y : List ℕ). y ∷ ps) (sym m.0); gives = record { runs = m.1 } }

    no-piece : (ps : List (List ℕ)) → Gives s ps → r ≡ None → steps s r t → ps ≡ []
    no-piece [] g e k = refl
    no-piece (p ∷ ps) g e k = absurd (g.runs.0 t (subst (λ (o : Option (Bor (List ℕ))). steps s o t) e k))

  -- between two pieces: those left, that there is room for their numbers, and that the numbers read stand in front of theirs
  pub record Turn (s : S) (rest numbers : List ℕ) (n : ℕ) : Type 0 where
    pub left : List (List ℕ)
    pub gives : Gives s left
    pub room : n + n + span left ≤ 512
    pub whole : numbers_of (behind rest) ≡ onto (take n numbers) (numbers_of left)

  -- a piece that is given in a turn
  module _ {s t : S} {rest numbers : List ℕ} {n : ℕ} (h : Turn s rest numbers n) (x : Bor (List ℕ)) {r : Option (Bor (List ℕ))} (is : r ≡ Some x) (k : steps s r t) where
    given : Piece x.now t h.left
    given = some-piece h.left x h.gives is k

    here : numbers_of (behind rest) ≡ onto (take n numbers) (numbers_of (x.now ∷ given.left))
    here = h.whole ∙ ap (λ (ps : List (List ℕ)). onto (take n numbers) (numbers_of ps)) given.is

    pub bad-piece : number_in x.now ≡ None → numbers_of (behind rest) ≡ None
    bad-piece b = turn-bad numbers n x.now given.left (numbers_of (behind rest)) here b

    -- a number has a digit
    pub has-room : (y : ℕ) → number_in x.now ≡ Some y → n < 256
    unfolding span
    has-room y g = omega (arith, number-long x.now y g, h.room, ap span given.is)

    pub goes-on : (y : ℕ) → number_in x.now ≡ Some y → 256 ≤ length numbers → Turn t rest (set numbers n y) (n + 1)
    unfolding span
    goes-on y g l =
        record {
          left = given.left;
          gives = given.gives;
          room = omega (arith, number-long x.now y g, h.room, ap span given.is);
          whole = turn-good numbers n x.now given.left (numbers_of (behind rest)) here y g (omega (arith, has-room y g, l));
        }

  pub ended : {s t : S} {rest numbers : List ℕ} {n : ℕ} (h : Turn s rest numbers n) {r : Option (Bor (List ℕ))} → r ≡ None → steps s r t → numbers_of (behind rest) ≡ Some (take n numbers)
  unfolding numbers_of every
  ended {numbers = numbers} {n = n} h is k =
      h.whole ∙ ap (λ (ps : List (List ℕ)). onto (take n numbers) (numbers_of ps)) (no-piece h.left h.gives is k) ∙ onto-none (take n numbers)

-- at the first piece: `split` gives all pieces, and `skip` passes over the one in front of the space
pub starts : {F : Type 0} (g : Mut F (Bor ℕ × Unit {0}) Bool) {s : Skip (Split ℕ F)} {m : Split ℕ F} {f : F} (rest numbers : List ℕ) → Rest rest
    → skip_source s ≡ m → skip_count s ≡ 1 → split_rest m ≡ rest → split_done m ≡ false → split_callee m ≡ f
    → ((x : ℕ) (b : Bool) (q : F) → CalledAt g f x b q → (q ≡ f) × (b ≡ space x))
    → Turn (skip_steps (split_steps g)) s rest numbers 0
starts g {s} {m} rest numbers h source one all done closure tests =
    let all-pieces : Gives (split_steps g) (skip_source s) (slice_split space rest) = rw source (YieldsList-from_slice_split g space rest all done closure tests) in
    record {
      left = behind rest;
      gives = rw (behind_is rest) (YieldsList-from_skip 1 all-pieces one);
      room = omega (arith, tail-span (pieces rest) (omega (arith, pieces-span rest, h.short)));
      whole = onto-first (numbers_of (behind rest));
    }
