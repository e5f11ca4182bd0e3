-- The sets of a layer as a leave will have it, vertex by vertex.
-- Assumes nothing.
use Prim.Native.Nat.{ℕ, zero, suc, ◌+◌, ◌-◌, ◌≤◌, ◌<◌}
use mathlib.Core.Path.{◌≡◌, refl, ap, ◌∙◌}
use mathlib.Core.List.{List, [], ◌∷◌, ◌++◌, map}
use native.Mathlib.Nat.{not-suc-le-zero, le_of_suc-le-suc}
use native.Mathlib.Omega.{arith}
use lib.ListN.{length, take, get_or, length-append, length-map, get_or-append}
use lib.Seq.{length-take-le, get_or-append-add, get_or-take}
use Rattle.rules.specs.Bytes.{sets_in, resources_in}
use Rattle.layer.specs.declared.seen.Seen.{Seen}
use Rattle.layer.specs.Seen.{left_of, seen_sets, SeenIn}
use Rattle.layer.proofs.Read.{length-sets}

get_or-map-in : (f : ℕ → ℕ) (xs : List ℕ) (i d e : ℕ) → i < length xs → get_or (map f xs) i d ≡ f (get_or xs i e)
get_or-map-in f [] i d e h = absurd (not-suc-le-zero h)
get_or-map-in f (x ∷ xs) zero d e h = refl
get_or-map-in f (x ∷ xs) (suc i) d e h = get_or-map-in f xs i d e (le_of_suc-le-suc h)

module _ (l : Seen) (vs rs fs : List ℕ) where
  -- the set of a new vertex, by its resource
  abbrev less : ℕ → ℕ
  less = left_of (resources_in l.resources rs) l.leaver.0

  -- a vertex of the table
  pub seen-old : (v : ℕ) → v < l.vertices → get_or (seen_sets l vs rs fs) v 0 ≡ get_or (sets_in l.vertices vs) v 0
  unfolding seen_sets
  seen-old v h = get_or-append (sets_in l.vertices vs) (map less (take l.new fs)) 0 v (rw length-sets h)

  module _ (k : SeenIn l vs rs fs) where
    pub length_seen : length (seen_sets l vs rs fs) ≡ l.vertices + l.new
    unfolding seen_sets
    length_seen =
        omega (
          arith,
          length-append (sets_in l.vertices vs) (map less (take l.new fs)),
          length-sets l.vertices vs,
          length-map (take l.new fs) less,
          length-take-le l.new fs k.places,
        )

    -- a new one
    pub seen-new : (v : ℕ) → l.vertices ≤ v → v < l.vertices + l.new → get_or (seen_sets l vs rs fs) v 0 ≡ less (get_or fs (v - l.vertices) 0)
    unfolding seen_sets
    seen-new v h n =
        let i : ℕ = v - l.vertices in
        let at : v ≡ length (sets_in l.vertices vs) + i = omega (arith, length-sets l.vertices vs) in
        let few : i < l.new = omega arith in
        let there : i < length (take l.new fs) = omega (arith, length-take-le l.new fs k.places) in
        ap (λ (x : ℕ). get_or (sets_in l.vertices vs ++ map less (take l.new fs)) x 0) at
        ∙ get_or-append-add (sets_in l.vertices vs) (map less (take l.new fs)) i 0
        ∙ get_or-map-in less (take l.new fs) i 0 0 there
        ∙ ap less (get_or-take l.new fs i 0 few)
