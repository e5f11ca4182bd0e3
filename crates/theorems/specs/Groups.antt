-- Which vertices are groups' (RULES 2.2). How many there are in a sound book, and that 7 is judged by them, is proved in proofs/OwnLaws.
-- Assumes nothing.
use Rattle.std.specs.Prelude.{ℕ, Bool, not, List, eqb}
use Rattle.sets.specs.Sets.{size}
use Rattle.rules.specs.Lists.{keep}
use Rattle.rules.specs.Layer.{Layer}

-- a user's own (RULES 2.2), as S2 and S5 test it: a vertex whose set has one user
unfoldable pub of_one : ℕ → Bool
of_one s = eqb (size s) 1

-- "any other vertex is a group vertex": the sets of a layer's group vertices
unfoldable pub groups : Layer → List ℕ
groups L = keep (λ s. not (of_one s)) L.sets
