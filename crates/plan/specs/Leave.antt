-- The outer part of a leave (RULES 5.12): the lists that name the leaver, without the leaver, and the rows that vertices for them add.
-- Assumes nothing.
use Rattle.std.specs.Prelude.{ℕ, ◌+◌, Bool, cond, List, map, length}
use Rattle.sets.specs.Sets.{has, single, minus}
use Rattle.rules.specs.Lists.{keep, up_to}
use Rattle.rules.specs.Layer.{Layer}
use Rattle.rules.specs.Book.{Resource}
use Rattle.theorems.specs.Plan.{all_vertices, all_tokens}
use Rattle.layer.specs.Seen.{left_of}
use Rattle.plan.specs.Waiting.{row}
use Rattle.plan.specs.Judge.{part, lock_part}
use Rattle.plan.specs.declared.judge.Part.{Part}

-- the list of resource r names u
abbrev pub names_in : List Resource → ℕ → ℕ → Bool
names_in xs u r = has (row xs r).list u

-- of the first i resources, the lists that name u, without u
unfoldable pub left_in : List Resource → ℕ → ℕ → List ℕ
left_in xs u i = map (left_of xs u) (keep (names_in xs u) (up_to i))

-- what one list adds to the outer layer L: nothing where it does not name u
unfoldable pub list_part : Layer → ℕ → ℕ → Part
list_part L list u = cond (has list u) (lock_part L (minus list (single u)) 1) (part 0 0 0)

-- a vertex for each of these sets in the outer layer L, one after the other, and a re-lock each
abbrev pub leave_part : Layer → List ℕ → Part
leave_part L ss = part (all_vertices L ss) (all_tokens L ss) (all_vertices L ss + all_tokens L ss + length ss)
