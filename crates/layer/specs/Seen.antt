-- A layer as a leave will have it (RULES 5.12): the vertices of the table, and behind them the new ones, each told by a resource that it is made for.
-- Assumes nothing.
use Rattle.std.specs.Prelude.{ℕ, ◌+◌, ◌*◌, ◌≤◌, ◌<◌, List, [], ◌++◌, map, length, take, get_or}
use Rattle.sets.specs.Sets.{minus, single}
use Rattle.sets.specs.Words.{people, bytes}
use Rattle.rules.specs.Layer.{Layer}
use Rattle.rules.specs.Book.{Resource}
use Rattle.rules.specs.Bytes.{sets_in, resources_in}
use Rattle.layer.specs.Laid.{no_resource}
use Rattle.layer.specs.declared.seen.Seen.{Seen}

-- the n vertices of a table, and nothing new
abbrev pub as_laid : ℕ → Seen
as_laid n = record { vertices = n; new = 0; resources = 0; leaver = record { 0 = 0 } }

-- the list of resource r without u
abbrev pub left_of : List Resource → ℕ → ℕ → ℕ
left_of xs u r = minus (get_or xs r no_resource).list (single u)

-- the sets: those of the table, then the lists, without the leaver, of the resources in the first places of fs
unfoldable pub seen_sets : Seen → List ℕ → List ℕ → List ℕ → List ℕ
seen_sets l vs rs fs = sets_in l.vertices vs ++ map (left_of (resources_in l.resources rs) l.leaver.0) (take l.new fs)

-- a layer by these sets alone
abbrev pub seen_layer : Seen → List ℕ → List ℕ → List ℕ → Layer
seen_layer l vs rs fs = record { sets = seen_sets l vs rs fs; tokens = [] }

-- the tables hold the rows, and every resource that a new vertex is told by exists
pub record SeenIn (l : Seen) (vs rs fs : List ℕ) : Type 0 where
  pub sets : l.vertices * bytes ≤ length vs
  pub rows : l.resources * (bytes + 4) ≤ length rs
  pub places : l.new ≤ length fs
  pub user : l.leaver.0 < people
  pub few : l.vertices + l.new < 65536
  pub there : (j : ℕ) → j < l.new → get_or fs j 0 < l.resources
