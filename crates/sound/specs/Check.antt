-- The check of tables: their room, the counts, and the answer. RULES 8.7.
-- Assumes nothing.
use Rattle.std.specs.Prelude.{ℕ, Bool, ◌&&◌, cond, leb, ltb, Option, Some, None, Result, Ok, Err}
use Rattle.std.proofs.Math.Option as math
use Rattle.rules.specs.Lists.{every}
use Rattle.rules.specs.Bytes.{Tables, book_in, limits_of}
use Rattle.rules.specs.Sound.{in_limit}
use Rattle.rules.specs.Refusals.{common, verdict}
use Rattle.rules.specs.declared.Head.{Head}
use Rattle.rules.specs.declared.Refusal.{Refusal}
use Rattle.rules.specs.declared.Letter.{Letter}
use Rattle.rules.specs.declared.Spot.{Spot}
use Rattle.rules.specs.declared.Spot.TheVariants.{Row, Missing}

-- fine, unless there is something against it
abbrev pub unless : {E : Type 0} → math.Option E → Result (Unit {0}) E
unless math.none = Ok tt
unless (math.some e) = Err e

-- S1's counts (`counts`), by the head
unfoldable pub counts_of : Head → Bool
counts_of h = leb h.mode.0 1 && every in_limit (limits_of h)

-- what a search among the rows of section k says of a rule, and a search for someone without a vertex
abbrev pub row_of : ℕ → Option ℕ → Result (Unit {0}) Spot
row_of k (Some i) = Err (Row k i)
row_of k None = Ok tt

abbrev pub missing_of : Option ℕ → Result (Unit {0}) Spot
missing_of (Some u) = Err Missing
missing_of None = Ok tt

-- the lower of two rows
abbrev pub lower : Option ℕ → Option ℕ → Option ℕ
lower None g = g
lower (Some i) None = Some i
lower (Some i) (Some j) = cond (ltb j i) (Some j) (Some i)

-- what the answer on a rule says of the book
abbrev pub by_rule : Letter → Result (Unit {0}) Spot → Result (Unit {0}) (Letter × Spot)
by_rule l (Ok u) = Ok u
by_rule l (Err s) = Err (l, s)

-- 13, 12, or a sound book
unfoldable pub checked : Head → Tables → Result (Unit {0}) Refusal
checked h t = unless (verdict (common t (book_in h t)))
