-- What the rules on a book's sections (RULES 9.3), the place of a row, and the copies of sections need; and what a call for a section answers.
-- Assumes nothing.
use Rattle.std.specs.Prelude.{ℕ, ◌≤◌, ◌<◌, ◌≡◌, true, List, length, get_or, Result, MatchResult}
use Rattle.std.proofs.Math.Option.{some, none}
use Rattle.std.proofs.Common.{Bor}
use Rattle.rules.specs.Bytes.{Tables, newest, version_in, head_in, counts, start, section, Room}
use Rattle.rules.specs.Refusals.{refusal_section}
use Rattle.rules.specs.declared.Denial.{Denial}
use Rattle.rules.specs.declared.Head.{Head}
use Rattle.rules.specs.declared.Spot.{Spot}
use Rattle.rules.specs.declared.Spot.TheVariants.{Row, Leavers, Missing}
use Rattle.sound.specs.Check.{counts_of}

-- bytes of the exact length that their version v and their head h give
pub record Whole (bs : List ℕ) (v : ℕ) (h : Head) : Type 0 where
  pub version : v ≡ version_in bs
  pub head : h ≡ head_in bs
  pub exact : length bs ≡ start v h 5

-- the same, where mode and counts hold
pub record Judgeable (bs : List ℕ) (v : ℕ) (h : Head) : Type 0 where
  pub whole : Whole bs v h
  pub within : counts_of h ≡ true

-- a row that the head counts
abbrev pub Counted : Head → Spot → Type 0
Counted h (Row k i) = (k < 5) × (i < get_or (counts h) k 0)
Counted h Leavers = Unit {0}
Counted h Missing = Unit {0}

-- bytes of their exact length, and tables with room for their rows
pub record Loadable (bs : List ℕ) (v : ℕ) (h : Head) (t : Tables) : Type 0 where
  pub whole : Whole bs v h
  pub room : Room h t

-- tables with the head's rows, whose mode and users fit a byte, and a buffer for all
pub record Savable (h : Head) (t : Tables) (buffer : List ℕ) : Type 0 where
  pub mode< : h.mode.0 < 256
  pub users< : h.users.0 < 256
  pub room : Room h t
  pub long : start newest h 5 ≤ length buffer

-- a section of bytes, or what a call for it is refused with
abbrev pub PartOf : List ℕ → ℕ → Result (Bor (List ℕ)) Denial → Type 0
PartOf bs k r = MatchResult r (λ p. (refusal_section bs k ≡ none) × (p.now ≡ section bs k)) (λ d. refusal_section bs k ≡ some d)
