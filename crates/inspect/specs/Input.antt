-- What was read of standard input, as against all that came.
-- Assumes nothing.
use Rattle.std.specs.Prelude.{ℕ, ◌+◌, ◌*◌, Option, List, ◌++◌, ◌≡◌, length, take}
use Rattle.sets.specs.Words.{bytes}
use Rattle.rules.specs.Bytes.{header_bytes}
use Rattle.rules.specs.Sound.{max_users, max_resources, max_tokens, max_groups}
use Rattle.std.specs.Io.KnownBytes.{Consumes, IsAtEnd}

-- RULES 9.4: "no book is longer"
abbrev pub longest : ℕ
longest = header_bytes + bytes + (max_users + max_resources) * bytes + max_tokens * 5 + (max_users + max_groups) * bytes + max_tokens * 4 + max_resources * (bytes + 4)

-- of all that came the buffer has the front, as much as it has room for, and the count is that of all
pub record Holds (total : ℕ) (input came : List ℕ) : Type 0 where
  pub front : take total input ≡ take (length input) came
  pub whole : total ≡ length came

-- the bytes that a reader will give from here on, where they are known (of standard input they are not)
abbrev pub Left : Type 0
Left = Option (List ℕ)

-- one read of n bytes: whatever came before, so many more have come behind it. They are the next that the reader had, and there are none only at its end
pub record Reads (total n : ℕ) (input now : List ℕ) (left rest : Left) : Type 0 where
  pub more : List ℕ
  pub count : length more ≡ n
  pub holds : (came : List ℕ) → Holds total input came → Holds (total + n) now (came ++ more)
  pub gives : Consumes left rest more
  pub last : n ≡ 0 → IsAtEnd rest

pub record SoFar (total : ℕ) (input : List ℕ) (left rest : Left) : Type 0 where
  pub came : List ℕ
  pub holds : Holds total input came
  pub given : Consumes left rest came

-- after the last read: what came is all that the reader had
pub record AllCame (total : ℕ) (input : List ℕ) (left rest : Left) : Type 0 where
  pub so_far : SoFar total input left rest
  pub ended : IsAtEnd rest

-- the front of an input, a byte more than any book has, and how long the whole is
pub record FrontOf (front : List ℕ) (total : ℕ) (came : List ℕ) : Type 0 where
  pub front≡ : front ≡ take (longest + 1) came
  pub whole : total ≡ length came
