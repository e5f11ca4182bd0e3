-- What the parts of the line reader answer. RULES 10.4, 14.3.
-- Assumes nothing.
use Rattle.std.specs.Prelude.{ℕ, ◌≤◌, ◌≡◌, Bool, cond, Option, Some, None, List, [], ◌∷◌, map, eqb, length, take, get_or}
use Rattle.rules.specs.Lists.{every}
use Rattle.rules.specs.Kinds.{request_number}
use Rattle.rules.specs.declared.RequestKind.{RequestKind}
use Rattle.lines.specs.Request.{is_number, value, pieces}

abbrev pub space : ℕ → Bool
space c = eqb c 32

-- all pieces but the first
abbrev pub tail : List (List ℕ) → List (List ℕ)
tail [] = []
tail (p ∷ ps) = ps

-- the pieces of a line's rest, which is empty or starts at a space
abbrev pub behind : List ℕ → List (List ℕ)
behind rest = tail (pieces rest)

pub record Rest (rest : List ℕ) : Type 0 where
  pub short : length rest ≤ 512
  pub spaced : get_or rest 0 32 ≡ 32

-- the numbers of some pieces, where each is one
unfoldable pub numbers_of : List (List ℕ) → Option (List ℕ)
numbers_of ps = cond (every is_number ps) (Some (map value ps)) None

-- those that the reader left in the array
abbrev pub got : Option ℕ → List ℕ → Option (List ℕ)
got (Some n) array = Some (take n array)
got None array = None

abbrev pub counted : Option ℕ → ℕ
counted (Some n) = n
counted None = 0

-- the number of a word's kind; 6 for none
abbrev pub kind_told : Option RequestKind → ℕ
kind_told (Some k) = request_number k
kind_told None = 6
