-- Several requests in one call: what a row asks of the code, and what one request answers. RULES 8.8.
-- Assumes nothing.
use Rattle.std.specs.Prelude.{ℕ, ◌≤◌, ◌&&◌, cond, List, [], ◌∷◌, map, ltb, Option, Some, None, Result, Ok, Err}
use Rattle.rows.specs.Number.{joined}
use Rattle.rules.specs.Refusals.{joins, inserts, grants, revokes, leaves, number, view_told}
use Rattle.rules.specs.Calls.{Asked, changes, opens, nothing, rows_lent}
use Rattle.rules.specs.declared.Head.{Head}
use Rattle.rules.specs.declared.Refusal.{Refusal}
use Rattle.rules.specs.declared.Applied.{Applied}
use Rattle.plan.specs.Judge.{request_of}
use Rattle.policy.specs.declared.serve.Asks.{Asks}
use Rattle.policy.specs.declared.serve.Asks.TheVariants.{Change, Open}

-- what the code is handed
abbrev pub asked_of : Option Asks → Asked
asked_of (Some (Change q)) = changes (request_of q)
asked_of (Some (Open u r)) = opens u.0 r.0
asked_of None = nothing

-- a number past 16 bits is no user's and no resource's: there is nothing to ask
abbrev pub number_of : ℕ → Option ℕ
number_of n = cond (ltb n 65536) (Some n) None

unfoldable pub within16 : ℕ → ℕ → Asked → Asked
within16 a b q = cond (ltb a 65536 && ltb b 65536) q nothing

unfoldable pub narrow : Asked → Asked
narrow (changes joins) = changes joins
narrow (changes (inserts l)) = changes (inserts l)
narrow (changes (grants r u)) = within16 r u (changes (grants r u))
narrow (changes (revokes r u)) = within16 r u (changes (revokes r u))
narrow (changes (leaves u)) = within16 u 0 (changes (leaves u))
narrow (opens u r) = within16 u r (opens u r)
narrow nothing = nothing

-- a request's answer row: number, view, count
abbrev pub answer_row : Result Applied Refusal → List ℕ
answer_row (Ok a) = 0 ∷ 0 ∷ a.count ∷ []
answer_row (Err r) = number r ∷ view_told r ∷ 0 ∷ []

-- and the head and the count of order rows after it
abbrev pub after : Head → Result Applied Refusal → Applied
after h (Ok a) = a
after h (Err r) = record { head = h; count = 0 }

-- numbers as order rows with a mark, as an open's rows stand in the order list
abbrev pub marked_row : ℕ → ℕ → List ℕ
marked_row mark i = mark ∷ i ∷ 0 ∷ []

unfoldable pub marked : ℕ → List ℕ → List ℕ
marked mark list = joined (map (marked_row mark) list)

-- enough answer rows
abbrev pub Answerable : List ℕ → List ℕ → Type 0
Answerable requests answers = rows_lent requests ≤ rows_lent answers
