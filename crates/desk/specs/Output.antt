-- What the output buffer holds and how far it is filled, and the order rows that answer rows count.
-- Assumes nothing.
use Rattle.std.specs.Prelude.{ℕ, ◌+◌, ◌*◌, ◌<◌, ◌≡◌, Bool, true, ◌&&◌, not, cond, Option, Some, None, List, [], ◌∷◌, eqb, leb, length, take, drop, get_or}
use Rattle.rows.specs.Number.{stored, joined}
use Rattle.lines.specs.Answer.{answer_text, room_for}

-- of answer rows: number, view, count
unfoldable pub counts : List ℕ → ℕ
counts [] = 0
counts (n ∷ []) = 0
counts (n ∷ v ∷ []) = 0
counts (n ∷ v ∷ c ∷ rows) = c + counts rows

-- none of them has the number 10
unfoldable pub never_ten : List ℕ → Bool
never_ten [] = true
never_ten (n ∷ []) = true
never_ten (n ∷ v ∷ []) = true
never_ten (n ∷ v ∷ c ∷ rows) = not (eqb n 10) && never_ten rows

-- the most order rows of any request, a leave's
abbrev pub most_orders : ℕ
most_orders = 4608

-- none of them counts more order rows than a leave may give, the most of any request
unfoldable pub never_more : List ℕ → Bool
never_more [] = true
never_more (n ∷ []) = true
never_more (n ∷ v ∷ []) = true
never_more (n ∷ v ∷ c ∷ rows) = leb c most_orders && never_more rows

-- the room that is asked for with the most rows: in a buffer of so many bytes every answer has room at the front
abbrev pub longest : ℕ
longest = 24 + 18 * most_orders

-- the number that a line is answered with: 14 where its row is that of a malformed line
unfoldable pub told : ℕ → ℕ → ℕ
told kind number = cond (eqb kind 14) 14 number

-- ---- one answer

-- where the buffer is filled to, unless the call fails, and what it leaves
pub record Gathering : Type 0 where
  pub answer : Option ℕ
  pub out : List ℕ

abbrev pub gathering : Option ℕ → List ℕ → Gathering
gathering p out = record { answer = p; out = out }

-- behind those gathered; where it has no room there, at the front, if those could be written out: it fails where they could not, and only there
unfoldable pub print_answer : Bool → ℕ → ℕ → List ℕ → List ℕ → ℕ → Gathering
print_answer written number view rows out filled =
    let text = answer_text number view rows in
    cond (room_for rows filled out) (gathering (Some (filled + length text)) (stored filled text out))
    (cond written (gathering (Some (length text)) (stored 0 text out)) (gathering None out))

-- one of the two: nothing says beforehand whether the output can be written
pub record Prints (number view : ℕ) (rows out : List ℕ) (filled : ℕ) (p : Option ℕ) (now : List ℕ) : Type 0 where
  pub written : Bool
  pub leaves : gathering p now ≡ print_answer written number view rows out filled

-- ---- the answers of a block

-- their texts, each with its stretch of the order list
unfoldable pub texts : List ℕ → List ℕ → List ℕ → List (List ℕ)
texts requests [] orders = []
texts requests (n ∷ []) orders = []
texts requests (n ∷ v ∷ []) orders = []
texts requests (n ∷ v ∷ c ∷ answers) orders =
    answer_text (told (get_or requests 0 0) n) v (take (c * 3) orders) ∷ texts (drop 3 requests) answers (drop (c * 3) orders)

-- of what was to go out, the first pieces are gone, but never the last; the buffer holds the others
pub record Gathered (pieces : List (List ℕ)) (end : ℕ) (out : List ℕ) : Type 0 where
  pub gone : ℕ
  pub last : gone < length pieces
  pub holds : take end out ≡ joined (drop gone pieces)
