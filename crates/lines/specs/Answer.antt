-- The text of an answer. RULES 10.8. 10 is the newline, 32 the space, 48 the digit 0.
-- Assumes nothing.
use Rattle.std.specs.Prelude.{ℕ, zero, suc, ◌+◌, ◌*◌, ◌-◌, ◌/◌, ◌%◌, Bool, cond, ◌||◌, Option, Some, None, List, [], ◌∷◌, ◌++◌, ◌≡◌, eqb, leb, length}
use Rattle.rows.specs.Number.{stored}
use Rattle.lines.specs.Text.{bytes}

-- the decimal digits of n, none of 0; f bounds how many there are
unfoldable pub digits_in : ℕ → ℕ → List ℕ
digits_in zero n = []
digits_in (suc f) zero = []
digits_in (suc f) (suc n) = digits_in f (suc n / 10) ++ ((48 + suc n % 10) ∷ [])

unfoldable pub digits : ℕ → List ℕ
digits n = digits_in n n

-- a number, and the byte behind it
unfoldable pub numeral : ℕ → ℕ → List ℕ
numeral n end = digits (n / 10) ++ ((48 + n % 10) ∷ end ∷ [])

-- the rows of open have the letters i and o for their kinds
unfoldable pub of_open : ℕ → Bool
of_open k = eqb k 105 || eqb k 111

-- `KIND A B`; for open `i ROW` or `o ROW`
unfoldable pub row_text : ℕ → ℕ → ℕ → List ℕ
row_text k a b = cond (of_open k) (k ∷ 32 ∷ numeral a 10) (numeral k 32 ++ (numeral a 32 ++ numeral b 10))

unfoldable pub rows_text : List ℕ → List ℕ
rows_text [] = []
rows_text (k ∷ []) = []
rows_text (k ∷ a ∷ []) = []
rows_text (k ∷ a ∷ b ∷ rows) = row_text k a b ++ rows_text rows

unfoldable pub ok_text : List ℕ → List ℕ
ok_text rows = bytes "ok " ++ (numeral (length rows / 3) 10 ++ rows_text rows)

unfoldable pub no_text : ℕ → ℕ → List ℕ
no_text k view = bytes "no " ++ cond (eqb k 11) (numeral k 32 ++ numeral view 10) (numeral k 10)

-- of an answer row and its order rows, as `serve_call` of rules/specs/Calls gives them
unfoldable pub answer_text : ℕ → ℕ → List ℕ → List ℕ
answer_text number view rows = cond (eqb number 0) (ok_text rows) (no_text number view)

-- a text was put at a place of what was lent: where it ends, and what is there now
pub record Puts (text : List ℕ) (at : ℕ) (out : List ℕ) (end : ℕ) (now : List ℕ) : Type 0 where
  pub ends : end ≡ at + length text
  pub holds : now ≡ stored at text out

-- what the call answers and leaves
pub record Written : Type 0 where
  pub answer : Option ℕ
  pub out : List ℕ

abbrev pub writing : Option ℕ → List ℕ → Written
writing a out = record { answer = a; out = out }

-- room is asked for 24 bytes and 18 for each row, which no answer exceeds; with less, nothing is written
unfoldable pub room_for : List ℕ → ℕ → List ℕ → Bool
room_for rows at out = leb (24 + 18 * (length rows / 3)) (length out - at)

unfoldable pub put_answer : ℕ → ℕ → List ℕ → List ℕ → ℕ → Written
put_answer number view rows out at =
    let text = answer_text number view rows in
    cond (room_for rows at out) (writing (Some (at + length text)) (stored at text out)) (writing None out)
