-- The request program as one definition: from the bytes of the whole input to the bytes of the whole output. RULES 10.
-- Assumes nothing.
use Rattle.std.specs.Prelude.{ℕ, ◌+◌, Bool, cond, not, Option, Some, None, List, [], ◌∷◌, ◌++◌, eqb, length}
use Rattle.std.proofs.Math.Option as math
use Rattle.rules.specs.Book.{Book, empty_book}
use Rattle.rules.specs.Holders.{view}
use Rattle.rules.specs.Requests.{Done}
use Rattle.rules.specs.Refusals.{verdict, own, limits, work, no_such, number, view_number, view_told}
use Rattle.rules.specs.Calls.{order_rows, chain_rows, Asked, changes, opens, nothing, asked}
use Rattle.rules.specs.declared.Refusal.{Refusal}
use Rattle.rules.specs.declared.Refusal.TheVariants.{NoSuch, Closed}
use Rattle.lines.specs.Request.{longer, line_asks, first_line}
use Rattle.lines.specs.Answer.{answer_text}
use Rattle.rules.specs.declared.Mode.{Mode}
use Rattle.lines.specs.declared.request.Asked.{Asked as Row}

-- ---- lines: each ends at a newline, the byte 10

abbrev pub newline : ℕ → Bool
newline c = eqb c 10

-- the whole lines of a text, each without its newline; what stands behind the last newline is none
unfoldable pub lines_in : List ℕ → List (List ℕ)
lines_in [] = []
lines_in (c ∷ cs) = let ls = lines_in cs in cond (newline c) ([] ∷ ls) (longer c ls)

-- RULES 10.2 "the last line need not have one": it gets one
unfoldable pub closed : List ℕ → List ℕ
closed [] = []
closed (c ∷ []) = cond (newline c) (c ∷ []) (c ∷ 10 ∷ [])
closed (c ∷ d ∷ cs) = c ∷ closed (d ∷ cs)

-- the bytes of lines with their newlines
unfoldable pub span : List (List ℕ) → ℕ
span [] = 0
span (l ∷ ls) = length l + 1 + span ls

-- ---- the answer to a line: its text, and the book that it leaves

pub record Told : Type 0 where
  pub text : List ℕ
  pub book : Book

abbrev pub telling : List ℕ → Book → Told
telling text b = record { text = text; book = b }

-- "`no K`, for 11 `no 11 VIEW`": the book stays as it is
unfoldable pub refused : Refusal → Book → Told
refused r b = telling (answer_text (number r) (view_told r) []) b

-- "`ok N` on a line and N rows": the orders
unfoldable pub change_told : math.Option Refusal → Done → Book → Told
change_told (math.some r) d b = refused r b
change_told math.none d b = telling (answer_text 0 0 (order_rows d.orders)) d.book

-- the rows of both chains
unfoldable pub open_told : math.Option Refusal → ℕ → ℕ → Book → Told
open_told (math.some k) u r b = refused k b
open_told math.none u r b = telling (answer_text 0 0 (chain_rows b u r)) b

-- RULES 10.7: each request as its own call, "with as many order rows lent as are needed"
unfoldable pub answer_to : Asked → Book → Told
answer_to (changes q) b =
    let d = work q b in
    change_told (verdict (own q b ++ limits (length d.orders) d)) d b
answer_to (opens u r) b =
    open_told (verdict ((NoSuch, no_such b u r) ∷ (Closed (view b u r), not (eqb (view_number (view b u r)) 0)) ∷ [])) u r b
answer_to nothing b = refused NoSuch b

unfoldable pub no14 : List ℕ
no14 = answer_text 14 0 []

unfoldable pub line_told : Option Row → Book → Told
line_told (Some q) b = answer_to (asked q.kind q.a q.b) b
line_told None b = telling no14 b

-- ---- the program

-- the answers to lines, one after the other
unfoldable pub answers : List (List ℕ) → Book → List ℕ
answers [] b = []
answers (l ∷ ls) b =
    let t = line_told (line_asks l) b in
    t.text ++ answers ls t.book

-- the book after them
unfoldable pub leaves : List (List ℕ) → Book → Book
leaves [] b = b
leaves (l ∷ ls) b = leaves ls (line_told (line_asks l) b).book

-- RULES 10.3: the mode, "and nothing is printed"; else "`no 14` is printed, and the program ends"
unfoldable pub started : Option Mode → List (List ℕ) → List ℕ
started (Some m) ls = answers ls (empty_book m.0)
started None ls = no14

-- so it is for "no input at all"
unfoldable pub answered : List (List ℕ) → List ℕ
answered [] = no14
answered (l ∷ ls) = started (first_line l) ls

unfoldable pub program : List ℕ → List ℕ
program input = answered (lines_in (closed input))
