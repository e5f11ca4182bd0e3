-- The lines that one call serves: their request rows, and the most order rows that they may need.
-- Assumes nothing.
use Rattle.std.specs.Prelude.{ℕ, zero, suc, ◌+◌, ◌*◌, ◌-◌, ◌/◌, ◌%◌, ◌≤◌, ◌≡◌, Bool, true, false, cond, Option, Some, None, Result, Ok, Err, List, [], ◌∷◌, ◌++◌, eqb, leb, length, take}
use Rattle.rules.specs.Book.{Book}
use Rattle.rules.specs.Bytes.{Tables}
use Rattle.rules.specs.declared.Refusal.{Refusal}
use Rattle.rules.specs.declared.Served.{Served}
use Rattle.plan.specs.Judge.{Ready}
use Rattle.desk.specs.Input.{between}
use Rattle.desk.specs.Output.{most_orders, counts, never_ten, never_more}
use Rattle.desk.specs.declared.block.Block.{Block}
use Rattle.desk.specs.declared.input.Unread.{Unread}
use Rattle.lines.specs.Request.{asking, line_asks}
use Rattle.lines.specs.Program.{lines_in, span, Told, line_told}
use Rattle.lines.specs.declared.request.Asked.{Asked}

-- the row of a malformed line: no request has its kind
abbrev pub malformed : Asked
malformed = record { kind = 14; a = 0; b = 0 }

abbrev pub row_of : Option Asked → Asked
row_of (Some q) = q
row_of None = malformed

-- of a line whose start was dropped because it is too long, and of any other
abbrev pub row_for : Bool → Option Asked → Asked
row_for true l = malformed
row_for false l = row_of l

abbrev pub numbers_of : Asked → List ℕ
numbers_of q = q.kind ∷ q.a ∷ q.b ∷ []

-- the most order rows of a request of a kind: join, insert, grant, revoke, open, leave; a row of any other kind is refused
unfoldable pub most_of : ℕ → ℕ
most_of zero = 2
most_of (suc zero) = 132
most_of (suc (suc zero)) = 385
most_of (suc (suc (suc zero))) = 65
most_of (suc (suc (suc (suc zero)))) = 126
most_of (suc (suc (suc (suc (suc zero))))) = most_orders
most_of (suc (suc (suc (suc (suc (suc k)))))) = 0

-- of request rows
unfoldable pub most_in : List ℕ → ℕ
most_in [] = 0
most_in (k ∷ []) = 0
most_in (k ∷ a ∷ []) = 0
most_in (k ∷ a ∷ b ∷ rows) = most_of k + most_in rows

-- ---- the lines that a block takes

-- the request rows of lines; `cut` is of the first alone
unfoldable pub rows_of : Bool → List (List ℕ) → List ℕ
rows_of cut [] = []
rows_of cut (l ∷ ls) = numbers_of (row_for cut (line_asks l)) ++ rows_of false ls

-- how many of the lines: to the last of them, unless n rows are filled or the next may need more order rows than are left
unfoldable pub line_count : ℕ → ℕ → Bool → List (List ℕ) → ℕ
line_count zero room cut ls = 0
line_count (suc n) room cut [] = 0
line_count (suc n) room cut (l ∷ ls) =
    let most = most_of (row_for cut (line_asks l)).kind in
    let more = suc (line_count n (room - most) false ls) in
    cond (leb most room) more 0

-- with n rows and `room` order rows, of lines whose bytes begin at `from`: how many were taken, their rows, where the rest begins, and its `cut`
pub record Takes (n room : ℕ) (cut : Bool) (from : ℕ) (ls : List (List ℕ)) (count : ℕ) (rows : List ℕ) (from' : ℕ) (cut' : Bool) : Type 0 where
  pub count≡ : count ≡ line_count n room cut ls
  pub rows≡ : rows ≡ rows_of cut (take count ls)
  pub from≡ : from' ≡ from + span (take count ls)
  pub cut≡ : cut' ≡ cond (eqb count 0) cut false

-- the lines of the input that is not yet taken
pub record Reads (u : Unread) (input : List ℕ) (b : Block) (requests : List ℕ) : Type 0 where
  pub takes : Takes 128 6144 u.cut u.from (lines_in (between u.from u.to input)) b.rows (take (b.rows * 3) requests) b.unread.from b.unread.cut
  pub to≡ : b.unread.to ≡ u.to
  pub ended≡ : b.unread.ended ≡ u.ended

-- ---- the answers to request rows

-- to one row: to the line that has it
unfoldable pub row_told : ℕ → ℕ → ℕ → Book → Told
row_told kind a b book = line_told (cond (eqb kind 14) None (asking kind a b)) book

-- to several, one after the other
unfoldable pub rows_answers : List ℕ → Book → List ℕ
rows_answers [] book = []
rows_answers (k ∷ []) book = []
rows_answers (k ∷ a ∷ []) book = []
rows_answers (k ∷ a ∷ b ∷ rows) book =
    let t = row_told k a b book in
    t.text ++ rows_answers rows t.book

-- the book after them
unfoldable pub rows_leave : List ℕ → Book → Book
rows_leave [] book = book
rows_leave (k ∷ []) book = book
rows_leave (k ∷ a ∷ []) book = book
rows_leave (k ∷ a ∷ b ∷ rows) book = rows_leave rows (row_told k a b book).book

-- ---- serving them

-- what was in the output buffer and the texts of the answers: some of it has gone out, and the buffer holds the others
pub record Answers (requests : List ℕ) (book : Book) (held : List ℕ) (book' : Book) (held' : List ℕ) : Type 0 where
  pub gone : List ℕ
  pub text : gone ++ held' ≡ held ++ rows_answers requests book
  pub book≡ : book' ≡ rows_leave requests book

-- what is lent to the call that serves a block: an answer row for each request, and order rows enough for all
pub record Enough (requests answers orders : List ℕ) : Type 0 where
  pub whole : length requests % 3 ≡ 0
  pub answered : length requests ≤ length answers
  pub room : most_in requests ≤ length orders / 3

-- the requests were served, and the book is sound
abbrev pub Serves : Result Served Refusal → Tables → Type 0
Serves (Ok s) t = Ready s.head t
Serves (Err r) t = ⊥

-- the answer rows of a block, and the order list
pub record Answered (s : Result Served Refusal) (t : Tables) (answers orders : List ℕ) : Type 0 where
  pub serves : Serves s t
  pub within : counts answers * 3 ≤ length orders
  pub never : never_ten answers ≡ true
  pub few : never_more answers ≡ true
