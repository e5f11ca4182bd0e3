-- What holds when the program starts to answer, and between two turns: the tables hold a sound book, and the buffers' parts lie within them. And what a turn
-- does with the input and the output, so that all turns together print what the program's definition says.
-- Assumes nothing.
use Rattle.std.specs.Prelude.{ℕ, ◌≤◌, ◌<◌, Bool, true, false, cond, List, [], ◌++◌, ◌≡◌, length, take, drop}
use Rattle.rules.specs.Book.{Book}
use Rattle.rules.specs.Bytes.{Tables, book_in}
use Rattle.rules.specs.declared.Head.{Head}
use Rattle.plan.specs.Judge.{Ready}
use Rattle.lines.specs.Program.{lines_in, closed, span, answers, leaves, program}
use Rattle.desk.specs.Input.{Within, pending, kept, Whole, Comes}
use Rattle.desk.specs.Block.{Answers}
use Rattle.desk.specs.Output.{longest}
use Rattle.desk.specs.declared.State.{State}

-- what a state holds: the book, the answers that are not yet written out, the input that is not yet taken and whether it is the last
pub record Desk : Type 0 where
  pub book : Book
  pub held : List ℕ
  pub input : List ℕ
  pub ended : Bool

abbrev pub desk : State → Tables → List ℕ → List ℕ → Desk
desk s t input out = record { book = book_in s.head t; held = take s.filled out; input = pending s.unread input; ended = s.unread.ended }

-- what is still printed from there, if `more` is all that is still to be read
unfoldable pub still : Desk → List ℕ → List ℕ
still d more = d.held ++ answers (lines_in (closed (d.input ++ more))) d.book

-- for all that came until now and any `more`, that is what the program prints
pub record Begins (came : List ℕ) (d : Desk) : Type 0 where
  pub same : (more : List ℕ) → Comes d.ended more → program (came ++ more) ≡ still d more

pub record Begun (d : Desk) : Type 0 where
  pub came : List ℕ
  pub begins : Begins came d

-- ---- states

pub record Starts (s : State) (t : Tables) (input : List ℕ) : Type 0 where
  pub ready : Ready s.head t
  pub within : Within s.unread input
  pub last : Whole (pending s.unread input) s.unread.ended
  pub long : 512 < length input
  pub none : s.filled ≡ 0
  pub going : s.going ≡ true
  -- asked for, so that the caller has to show that its start is one from which the program's text is still printed
  pub begun : Begun (desk s t input [])

-- the buffers of a state that waits for input
pub record Waits (s : State) (input out : List ℕ) : Type 0 where
  pub within : Within s.unread input
  pub last : Whole (pending s.unread input) s.unread.ended
  pub long : 512 < length input
  pub gathered : s.filled ≤ length out

-- between two turns
pub record Holds (s : State) (t : Tables) (input out : List ℕ) : Type 0 where
  pub ready : Ready s.head t
  pub waits : Waits s input out

-- the lists of a block, and the output buffer: any answer has room in it
pub record Lent (requests answers orders out : List ℕ) : Type 0 where
  pub asked : 384 ≤ length requests
  pub told : 384 ≤ length answers
  pub rows : 18432 ≤ length orders
  pub texts : longest ≤ length out

-- what the tables hold whatever happens: a sound book
pub record Sound (t : Tables) : Type 0 where
  pub head : Head
  pub ready : Ready head t

-- after a block's answers
pub record BlockAnswered (s : State) (t : Tables) (requests out : List ℕ) (r : State) (t' : Tables) (now : List ℕ) : Type 0 where
  pub ready : Ready r.head t'
  pub unread≡ : r.unread ≡ s.unread
  pub filled : r.filled ≤ length now
  pub going : r.going ≡ true
  pub answers : Answers requests (book_in s.head t) (take s.filled out) (book_in r.head t') (take r.filled now)

-- ---- turns

-- what is pending behind the lines taken, and after it: the same, or with one read more
pub data Follows (ended : Bool) (left came : List ℕ) (ended' : Bool) (after : List ℕ) : Type 0 where
  stays : came ≡ [] → ended' ≡ ended → after ≡ left → Follows ended left came ended' after
  reads : ended ≡ false → lines_in left ≡ [] → Comes ended' came → after ≡ cond ended' (closed (kept left)) (kept left ++ came)
      → Follows ended left came ended' after

-- a turn takes some whole lines; their texts stand behind what was held, and the first of all that has gone out
pub record Turned (d e : Desk) : Type 0 where
  pub lines : ℕ
  pub came : List ℕ
  pub gone : List ℕ
  pub book≡ : e.book ≡ leaves (take lines (lines_in d.input)) d.book
  pub text : gone ++ e.held ≡ d.held ++ answers (take lines (lines_in d.input)) d.book
  pub rest : Follows d.ended (drop (span (take lines (lines_in d.input))) d.input) came e.ended e.input
  -- where a whole line is there, at least one is taken
  pub takes : lines ≡ 0 → lines_in d.input ≡ []

-- all input is answered, and all answers are written out
pub record Finished (d : Desk) : Type 0 where
  pub held : d.held ≡ []
  pub input : d.input ≡ []
  pub ended : d.ended ≡ true

-- the program ends there alone, unless a read or a write fails
pub record Goes (d e : Desk) (going : Bool) : Type 0 where
  pub turned : Turned d e
  pub stops : going ≡ false → Finished e

-- turns one after the other, with all that came and all that has gone
pub data Run : Desk → List ℕ → List ℕ → Desk → Type 0 where
  rests : {d : Desk} → Run d [] [] d
  turns : {d e f : Desk} {came gone : List ℕ} (t : Turned d e) → Run e came gone f → Run d (t.came ++ came) (t.gone ++ gone) f

pub record Ran (d e : Desk) (going : Bool) : Type 0 where
  pub came : List ℕ
  pub gone : List ℕ
  pub run : Run d came gone e
  pub stops : going ≡ false → Finished e

-- to a state, with some content of the output buffer; where the program has ended, what has gone is what it prints for all that came
pub record Runs (d : Desk) (s : State) (t : Tables) (input : List ℕ) : Type 0 where
  pub out : List ℕ
  pub ran : Ran d (desk s t input out) s.going
  pub prints : s.going ≡ false → (first : List ℕ) → Begins first d → ran.gone ≡ program (first ++ ran.came)

-- a wait for input, after all that was held has gone out
pub record Awaits (s : State) (input : List ℕ) (r : State) (now : List ℕ) : Type 0 where
  pub came : List ℕ
  pub sent : r.filled ≡ 0
  pub rest : Follows s.unread.ended (pending s.unread input) came r.unread.ended (pending r.unread now)
  pub stops : r.going ≡ false → s.unread.ended ≡ true
