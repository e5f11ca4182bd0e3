-- The input buffer: where lines end in it, and the part of it that is not yet taken.
-- Assumes nothing.
use Rattle.std.specs.Prelude.{ℕ, ◌+◌, ◌-◌, ◌≤◌, ◌≡◌, Bool, true, false, cond, ◌&&◌, ◌||◌, not, Option, Some, None, List, [], ◌∷◌, ◌++◌, ltb, length, replicate, take, drop}
use Rattle.lines.specs.Request.{first_line}
use Rattle.lines.specs.Program.{lines_in, closed, answered, program}
use Rattle.rules.specs.declared.Mode.{Mode}
use Rattle.desk.specs.declared.input.Unread.{Unread}
use Rattle.desk.specs.declared.input.Taken.{Taken}

-- the bytes from one place to another
abbrev pub between : ℕ → ℕ → List ℕ → List ℕ
between from to input = take (to - from) (drop from input)

-- the part lies within the buffer
pub record Within (u : Unread) (input : List ℕ) : Type 0 where
  pub ordered : u.from ≤ u.to
  pub inside : u.to ≤ length input

-- ---- the input that was read and is not yet taken

-- in place of the start of a line that was dropped because it is too long: as long, and without a newline
unfoldable pub start : Bool → List ℕ
start cut = cond cut (replicate 513 0) []

unfoldable pub pending : Unread → List ℕ → List ℕ
pending u input = start u.cut ++ between u.from u.to input

-- the last line has its newline
abbrev pub Whole : List ℕ → Bool → Type 0
Whole w ended = ended ≡ true → closed w ≡ w

-- nothing comes after the input's end
abbrev pub Comes : Bool → List ℕ → Type 0
Comes ended bytes = ended ≡ true → bytes ≡ []

unfoldable pub no_line : List (List ℕ) → Bool
no_line [] = true
no_line (l ∷ ls) = false

-- more has to be read before a whole line is there
unfoldable pub lacks_line : Unread → List ℕ → Bool
lacks_line u input = not u.ended && no_line (lines_in (pending u input))

-- what is kept of an unfinished line
unfoldable pub kept : List ℕ → List ℕ
kept w = cond (ltb 512 (length w)) (start true) w

-- one read behind an unfinished line: the bytes that came stand behind what is kept; at the input's end the last line gets its newline
pub record More (u : Unread) (input : List ℕ) (r : Unread) (now : List ℕ) : Type 0 where
  pub came : List ℕ
  pub last : Comes r.ended came
  pub bytes : pending r now ≡ cond r.ended (closed (kept (pending u input))) (kept (pending u input) ++ came)

-- what is there after it
pub record Got (u : Unread) (input : List ℕ) (r : Unread) (now : List ℕ) : Type 0 where
  pub within : Within r now
  pub last : Whole (pending r now) r.ended
  pub more : More u input r now

-- the reads until the first line is whole: the program prints the same for what is pending as for all that came, whatever follows
pub record ReadSoFar (u : Unread) (input : List ℕ) : Type 0 where
  pub came : List ℕ
  pub same : (more : List ℕ) → Comes u.ended more → program (came ++ more) ≡ answered (lines_in (closed (pending u input ++ more)))
  pub last : Whole (pending u input) u.ended

-- after them: the first line is whole, or the input has ended
pub record FirstRead (u : Unread) (input : List ℕ) : Type 0 where
  pub so_far : ReadSoFar u input
  pub found : lacks_line u input ≡ false

-- ---- an unfinished line

-- one that is kept stands at the buffer's front
pub record Kept (u : Unread) : Type 0 where
  pub front : u.from ≤ 0
  pub short : u.to ≤ 512

-- an unfinished line that is longer than a line may be: nothing of it is kept
unfoldable pub too_long : Unread → Bool
too_long u = u.cut || ltb 512 (u.to - u.from)

-- what is kept of an unfinished line: all its bytes, or none, and then it is marked as cut
pub record Keeps (u : Unread) (input : List ℕ) (r : Unread) (now : List ℕ) : Type 0 where
  pub marked : r ≡ cond (too_long u) (record { from = 0; to = 0; cut = true; ended = false }) (record { from = 0; to = u.to - u.from; cut = false; ended = false })
  pub bytes : take r.to now ≡ cond (too_long u) [] (between u.from u.to input)

-- at the input's end: the newline that the last line may lack
pub record Ends (r : Unread) (now before : List ℕ) : Type 0 where
  pub bytes : now ≡ closed before
  pub ended : r.ended ≡ true

-- the mode, and what comes after a first line that ends before `from`
abbrev pub taking : Unread → ℕ → Option Mode → Option Taken
taking u from (Some m) = Some (record { mode = m; unread = record { from = from; to = u.to; cut = false; ended = u.ended } })
taking u from None = None

-- what the first of the lines names, and what comes after it; where there is none, or its start was dropped, nothing is taken
abbrev pub mode_taken : Unread → Bool → List (List ℕ) → Option Taken
mode_taken u true ls = None
mode_taken u false [] = None
mode_taken u false (l ∷ ls) = taking u (u.from + length l + 1) (first_line l)
