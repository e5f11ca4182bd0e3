-- The C calls one after the other on what a C host keeps, refused ones among them, by the definitions that their contracts cite (Answers); and the
-- call of Rattle.rules.specs.Runs that each of them is. Assumes nothing.
use Rattle.std.specs.Prelude.{ℕ, cond, List, [], ◌∷◌, ◌++◌, ltb, length}
use Rattle.sets.specs.Words.{bytes}
use Rattle.rules.specs.Book.{Book}
use Rattle.rules.specs.Bytes.{Tables, book_in}
use Rattle.rules.specs.Refusals.{joins, grants, revokes, leaves}
use Rattle.rules.specs.Runs.{Kept, keep, Call, to-change, to-view, to-open, to-serve, to_read, to_write, to-show}
use Rattle.host.specs.Answers.{head_from, Loads, read_answer, Changes, change_answer, insert_of, insert_answer, Serves, serve_answer}

-- what a C host keeps between two calls: the head's numbers and the five tables
pub record Held : Type 0 where
  pub numbers : List ℕ
  pub tables : Tables

abbrev pub hold : List ℕ → Tables → Held
hold l t = record { numbers = l; tables = t }

-- the head in the numbers, and the tables
abbrev pub kept_in : Held → Kept
kept_in s = keep (head_from s.numbers) s.tables

-- the book in them
abbrev pub book_held : Held → Book
book_held s = book_in (head_from s.numbers) s.tables

-- a call of include/fenstubble.h that is lent anything, with what it takes beside head and tables, in the header's order; a cell by its content before
-- the call
pub data CCall : Type 0 where
  c-check : CCall
  c-section : List ℕ → ℕ → ℕ → ℕ → ℕ → CCall
  c_read : List ℕ → ℕ → CCall
  c-write : List ℕ → ℕ → CCall
  c-join : List ℕ → ℕ → CCall
  c-insert : List ℕ → ℕ → List ℕ → CCall
  c-grant : List ℕ → ℕ → ℕ → ℕ → CCall
  c-revoke : List ℕ → ℕ → ℕ → ℕ → CCall
  c_leave : List ℕ → ℕ → ℕ → CCall
  c-view : ℕ → ℕ → ℕ → CCall
  c-open : ℕ → ℕ → List ℕ → ℕ → ℕ → CCall
  c-serve : List ℕ → List ℕ → List ℕ → ℕ → CCall

-- what a changing call, a read and a serve leave
unfoldable pub left_by_change : Changes → Held
left_by_change c = hold c.told.head c.tables

unfoldable pub left_by_read : Loads → Held
left_by_read c = hold c.head c.tables

unfoldable pub left_by_serve : Serves → Held
left_by_serve c = hold c.told.head c.tables

-- the other calls are lent head and tables to read alone
unfoldable pub after_c : CCall → Held → Held
after_c (c-join list n) s = left_by_change (change_answer joins s.numbers s.tables list n)
after_c (c-insert list n bs) s = left_by_change (insert_answer bs s.numbers s.tables list n)
after_c (c-grant list n r u) s = left_by_change (change_answer (grants r u) s.numbers s.tables list n)
after_c (c-revoke list n r u) s = left_by_change (change_answer (revokes r u) s.numbers s.tables list n)
after_c (c_leave list n u) s = left_by_change (change_answer (leaves u) s.numbers s.tables list n)
after_c (c-serve requests answers list n) s = left_by_serve (serve_answer requests s.numbers s.tables answers list n)
after_c (c_read bs at) s = left_by_read (read_answer bs s.numbers s.tables)
after_c c-check s = s
after_c (c-section bs k a n at) s = s
after_c (c-write buffer n) s = s
after_c (c-view u r n) s = s
after_c (c-open u r list i o) s = s

unfoldable pub run_c : List CCall → Held → Held
run_c [] s = s
run_c (c ∷ cs) s = run_c cs (after_c c s)

-- ---- as calls of Runs

-- fenstubble_check is none of them, nor is an insert whose list has too few bytes
unfoldable pub called : CCall → List Call
called (c-join list n) = to-change joins list ∷ []
called (c-insert list n bs) = cond (ltb (length bs) bytes) [] (to-change (insert_of bs) list ∷ [])
called (c-grant list n r u) = to-change (grants r u) list ∷ []
called (c-revoke list n r u) = to-change (revokes r u) list ∷ []
called (c_leave list n u) = to-change (leaves u) list ∷ []
called (c-serve requests answers list n) = to-serve requests answers list ∷ []
called (c_read bs at) = to_read bs ∷ []
called c-check = []
called (c-section bs k a n at) = to-show bs k ∷ []
called (c-write buffer n) = to_write buffer ∷ []
called (c-view u r n) = to-view u r ∷ []
called (c-open u r list i o) = to-open u r list ∷ []

unfoldable pub called_all : List CCall → List Call
called_all [] = []
called_all (c ∷ cs) = called c ++ called_all cs
