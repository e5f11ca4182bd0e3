-- The C interface's answers, from the calls' definitions: numbers only. RULES 8.9: the refusal's number is the result, and the cells, whose content at entry
-- comes last among the arguments, stay as they were; but a cell for the place takes what is told, whatever it held.
-- Assumes nothing.
use Rattle.std.specs.Prelude.{ℕ, zero, suc, ◌+◌, ◌*◌, ◌/◌, ◌%◌, cond, List, [], ◌∷◌, ltb, length, get_or, Result, Ok, Err}
use Rattle.std.proofs.Math.Option.{Option, some, none}
use Rattle.rows.specs.Number.{cell, stored}
use Rattle.sets.specs.Words.{bytes, set_in}
use Rattle.rules.specs.Bytes.{Tables, book_in, head, version_in, head_in, start}
use Rattle.rules.specs.Refusals.{number, view_number, view_told, denial_number, denial_place, common, verdict, Request, inserts}
use Rattle.rules.specs.Calls.{section_call, read_call, write_call, Change, change, view_call, open_call, Service, serve_call}
use Rattle.rules.specs.declared.Head.{Head}
use Rattle.rules.specs.declared.Applied.{Applied}
use Rattle.rules.specs.declared.Chains.{Chains}
use Rattle.rules.specs.declared.Denial.{Denial}
use Rattle.rules.specs.declared.Served.{Served}
use Rattle.rules.specs.declared.View.{View}
use Rattle.rules.specs.declared.Refusal.{Refusal}
use Rattle.rules.specs.declared.Refusal.TheVariants.{ShortTable}

-- which version of the interface answers: major * 10000 + minor * 100 + patch, here 4.0.0
abbrev pub version : ℕ
version = 40000

-- the set in the k numbers of l from `at` on, 16 bits each, lowest first
unfoldable pub set_from : ℕ → ℕ → List ℕ → ℕ
set_from zero at l = 0
set_from (suc k) at l = get_or l at 0 + 65536 * set_from k (suc at) l

-- the k numbers of a set
unfoldable pub set_numbers : ℕ → ℕ → List ℕ
set_numbers zero s = []
set_numbers (suc k) s = s % 65536 ∷ set_numbers k (s / 65536)

-- a set is 4 numbers
abbrev pub set_length : ℕ
set_length = 4

-- a head is 7 numbers, and behind them a set
abbrev pub head_length : ℕ
head_length = 7 + set_length

-- mode, users, resources, inner vertices, inner tokens, outer vertices, outer tokens, the set of leavers
abbrev pub head_from : List ℕ → Head
head_from l =
    head (get_or l 0 0) (get_or l 1 0) (get_or l 2 0) (get_or l 3 0) (get_or l 4 0) (get_or l 5 0) (get_or l 6 0) (set_from set_length 7 l)

abbrev pub head_numbers : Head → List ℕ
head_numbers h =
    h.mode.0 ∷ h.users.0 ∷ h.resources.0 ∷ h.inner_vertices.0 ∷ h.inner_tokens.0 ∷ h.outer_vertices.0 ∷ h.outer_tokens.0
    ∷ set_numbers set_length (set_in h.leavers)

-- a head of fewer numbers is 13
abbrev pub head_read : List ℕ → Result Head Refusal
head_read l = cond (ltb (length l) head_length) (Err ShortTable) (Ok (head_from l))

-- 0, or the refusal's number
abbrev pub number_of : Result (Unit {0}) Refusal → ℕ
number_of (Ok x) = 0
number_of (Err r) = number r

abbrev pub told : Option Refusal → ℕ
told none = 0
told (some r) = number r

unfoldable pub check_answer : List ℕ → Tables → ℕ
check_answer l t = cond (ltb (length l) head_length) 13 (told (verdict (common t (book_in (head_from l) t))))

-- a section as its start and length, and the place: three cells
pub record Stretch : Type 0 where
  pub result : ℕ
  pub start : ℕ
  pub size : ℕ
  pub place : ℕ

abbrev pub answered : ℕ → ℕ → ℕ → ℕ → Stretch
answered r s n at = record { result = r; start = s; size = n; place = at }

unfoldable pub stretch_by : List ℕ → ℕ → ℕ → ℕ → ℕ → ℕ → Stretch
stretch_by bs k s n at zero = answered 0 (start (version_in bs) (head_in bs) k) (length (section_call bs k).stretch) at
stretch_by bs k s n at (suc r) = answered (suc r) s n at

unfoldable pub section_answer : List ℕ → ℕ → ℕ → ℕ → Stretch
section_answer bs k s n = stretch_by bs k s n (section_call bs k).place (section_call bs k).cell

-- reading, with a cell for the place
pub record Loads : Type 0 where
  pub result : ℕ
  pub head : List ℕ
  pub tables : Tables
  pub place : ℕ

abbrev pub loaded_as : ℕ → List ℕ → Tables → ℕ → Loads
loaded_as r l t at = record { result = r; head = l; tables = t; place = at }

abbrev pub load_told : Result (Unit {0}) Denial → List ℕ → Tables → Loads
load_told (Ok x) l t = loaded_as 0 l t 0
load_told (Err d) l t = loaded_as (denial_number d) l t (denial_place d)

unfoldable pub read_by : Result Head Denial → List ℕ → Tables → Loads
read_by (Err d) l t = loaded_as (denial_number d) l t (denial_place d)
read_by (Ok h) l t = loaded_as 0 (stored 0 (head_numbers h) l) t 0

unfoldable pub read_answer : List ℕ → List ℕ → Tables → Loads
read_answer bs l t = cond (ltb (length l) head_length) (loaded_as 13 l t 0) (read_by (read_call bs t).answer l (read_call bs t).tables)

-- writing, with a cell for the length
pub record Writes : Type 0 where
  pub result : ℕ
  pub buffer : List ℕ
  pub size : ℕ

abbrev pub written_as : ℕ → List ℕ → ℕ → Writes
written_as r b n = record { result = r; buffer = b; size = n }

unfoldable pub write_by : Result ℕ Refusal → List ℕ → ℕ → Writes
write_by (Err r) b n = written_as (number r) b n
write_by (Ok n) b old = written_as 0 b n

unfoldable pub write_answer : List ℕ → Tables → List ℕ → ℕ → Writes
write_answer l t b n =
    let c = write_call (head_from l) t b in
    cond (ltb (length l) head_length) (written_as 13 b n) (write_by c.answer c.buffer n)

-- ---- the requests

-- a refusal of a request: 11 comes as 11 + 256 * view
unfoldable pub result_of : Refusal → ℕ
result_of r = number r + 256 * view_told r

-- 0, or that
abbrev pub code_of : Result (Unit {0}) Refusal → ℕ
code_of (Ok x) = 0
code_of (Err r) = result_of r

-- a change in numbers: the result, the head's numbers, and the cell for the count of order rows
pub record Told : Type 0 where
  pub result : ℕ
  pub head : List ℕ
  pub count : ℕ

abbrev pub told_as : ℕ → List ℕ → ℕ → Told
told_as r l n = record { result = r; head = l; count = n }

unfoldable pub change_told : Result Applied Refusal → List ℕ → ℕ → Told
change_told (Err r) l n = told_as (result_of r) l n
change_told (Ok a) l old = told_as 0 (stored 0 (head_numbers a.head) l) a.count

pub record Changes : Type 0 where
  pub told : Told
  pub tables : Tables
  pub orders : List ℕ

abbrev pub changed_as : ℕ → List ℕ → Tables → List ℕ → ℕ → Changes
changed_as r l t list n = record { told = told_as r l n; tables = t; orders = list }

unfoldable pub change_by : Change → List ℕ → ℕ → Changes
change_by c l n = record { told = change_told c.answer l n; tables = c.tables; orders = c.orders }

unfoldable pub change_answer : Request → List ℕ → Tables → List ℕ → ℕ → Changes
change_answer q l t list n = cond (ltb (length l) head_length) (changed_as 13 l t list n) (change_by (change q (head_from l) t list) l n)

-- an insert's list is lent as the bytes of a set in a row; bytes past them are not looked at
abbrev pub insert_of : List ℕ → Request
insert_of bs = inserts (cell bytes 0 bs)

-- fewer bytes are 13, like a short head
unfoldable pub insert_answer : List ℕ → List ℕ → Tables → List ℕ → ℕ → Changes
insert_answer bs l t list n = cond (ltb (length bs) bytes) (changed_as 13 l t list n) (change_answer (insert_of bs) l t list n)

-- a view, in a cell
pub record Views : Type 0 where
  pub result : ℕ
  pub view : ℕ

abbrev pub viewed_as : ℕ → ℕ → Views
viewed_as r v = record { result = r; view = v }

unfoldable pub view_as : Result View Refusal → ℕ → Views
view_as (Err r) n = viewed_as (result_of r) n
view_as (Ok v) n = viewed_as 0 (view_number v)

unfoldable pub view_answer : ℕ → ℕ → List ℕ → Tables → ℕ → Views
view_answer u r l t n = cond (ltb (length l) head_length) (viewed_as 13 n) (view_as (view_call u r (head_from l) t) n)

-- an open: the chains' rows in the list, and two cells for how many each has
pub record Opens : Type 0 where
  pub result : ℕ
  pub list : List ℕ
  pub inner : ℕ
  pub outer : ℕ

abbrev pub opened_as : ℕ → List ℕ → ℕ → ℕ → Opens
opened_as r list i o = record { result = r; list = list; inner = i; outer = o }

unfoldable pub open_by : Result Chains Refusal → List ℕ → ℕ → ℕ → Opens
open_by (Err r) list i o = opened_as (result_of r) list i o
open_by (Ok k) list m n = opened_as 0 list k.inner k.outer

unfoldable pub open_answer : ℕ → ℕ → List ℕ → Tables → List ℕ → ℕ → ℕ → Opens
open_answer u r l t list i o =
    let c = open_call u r (head_from l) t list in
    cond (ltb (length l) head_length) (opened_as 13 list i o) (open_by c.answer c.list i o)

-- several requests, with a cell for how many order rows all of them used
unfoldable pub serve_told : Result Served Refusal → List ℕ → ℕ → Told
serve_told (Err r) l n = told_as (result_of r) l n
serve_told (Ok s) l old = told_as 0 (stored 0 (head_numbers s.head) l) s.used

pub record Serves : Type 0 where
  pub told : Told
  pub tables : Tables
  pub answers : List ℕ
  pub orders : List ℕ

abbrev pub served_as : ℕ → List ℕ → Tables → List ℕ → List ℕ → ℕ → Serves
served_as r l t answers list n = record { told = told_as r l n; tables = t; answers = answers; orders = list }

unfoldable pub serve_by : Service → List ℕ → ℕ → Serves
serve_by c l n = record { told = serve_told c.answer l n; tables = c.tables; answers = c.answers; orders = c.orders }

unfoldable pub serve_answer : List ℕ → List ℕ → Tables → List ℕ → List ℕ → ℕ → Serves
serve_answer requests l t answers list n =
    cond (ltb (length l) head_length) (served_as 13 l t answers list n) (serve_by (serve_call requests (head_from l) t answers list) l n)
