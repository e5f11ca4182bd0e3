-- A request whose orders go to a lent list of records: what it answers, and what it leaves in all it was lent. RULES 14.9.
-- Assumes nothing.
use Rattle.std.specs.Prelude.{ℕ, ◌*◌, cond, List, [], ◌++◌, ltb, length, drop, Result, Ok, Err}
use Rattle.std.proofs.Math.Option.{Option, some, none}
use Rattle.rules.specs.Requests.{Done}
use Rattle.rules.specs.Bytes.{Tables, book_in}
use Rattle.rules.specs.Refusals.{Request, work, refusal}
use Rattle.rules.specs.Calls.{Change, change_by}
use Rattle.rules.specs.declared.Head.{Head}
use Rattle.rules.specs.declared.Order.{Order}
use Rattle.rules.specs.declared.Applied.{Applied}
use Rattle.rules.specs.declared.Refusal.{Refusal}

-- ---- the call

-- RULES 8.5 "what a list or a buffer has behind the answer is left as it was"
unfoldable pub over : List Order → List Order → List Order
over os list = os ++ drop (length os) list

pub record Recorded : Type 0 where
  pub answer : Result Applied Refusal
  pub tables : Tables
  pub records : List Order

abbrev pub recording : Result Applied Refusal → Tables → List Order → Recorded
recording a t list = record { answer = a; tables = t; records = list }

-- the records that a request leaves: its orders over what was there, or what was there
unfoldable pub records_by : Option Refusal → Done → List Order → List Order
records_by (some r) d list = list
records_by none d list = over d.orders list

unfoldable pub recorded_by : Option Refusal → Done → Tables → List Order → Recorded
recorded_by v d t list = let c = change_by v d t [] in recording c.answer c.tables (records_by v d list)

-- 10 is judged on the records lent
unfoldable pub recorded : Request → Head → Tables → List Order → Recorded
recorded q h t list = recorded_by (refusal t (book_in h t) (length list) q) (work q (book_in h t)) t list

-- ---- its parts

-- the most orders that a request gives (`allowed-rows`), and their numbers
abbrev pub most_orders : ℕ
most_orders = 4608

abbrev pub most_numbers : ℕ
most_numbers = most_orders * 3

-- the rows that are needed where `room` are lent
unfoldable pub least : ℕ → ℕ
least room = cond (ltb room most_orders) room most_orders

-- the request on `room` rows, its orders over these numbers
unfoldable pub filled : Request → Head → Tables → ℕ → List ℕ → Change
filled q h t room rows = change_by (refusal t (book_in h t) room q) (work q (book_in h t)) t rows

-- the orders given
abbrev pub count_of : Result Applied Refusal → ℕ
count_of (Ok a) = a.count
count_of (Err r) = 0
