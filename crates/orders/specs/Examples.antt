-- The call run on the empty delta book: a join with three records lent, with two, and with one (RULES 11.2: one row fewer is 10).
-- Assumes nothing.
use Rattle.std.specs.Prelude.{ℕ, ◌≡◌, refl, List, [], ◌∷◌, replicate, Result, Ok, Err}
use Rattle.rows.specs.Number.{rows_of}
use Rattle.rules.specs.Lists as lists
use Rattle.rules.specs.Lists.{every, numbered, tabulate_from, tabulate, up_to}
use Rattle.rules.specs.Tests.{all_pass, kept, all_kept}
use Rattle.rules.specs.Sound.{joined_set, has_own, placed, held, locked, count_limits, in_limit, counts, rows1, rows2, rows3, rows4, rows5, rows6, rows7, rows8, rules, sound}
use Rattle.rules.specs.Requests.{order, done, with_set, join}
use Rattle.rules.specs.Bytes.{Tables, tables, head, head_of, sets_in, tokens_in, resources_in, book_in}
use Rattle.rules.specs.Refusals.{joins, short, common, own, limits, work, verdict, refusal}
use Rattle.rules.specs.Calls.{change_by}
use Rattle.rules.specs.declared.Order.{Order}
use Rattle.rules.specs.declared.Refusal.TheVariants.{ShortList}
use Rattle.rules.specs.declared.Applied.{Applied}
use Rattle.rules.specs.declared.Refusal.{Refusal}
use Rattle.orders.specs.Records.{over, records_by, recorded_by, recorded}

-- five tables of exactly their limits
unfoldable pub blank : Tables
blank = tables (replicate 2560 0) (replicate 20480 0) (replicate 4096 0) (replicate 16384 0) (replicate 3072 0)

-- a join with n records lent, each 9 9 9: its answer and the records after it
unfoldable pub join_on : ℕ → (Result Applied Refusal) × List Order
join_on n = let c = recorded joins (head 1 0 0 0 0 0 0 0) blank (replicate n (order 9 9 9)) in (c.answer, c.records)

pub joins-on-records :
    (join_on 3 ≡ (Ok (record { head = head 1 1 0 1 0 1 0 0; count = 2 }), order 4 0 0 ∷ order 1 0 0 ∷ order 9 9 9 ∷ []))
    × (join_on 2 ≡ (Ok (record { head = head 1 1 0 1 0 1 0 0; count = 2 }), order 4 0 0 ∷ order 1 0 0 ∷ []))
    × (join_on 1 ≡ (Err ShortList, order 9 9 9 ∷ []))
unfolding join_on blank recorded recorded_by records_by over change_by refusal verdict common short own limits work join done with_set head_of book_in sets_in tokens_in resources_in rows_of
    lists.some every numbered tabulate_from tabulate up_to all_pass kept all_kept joined_set has_own placed held locked count_limits in_limit counts rows1 rows2 rows3 rows4 rows5 rows6 rows7 rows8 rules sound
joins-on-records = (refl, refl, refl)
