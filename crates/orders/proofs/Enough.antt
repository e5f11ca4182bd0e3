-- `most_orders` rows are enough for any request, so that the request on numbers answers for the records. Assumes nothing.
use Rattle.std.specs.Prelude.{Result, is_ok}
use Prim.Native.Nat.{ℕ, ◌+◌, ◌*◌, ◌≤◌}
use mathlib.Core.Path.{◌≡◌, refl, sym, ap, ◌∙◌}
use mathlib.Core.Bool.{Bool, true, false, cond, true≢false}
use mathlib.Core.List.{List, [], ◌∷◌, ◌++◌, append_assoc}
use mathlib.Core.Option.{Option, some, none}
use native.Mathlib.Omega.{arith}
use lib.Dec.{ltb}
use lib.ListN.{length, take, drop, take-append-drop}
use lib.Seq.{length-take-le, drop-append-le}
use borrow.Author.Tests.{ltb-true, ltb-false}
use Rattle.rows.specs.Number.{stored}
use Rattle.rules.specs.Book.{Book}
use Rattle.rules.specs.Requests.{Done}
use Rattle.rules.specs.Bytes.{Tables, book_in}
use Rattle.rules.specs.Refusals.{Request, joins, inserts, grants, revokes, leaves, verdict, common, own, limits, work, refusal}
use Rattle.rules.specs.Calls.{Change, changing, change_by, change, rows_lent, order_rows, orders_in}
use Rattle.rules.specs.declared.Head.{Head}
use Rattle.rules.specs.declared.Order.{Order}
use Rattle.rules.specs.declared.Refusal.{Refusal}
use Rattle.theorems.proofs.RequestLaws.{common-none, verdict-append, limits-none}
use Rattle.theorems.proofs.OrderLaws.{most_rows, rows-enough}
use Rattle.theorems.proofs.ServeLaws.{length-orders}
use Rattle.orders.specs.Records.{over, most_orders, most_numbers, least, filled, count_of, recording, records_by, recorded_by, recorded}
use Rattle.rules.specs.declared.Applied.{Applied}
use Rattle.orders.proofs.Records.{over_none, orders-back}

-- ---- 10 on `room` rows is 10 on as many of them as can be needed

pub least_fits : (room : ℕ) → (least room ≤ room) × (least room ≤ most_orders)
unfolding least
least_fits room = go (ltb room most_orders) refl
  where
    go : (z : Bool) → ltb room most_orders ≡ z → (cond z room most_orders ≤ room) × (cond z room most_orders ≤ most_orders)
    go true e = (omega arith, omega (arith, ltb-true room most_orders e))
    go false e = (omega (arith, ltb-false room most_orders e), omega arith)

pub least-few : {n : ℕ} (room : ℕ) → n ≡ least room → n ≤ most_orders
least-few {n} room e = omega (arith, e, (least_fits room).1)

abbrev Rows : Type 0
Rows = List (Refusal × Bool)

-- what comes behind a list of tests is asked only if none of them holds
verdict-behind : (xs ys zs : Rows) → (verdict xs ≡ none → verdict ys ≡ verdict zs) → verdict (xs ++ ys) ≡ verdict (xs ++ zs)
unfolding verdict
verdict-behind [] ys zs h = h refl
verdict-behind (x ∷ xs) ys zs h = go x.1 (λ r. verdict-behind xs ys zs r) h
  where
    go : (z : Bool) → ((verdict xs ≡ none → verdict ys ≡ verdict zs) → verdict (xs ++ ys) ≡ verdict (xs ++ zs))
        → (cond z (some x.0) (verdict xs) ≡ none → verdict ys ≡ verdict zs) → cond z (some x.0) (verdict (xs ++ ys)) ≡ cond z (some x.0) (verdict (xs ++ zs))
    go true more k = refl
    go false more k = more k

few : (q : Request) → most_rows q ≤ most_orders
few joins = omega arith
few (inserts l) = omega arith
few (grants r u) = omega arith
few (revokes r u) = omega arith
few (leaves u) = omega arith

pub room-enough : (t : Tables) (b : Book) (room : ℕ) (q : Request) → refusal t b room q ≡ refusal t b (least room) q
unfolding refusal least
room-enough t b room q = go (ltb room most_orders) refl
  where
    go : (z : Bool) → ltb room most_orders ≡ z → verdict (common t b ++ own q b ++ limits room (work q b)) ≡ verdict (common t b ++ own q b ++ limits (cond z room most_orders) (work q b))
    go true e = refl
    go false e =
        verdict-behind (common t b ++ own q b) (limits room (work q b)) (limits most_orders (work q b)) (λ passed.
        let (l, s, o) = common-none t b (own q b) passed in
        rows-enough q b s o room (omega (arith, few q, ltb-false room most_orders e)) ∙ sym (rows-enough q b s o most_orders (few q)))

-- ---- what a request that is not refused gives

given-few : (t : Tables) (b : Book) (room : ℕ) (q : Request) → refusal t b room q ≡ none → length (work q b).orders ≤ room
unfolding refusal
given-few t b room q e = (limits-none room (work q b) (verdict-append (common t b ++ own q b) (limits room (work q b)) e).1).orders≤

pub filled-few : (q : Request) (h : Head) (t : Tables) (room : ℕ) (rows : List ℕ) → count_of (filled q h t room rows).answer ≤ least room
unfolding filled change_by
filled-few q h t room rows = go (refusal t (book_in h t) room q) refl
  where
    go : (v : Option Refusal) → refusal t (book_in h t) room q ≡ v → count_of (change_by v (work q (book_in h t)) t rows).answer ≤ least room
    go (some r) e = omega arith
    go none e = given-few t (book_in h t) (least room) q (sym (room-enough t (book_in h t) room q) ∙ e)

-- the rows that were given stand in the numbers, and there is a record for each
pub filled-counts : (q : Request) (h : Head) (t : Tables) (room : ℕ) (rows : List ℕ) {c : Result Applied Refusal} {u : Tables} {ys : List ℕ} {n : ℕ} → changing c u ys ≡ filled q h t room rows → n ≡ count_of c → length ys ≡ most_numbers
    → (n * 3 ≤ length ys) × (n ≤ room)
filled-counts q h t room rows {n = n} e k l =
    let few : n ≤ least room = rw (k ∙ ap (λ (z : Change). count_of z.answer) e) (filled-few q h t room rows) in
    (omega (arith, l, few, (least_fits room).1), omega (arith, few, (least_fits room).0))

-- ---- the request on a part of the numbers

-- what is left of the numbers behind the part
behind : (m : ℕ) (bs rows : List ℕ) → length bs ≤ m → m ≤ length rows → stored 0 bs (take m rows) ++ drop m rows ≡ stored 0 bs rows
unfolding stored
behind m bs rows h l =
    append_assoc bs (drop (0 + length bs) (take m rows)) (drop m rows)
    ∙ ap (λ (z : List ℕ). bs ++ z) (sym (drop-append-le (0 + length bs) (take m rows) (drop m rows) (omega (arith, length-take-le m rows l))) ∙ ap (drop (0 + length bs)) (take-append-drop m rows))

rows-lent : (n : ℕ) (rows : List ℕ) → n * 3 ≤ length rows → rows_lent (take (n * 3) rows) ≡ n
unfolding rows_lent
rows-lent n rows l = omega (arith, length-take-le (n * 3) rows l)

module _ (v : Option Refusal) (d : Done) (t : Tables) (m : ℕ) (rows : List ℕ) (l : m ≤ length rows) (fits : v ≡ none → length (order_rows d.orders) ≤ m) where
  change-part : {c : Result Applied Refusal} {u : Tables} {ys : List ℕ} → changing c u ys ≡ change_by v d t (take m rows) → changing c u (ys ++ drop m rows) ≡ change_by v d t rows
  unfolding change_by
  change-part {c} {u} {ys} e = ap (λ (z : Change). changing z.answer z.tables (z.orders ++ drop m rows)) e ∙ go v fits
    where
      go : (v : Option Refusal) → (v ≡ none → length (order_rows d.orders) ≤ m) → changing (change_by v d t (take m rows)).answer (change_by v d t (take m rows)).tables ((change_by v d t (take m rows)).orders ++ drop m rows) ≡ change_by v d t rows
      go (some r) f = ap (changing _ t) (take-append-drop m rows)
      go none f = ap (changing _ _) (behind m (order_rows d.orders) rows (f refl) l)

pub filled-by : (q : Request) (h : Head) (t : Tables) (room : ℕ) (rows : List ℕ) {n : ℕ} {c : Result Applied Refusal} {u : Tables} {ys : List ℕ} → most_numbers ≤ length rows → n ≡ least room → changing c u ys ≡ change q h t (take (n * 3) rows)
    → changing c u (ys ++ drop (n * 3) rows) ≡ filled q h t room rows
unfolding filled change
filled-by q h t room rows {n} l k e =
    let b = book_in h t in
    let there : n * 3 ≤ length rows = omega (arith, least-few room k) in
    let same : refusal t b (rows_lent (take (n * 3) rows)) q ≡ refusal t b room q = ap (λ (m : ℕ). refusal t b m q) (rows-lent n rows there ∙ k) ∙ sym (room-enough t b room q) in
    change-part (refusal t b room q) (work q b) t (n * 3) rows there
    (λ g. omega (arith, k, length-orders (work q b).orders, given-few t b (least room) q (sym (room-enough t b room q) ∙ g)))
    (e ∙ ap (λ (v : Option Refusal). change_by v (work q b) t (take (n * 3) rows)) same)

-- ---- the records

-- a request on numbers, its rows stored as records, is the request on the records
pub record-by : (v : Option Refusal) (d : Done) (t : Tables) (rows : List ℕ) (list : List Order) {c : Result Applied Refusal} {u : Tables} {ys : List ℕ} {zs : List Order} {n : ℕ} → changing c u ys ≡ change_by v d t rows → n ≡ count_of c → zs ≡ over (orders_in n ys) list
    → recording c u zs ≡ recorded_by v d t list
unfolding change_by recorded_by records_by
record-by (some r) d t rows list {c} {u} {ys} {zs} {n} e k f =
    let none-given : n ≡ 0 = k ∙ ap (λ (z : Change). count_of z.answer) e in
    let same : zs ≡ list = f ∙ ap (λ (m : ℕ). over (orders_in m ys) list) none-given ∙ sym (over_none list ys) in
    ap (λ (z : Change). recording z.answer z.tables zs) e ∙ ap (recording _ _) same
record-by none d t rows list {c} {u} {ys} {zs} {n} e k f =
    let all-given : n ≡ length d.orders = k ∙ ap (λ (z : Change). count_of z.answer) e in
    let back : orders_in n ys ≡ d.orders = ap (λ (m : ℕ). orders_in m ys) all-given ∙ ap (λ (z : Change). orders_in (length d.orders) z.orders) e ∙ orders-back d.orders rows in
    ap (λ (z : Change). recording z.answer z.tables zs) e ∙ ap (recording _ _) (f ∙ ap (λ (os : List Order). over os list) back)

pub recorded-by : (q : Request) (h : Head) (t : Tables) (rows : List ℕ) (list : List Order) {c : Result Applied Refusal} {u : Tables} {ys : List ℕ} {zs : List Order} {n : ℕ} → changing c u ys ≡ filled q h t (length list) rows → n ≡ count_of c → zs ≡ over (orders_in n ys) list
    → recording c u zs ≡ recorded q h t list
unfolding recorded filled
recorded-by q h t rows list e k f = record-by (refusal t (book_in h t) (length list) q) (work q (book_in h t)) t rows list e k f

-- a refused one leaves the records as they were
pub refused_by : (q : Request) (h : Head) (t : Tables) (list : List Order) → is_ok (filled q h t (length list) []).answer ≡ false
    → recorded q h t list ≡ recording (filled q h t (length list) []).answer (filled q h t (length list) []).tables list
unfolding recorded filled change_by recorded_by records_by
refused_by q h t list e = go (refusal t (book_in h t) (length list) q) e
  where
    d : Done
    d = work q (book_in h t)

    go : (v : Option Refusal) → is_ok (change_by v d t []).answer ≡ false
        → recorded_by v d t list ≡ recording (change_by v d t []).answer (change_by v d t []).tables list
    go (some r) e = refl
    go none e = absurd (true≢false e)

-- what it answers, and leaves in the tables, is no matter of the numbers lent
pub answer_by : (q : Request) (h : Head) (t : Tables) (room : ℕ) (rows : List ℕ) → (filled q h t room rows).answer ≡ (filled q h t room []).answer
unfolding filled change_by
answer_by q h t room rows = go (refusal t (book_in h t) room q)
  where
    go : (v : Option Refusal) → (change_by v (work q (book_in h t)) t rows).answer ≡ (change_by v (work q (book_in h t)) t []).answer
    go (some r) = refl
    go none = refl

pub tables_by : (q : Request) (h : Head) (t : Tables) (room : ℕ) (rows : List ℕ) → (filled q h t room rows).tables ≡ (filled q h t room []).tables
unfolding filled change_by
tables_by q h t room rows = go (refusal t (book_in h t) room q)
  where
    go : (v : Option Refusal) → (change_by v (work q (book_in h t)) t rows).tables ≡ (change_by v (work q (book_in h t)) t []).tables
    go (some r) = refl
    go none = refl

-- ---- among the calls of a run

-- the call on records answers and leaves in the tables what the call on as many rows of numbers does
pub recorded-change : (q : Request) (h : Head) (t : Tables) (list : List Order) (numbers : List ℕ) → rows_lent numbers ≡ length list
    → ((recorded q h t list).answer ≡ (change q h t numbers).answer) × ((recorded q h t list).tables ≡ (change q h t numbers).tables)
unfolding recorded recorded_by change change_by
recorded-change q h t list numbers e = rw e (go (refusal t (book_in h t) (length list) q))
  where
    d : Done
    d = work q (book_in h t)

    go : (z : Option Refusal) → ((recorded_by z d t list).answer ≡ (change_by z d t numbers).answer) × ((recorded_by z d t list).tables ≡ (change_by z d t numbers).tables)
    go (some r) = (refl, refl)
    go none = (refl, refl)
