-- A host that obeys the rows which its calls gave, refused calls and opens among them, ends in step with the book that it keeps.
-- Assumes nothing.
use Rattle.std.specs.Prelude.{Result, Ok, Err}
use Prim.Native.Nat.{ℕ, ◌+◌, ◌*◌}
use mathlib.Core.Path.{◌≡◌, refl, sym, ap, ap₂, ◌∙◌}
use mathlib.Core.Bool.{true, false, false≢true}
use mathlib.Core.List.{List, [], ◌∷◌, ◌++◌}
use mathlib.Core.Option.{Option, some, none}
use lib.ListN.{length, take, drop}
use lib.Seq.{drop_at}
use Rattle.sets.proofs.Laws.{both}
use Rattle.rows.specs.Number.{stored, rows_of}
use Rattle.rows.proofs.Laws.{stored-first}
use Rattle.rows.proofs.Table.{rows-read}
use Rattle.rules.specs.Lists.{every}
use Rattle.rules.specs.Book.{Book}
use Rattle.rules.specs.Requests.{Done}
use Rattle.rules.specs.Bytes.{Tables, book_in, head_of, laid}
use Rattle.rules.specs.Refusals.{Request, work, refusal, refusal_open, number, view_told}
use Rattle.rules.specs.Calls.{order_row, order_rows, order_at, order_of, orders_in, rows_lent, Change, change, change_by, Asked, changes, opens, nothing, asked_in, One, one, change_one, open_one, refused_one, All, all, Service, serve_call, serve_by, refusal_serve}
use Rattle.rules.specs.Runs.{Kept, keep, book_of, Call, to-change, to-view, to-open, to-serve, to_read, to_write, to-show, head_changed, head_served, after, run}
use Rattle.rules.specs.Host.{Store, obey, is_join, store_of, obey_change, obey_one, obey_all, obey_served, obey_call, obey_run, not_read}
use Rattle.rules.specs.declared.Head.{Head}
use Rattle.rules.specs.declared.Order.{Order}
use Rattle.rules.specs.declared.Refusal.{Refusal}
use Rattle.rules.specs.declared.Refusal.TheVariants.{NoSuch}
use Rattle.theorems.proofs.RequestLaws.{accepted, work-sound}
use Rattle.theorems.proofs.ByteLaws.{sound-book-laid}
use Rattle.theorems.proofs.CallLaws.{kept_one, kept_all, one-open}
use Rattle.theorems.proofs.ServeLaws.{own_orders, one-gives, length-orders}
use Rattle.rules.specs.declared.Applied.{Applied}
use Rattle.theorems.proofs.HostLaws.{obeyed-work}

-- orders that were given as rows of numbers are read back, whatever comes behind them
pub orders-read : (os : List Order) (rest : List ℕ) → orders_in (length os) (order_rows os ++ rest) ≡ os
unfolding orders_in order_rows order_of order_at order_row
orders-read os rest = rows-read 3 order_row order_of os rest (λ x m. (refl, refl))

-- ---- one request

module _ (q : Request) (h : Head) (t : Tables) (list : List ℕ) where
  abbrev b : Book
  b = book_in h t

  abbrev d : Done
  d = work q b

  -- the rows of an accepted request, obeyed
  rows-obeyed : (rest : List ℕ) → refusal t b (rows_lent list) q ≡ none
      → obey (is_join q) (orders_in (length d.orders) (order_rows d.orders ++ rest)) (store_of b) ≡ store_of (book_in (head_of d.book) (laid d.book t))
  rows-obeyed rest e =
      let a = accepted t b (rows_lent list) q e in
      ap (λ (os : List Order). obey (is_join q) os (store_of b)) (orders-read d.orders rest)
      ∙ obeyed-work q b a.sound' a.allowed
      ∙ ap store_of (sym (sound-book-laid d.book t (work-sound t b (rows_lent list) q e)))

  pub change-obeyed : obey_call (to-change q list) (keep h t) (store_of b) ≡ store_of (book_of (after (to-change q list) (keep h t)))
  unfolding obey_call after change change_by obey_change head_changed book_of stored
  change-obeyed = go (refusal t b (rows_lent list) q) refl
    where
      c : Option Refusal → Change
      c z = change_by z d t list

      go : (z : Option Refusal) → refusal t b (rows_lent list) q ≡ z
          → obey_change q (c z).answer (c z).orders (store_of b) ≡ store_of (book_of (keep (head_changed (c z).answer h) (c z).tables))
      go (some r) e = refl
      go none e = rows-obeyed (drop (0 + length (order_rows d.orders)) list) e

  -- the rows cut from the list lent are its orders
  pub rows_cut : take (length d.orders * 3) (stored 0 (order_rows d.orders) list) ≡ order_rows d.orders
  rows_cut =
      ap (λ (n : ℕ). take n (stored 0 (order_rows d.orders) list)) (sym (length-orders d.orders))
      ∙ stored-first (order_rows d.orders) list

  pub cut-obeyed : (rest : List ℕ)
      → obey_one (changes q) (one (changes q) h t list).count (take ((one (changes q) h t list).count * 3) (one (changes q) h t list).orders ++ rest) (store_of b)
      ≡ store_of (book_of (kept_one (changes q) h t list))
  unfolding obey_one one change change_by change_one refused_one book_of orders_in rows_of obey
  cut-obeyed rest = go (refusal t b (rows_lent list) q) refl
    where
      o : Option Refusal → One
      o z = let c = change_by z d t list in change_one c.answer h c.tables c.orders

      go : (z : Option Refusal) → refusal t b (rows_lent list) q ≡ z
          → obey (is_join q) (orders_in (o z).count (take ((o z).count * 3) (o z).orders ++ rest)) (store_of b) ≡ store_of (book_of (keep (o z).head (o z).tables))
      go (some r) e = refl
      go none e =
          ap (λ (l : List ℕ). obey (is_join q) (orders_in (length d.orders) (l ++ rest)) (store_of b)) rows_cut
          ∙ rows-obeyed rest e

-- one of several requests, on the rows that it gave and whatever comes behind them
pub one-obeyed : (q : Asked) (h : Head) (t : Tables) (list rest : List ℕ)
    → obey_one q (one q h t list).count (take ((one q h t list).count * 3) (one q h t list).orders ++ rest) (store_of (book_in h t))
    ≡ store_of (book_of (kept_one q h t list))
unfolding obey_one one refused_one book_of
one-obeyed (changes q) h t list rest = cut-obeyed q h t list rest
one-obeyed (opens u r) h t list rest = ap (λ (k : Kept). store_of (book_of k)) (sym (one-open u r h t list))
one-obeyed nothing h t list rest = refl

-- its answer row: number, view, count
abbrev pub Counted : One → Type 0
Counted o = (n : ℕ) × (v : ℕ) × (o.row ≡ n ∷ v ∷ o.count ∷ [])

refused-counted : (r : Refusal) (h : Head) (t : Tables) (list : List ℕ) → Counted (refused_one r h t list)
unfolding refused_one
refused-counted r h t list = (number r, view_told r, refl)

pub one-counted : (q : Asked) (h : Head) (t : Tables) (list : List ℕ) → Counted (one q h t list)
unfolding one change_one open_one
one-counted (changes q) h t list = go (change q h t list).answer
  where
    go : (a : (Result Applied Refusal)) → Counted (change_one a h (change q h t list).tables (change q h t list).orders)
    go (Ok a) = (0, 0, refl)
    go (Err r) = refused-counted r h (change q h t list).tables (change q h t list).orders
one-counted (opens u r) h t list = go (refusal_open t (book_in h t) (rows_lent list) u r)
  where
    go : (z : Option Refusal) → Counted (open_one z (book_in h t) u r h t list)
    go (some k) = refused-counted k h t list
    go none = (0, 0, refl)
one-counted nothing h t list = refused-counted NoSuch h t list

-- ---- several requests

-- the rows of the first are cut off
pub rest-behind : (q : Asked) (h : Head) (t : Tables) (list rest : List ℕ)
    → drop ((one q h t list).count * 3) (take ((one q h t list).count * 3) (one q h t list).orders ++ rest) ≡ rest
rest-behind q h t list rest =
    let g = one-gives q h t list in
    let mine : List ℕ = own_orders q (keep h t) list in
    ap (λ (l : List ℕ). drop ((one q h t list).count * 3) (l ++ rest))
    (ap₂ (λ (n : ℕ) (l : List ℕ). take n l) (sym g.count) g.orders ∙ stored-first mine list)
    ∙ drop_at mine rest ((one q h t list).count * 3) g.count

pub all-obeyed : (qs : List Asked) (h : Head) (t : Tables) (list behind : List ℕ)
    → obey_all qs ((all qs h t list).answers ++ behind) (all qs h t list).orders (store_of (book_in h t)) ≡ store_of (book_of (kept_all qs h t list))
unfolding obey_all all book_of
all-obeyed [] h t list behind = refl
all-obeyed (q ∷ qs) h t list behind =
    let o : One = one q h t list in
    let a : All = all qs o.head o.tables (drop (o.count * 3) o.orders) in
    let rows : List ℕ = take (o.count * 3) o.orders ++ a.orders in
    let (n, v, e) = one-counted q h t list in
    ap (λ (row : List ℕ). obey_all (q ∷ qs) ((row ++ a.answers) ++ behind) rows (store_of (book_in h t))) e
    ∙ ap₂ (λ (l : List ℕ) (s : Store). obey_all qs (a.answers ++ behind) l s) (rest-behind q h t list a.orders) (one-obeyed q h t list a.orders)
    ∙ all-obeyed qs o.head o.tables (drop (o.count * 3) o.orders) behind

pub serve-obeyed : (requests answers list : List ℕ) (k : Kept)
    → obey_call (to-serve requests answers list) k (store_of (book_of k)) ≡ store_of (book_of (after (to-serve requests answers list) k))
unfolding obey_call after serve_call serve_by obey_served head_served book_of stored
serve-obeyed requests answers list k = go (refusal_serve k.tables (book_in k.head k.tables) requests answers)
  where
    a : All
    a = all (asked_in requests) k.head k.tables list

    c : Option Refusal → Service
    c z = serve_by z a k.tables answers list

    go : (z : Option Refusal)
        → obey_served (c z).answer (asked_in requests) (c z).answers (c z).orders (store_of (book_of k)) ≡ store_of (book_of (keep (head_served (c z).answer k.head) (c z).tables))
    go (some r) = refl
    go none = all-obeyed (asked_in requests) k.head k.tables list (drop (0 + length a.answers) answers)

-- ---- any calls but reads

pub call-obeyed : (c : Call) (k : Kept) → not_read c ≡ true → obey_call c k (store_of (book_of k)) ≡ store_of (book_of (after c k))
unfolding obey_call after not_read book_of
call-obeyed (to-change q list) k e = change-obeyed q k.head k.tables list
call-obeyed (to-serve requests answers list) k e = serve-obeyed requests answers list k
call-obeyed (to_read bs) k e = absurd (false≢true e)
call-obeyed (to-view u r) k e = refl
call-obeyed (to-open u r list) k e = refl
call-obeyed (to_write buffer) k e = refl
call-obeyed (to-show bs i) k e = refl

-- a host in step with its book stays in step: no rule of a sound book is needed, as calls on any other book are refused
pub obeyed-calls : (cs : List Call) (k : Kept) → every not_read cs ≡ true → obey_run cs k (store_of (book_of k)) ≡ store_of (book_of (run cs k))
unfolding obey_run run every
obeyed-calls [] k e = refl
obeyed-calls (c ∷ cs) k e =
    let (x, y) = both (not_read c) (every not_read cs) e in
    ap (obey_run cs (after c k)) (call-obeyed c k x) ∙ obeyed-calls cs (after c k) y

-- no order that any call gives is one that the host cannot obey
pub never-spoilt : (cs : List Call) (k : Kept) → every not_read cs ≡ true → (obey_run cs k (store_of (book_of k))).spoilt ≡ false
unfolding store_of
never-spoilt cs k e = ap (λ (s : Store). s.spoilt) (obeyed-calls cs k e)
