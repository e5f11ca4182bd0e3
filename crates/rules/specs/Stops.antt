-- A host that stops in the middle of a request's orders: who opens what from what it has then. RULES 6.6.
-- Assumes nothing.
use Rattle.std.specs.Prelude.{ℕ, ◌-◌, ◌*◌, ◌≤◌, ◌<◌, ◌≡◌, Bool, true, false, cond, ◌⊎◌, List, [], ◌∷◌, eqb, ltb, length, get_or, take, drop, Result, Ok, Err}
use Rattle.sets.specs.Sets.{has}
use Rattle.rules.specs.Book.{Book, resource}
use Rattle.rules.specs.Refusals.{Request, joins, inserts, grants, revokes, leaves, work}
use Rattle.rules.specs.Bytes.{Tables, book_in}
use Rattle.rules.specs.Calls.{change, orders_in, Asked, one}
use Rattle.rules.specs.Runs.{Kept}
use Rattle.rules.specs.Host.{Store, HostOpens, obey, obey_one, is_join}
use Rattle.rules.specs.declared.Head.{Head}
use Rattle.rules.specs.declared.Applied.{Applied}
use Rattle.rules.specs.declared.Refusal.{Refusal}
use Rattle.rules.specs.declared.Order.{Order}

-- the list of r before a request that leads from b to c: "a new folder's list before is the one that it comes with"
unfoldable pub old_list : Book → Book → ℕ → ℕ
old_list b c r = cond (ltb r (length b.resources)) (resource b r).list (resource c r).list

-- every encrypted folder "opens for everybody who is on its list both before and after the request, and for nobody who is on neither". Where the two lists
-- are one, that is "for exactly its list". No order was one that the host cannot obey
pub record Safe (b c : Book) (s : Store) : Type 0 where
  pub opens-both : (r : ℕ) → r < length s.keys → (u : ℕ) → has (old_list b c r) u ≡ true → has (resource c r).list u ≡ true → HostOpens s u r
  pub opens-only : (r : ℕ) → r < length s.keys → (u : ℕ) → HostOpens s u r → (has (old_list b c r) u ≡ true) ⊎ (has (resource c r).list u ≡ true)
  -- "every folder of the book is still encrypted there"
  pub all_there : length b.resources ≤ length s.keys
  pub unspoilt : s.spoilt ≡ false

-- "an accepted request of which it has obeyed the first k orders"
unfoldable pub stopped : Request → Book → ℕ → Store → Store
stopped q b k s = obey (is_join q) (take k (work q b).orders) s

-- the folders that a request changes: "the folder that an insert, a grant or a revoke names; for a leave each folder that lists the leaver"
unfoldable pub alters : Request → Book → ℕ → Bool
alters joins b r = false
alters (inserts l) b r = eqb r (length b.resources)
alters (grants i u) b r = eqb r i
alters (revokes i u) b r = eqb r i
alters (leaves u) b r = has (resource b r).list u

-- ---- the orders as a call gave them: its rows in the list lent, none where it refused

unfoldable pub orders_given : (Result Applied Refusal) → List ℕ → List Order
orders_given (Ok a) list = orders_in a.count list
orders_given (Err r) list = []

unfoldable pub orders_of : Request → List ℕ → Kept → List Order
orders_of q list k =
    let c = change q k.head k.tables list in
    orders_given c.answer c.orders

-- ---- several requests in one call (RULES 8.8)

-- the first n rows of all that it gave, one request after the other: those in front whole, then the first rows of the next. An open's rows are no orders
unfoldable pub obey_some : List Asked → List ℕ → List ℕ → ℕ → Store → Store
obey_some [] answers list n s = s
obey_some (q ∷ qs) answers list n s =
    let m = get_or answers 2 0 in
    let here = obey_one q n list s in
    let on = obey_some qs (drop 3 answers) (drop (m * 3) list) (n - m) (obey_one q m list s) in
    cond (ltb n m) here on

-- the books before and after the request that it stops in
unfoldable pub books_at : List Asked → Head → Tables → List ℕ → ℕ → Book × Book
books_at [] h t list n = (book_in h t, book_in h t)
books_at (q ∷ qs) h t list n =
    let o = one q h t list in
    let here : Book × Book = (book_in h t, book_in o.head o.tables) in
    let on = books_at qs o.head o.tables (drop (o.count * 3) o.orders) (n - o.count) in
    cond (ltb n o.count) here on
