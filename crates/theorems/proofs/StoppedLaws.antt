-- A host that stops in the orders of the last call of a run, and goes on: RULES 6.6 "after any run of calls without a read", and 6.7. On the rows that the
-- call gave, whether it was accepted or refused, by itself or one of several.
-- Assumes nothing.
use Prim.Native.Nat.{ℕ, zero, suc, ◌+◌, ◌-◌, ◌*◌, ◌≤◌, ◌<◌}
use mathlib.Core.Path.{◌≡◌, refl, sym, ap, ◌∙◌, subst}
use mathlib.Core.Bool.{Bool, true, false, cond}
use mathlib.Core.Logic.{◌⊎◌, inl, inr, ◌↔◌}
use mathlib.Core.List.{List, [], ◌∷◌, ◌++◌, map}
use mathlib.Core.Option.{Option, some, none}
use native.Mathlib.Nat.{le_refl}
use native.Mathlib.Omega.{arith}
use lib.Dec.{eqb, ltb}
use lib.ListN.{length, get_or, set, take, drop, length-append, length-set, length-map, get_or-append, get_or-map}
use lib.Seq.{take-nil, get_or-set_other}
use borrow.Author.Tests.{eqb-false, ltb-true}
use Rattle.sets.specs.Sets.{has, single, union, minus}
use Rattle.rows.specs.Number.{stored, rows_of}
use Rattle.rules.specs.Lists.{every}
use Rattle.rules.specs.Book.{Book, resource}
use Rattle.rules.specs.Sound.{sound}
use Rattle.rules.specs.Bytes.{Tables, book_in}
use Rattle.rules.specs.Refusals.{Request, joins, inserts, grants, revokes, leaves, work, refusal}
use Rattle.rules.specs.Calls.{order_rows, order_of, orders_in, rows_lent, Change, change, change_by, Asked, changes, opens, nothing, One, one, change_one, refused_one, All, all, asked_in, serve_call, serve_by, refusal_serve}
use Rattle.rules.specs.Runs.{Kept, keep, book_of, Call, to-change, head_changed, after, run, Access, access, listed}
use Rattle.rules.specs.Host.{Store, obey, obey_again, restarted, most, is_join, store_of, HostOpens, obey_one, obey_run, not_read}
use Rattle.rules.specs.Requests.{Done}
use Rattle.rules.specs.Stops.{old_list, Safe, stopped, alters, orders_given, orders_of, obey_some, books_at}
use Rattle.rules.specs.declared.Head.{Head}
use Rattle.rules.specs.declared.Order.{Order}
use Rattle.rules.specs.declared.Refusal.{Refusal}
use Rattle.theorems.proofs.AccessLaws.{list_at, list_count, less-same, work-access}
use Rattle.theorems.proofs.RequestLaws.{accepted, work-sound}
use Rattle.theorems.proofs.ByteLaws.{sound-book-laid}
use Rattle.theorems.proofs.RunLaws.{run_sound}
use Rattle.theorems.proofs.ServeLaws as serve
use Rattle.theorems.proofs.ServeLaws.{one-run}
use Rattle.theorems.proofs.HostLaws.{obeyed-work}
use Rattle.theorems.proofs.GrowLaws.{longer-at, rest-grows}
use Rattle.theorems.proofs.CallLaws.{kept_one, one-open}
use Rattle.theorems.proofs.HostCallLaws.{orders-read, rows_cut, one-obeyed, Counted, one-counted, rest-behind, obeyed-calls}
use Rattle.theorems.proofs.HostOpensLaws.{host-opens, keys-count}
use Rattle.theorems.proofs.StopLaws.{old-list, end-safe}
use Rattle.theorems.proofs.SafeLaws.{safe-at-every-stop}
use Rattle.theorems.proofs.AgainLaws.{restarts, finishes}

-- ---- "every encrypted folder that the request does not change opens for exactly its list"

others_same : (q : Request) (b : Book) (r : ℕ) → alters q b r ≡ false → r < length (work q b).book.resources
    → (r < length b.resources) × ((resource (work q b).book r).list ≡ (resource b r).list)
unfolding alters listed
others_same q b r n l = go q n (work-access q b)
  where
    c : Book
    c = (work q b).book

    ls : List ℕ
    ls = (access b).lists

    -- from the lists alone
    by : (ms : List ℕ) → (access c).lists ≡ ms → r < length ls → get_or ms r 0 ≡ get_or ls r 0 → (r < length b.resources) × ((resource c r).list ≡ (resource b r).list)
    by ms e k p = (omega (arith, list_count b), sym (list_at c r) ∙ ap (λ (x : List ℕ). get_or x r 0) e ∙ p ∙ list_at b r)

    long : (ms : List ℕ) → (access c).lists ≡ ms → r < length ms
    long ms e = omega (arith, list_count c, ap (λ (x : List ℕ). length x) e)

    changed : (i x : ℕ) → eqb r i ≡ false → (access c).lists ≡ set ls i x → (r < length b.resources) × ((resource c r).list ≡ (resource b r).list)
    changed i x f e =
        by (set ls i x) e (omega (arith, long (set ls i x) e, length-set ls i x)) (get_or-set_other ls i r x 0 (eqb-false r i f))

    go : (q : Request) → alters q b r ≡ false → access c ≡ listed q (access b) → (r < length b.resources) × ((resource c r).list ≡ (resource b r).list)
    go joins f e = by ls (ap (λ (a : Access). a.lists) e) (long ls (ap (λ (a : Access). a.lists) e)) refl
    go (inserts l) f e =
        let p : (access c).lists ≡ ls ++ (l ∷ []) = ap (λ (a : Access). a.lists) e in
        let k : r < length ls = omega (arith, long (ls ++ (l ∷ [])) p, length-append ls (l ∷ []), list_count b, eqb-false r (length b.resources) f) in
        by (ls ++ (l ∷ [])) p k (get_or-append ls (l ∷ []) 0 r k)
    go (grants i u) f e = changed i (union (get_or ls i 0) (single u)) f (ap (λ (a : Access). a.lists) e)
    go (revokes i u) f e = changed i (minus (get_or ls i 0) (single u)) f (ap (λ (a : Access). a.lists) e)
    go (leaves u) f e =
        let p : (access c).lists ≡ map (λ l. minus l (single u)) ls = ap (λ (a : Access). a.lists) e in
        by (map (λ l. minus l (single u)) ls) p (omega (arith, long (map (λ l. minus l (single u)) ls) p, length-map ls (λ l. minus l (single u))))
        (get_or-map (λ l. minus l (single u)) ls r 0 ∙ less-same u (get_or ls r 0) (ap (λ (x : ℕ). has x u) (list_at b r) ∙ f))

-- what `Safe` says of a folder whose list stays
safe-exact : (b c : Book) (s : Store) → Safe b c s → (r : ℕ) → r < length s.keys → r < length b.resources → (resource c r).list ≡ (resource b r).list
    → (u : ℕ) → HostOpens s u r ↔ (has (resource b r).list u ≡ true)
safe-exact b c s m r l k e u = (
  λ o. go (m.opens-only r l u o),
  λ h. m.opens-both r l u (old-list b c r u k ∙ h) (ap (λ (x : ℕ). has x u) e ∙ h),
)
  where
    go : (has (old_list b c r) u ≡ true) ⊎ (has (resource c r).list u ≡ true) → has (resource b r).list u ≡ true
    go (inl h) = sym (old-list b c r u k) ∙ h
    go (inr h) = ap (λ (x : ℕ). has x u) (sym e) ∙ h

module _ (t : Tables) (b : Book) (room : ℕ) (q : Request) (h : refusal t b room q ≡ none) (k : ℕ) where
  -- what is encrypted at the stop is a folder of the new book
  key-there : (r : ℕ) → r < length (stopped q b k (store_of b)).keys → r < length (work q b).book.resources
  unfolding stopped
  key-there r l =
      let a = accepted t b room q h in
      let m = (longer-at (rest-grows (is_join q) (work q b).orders k (store_of b)).keys r 0 l).0 in
      omega (arith, ap (λ (s : Store). length s.keys) (obeyed-work q b a.sound' a.allowed), keys-count (work q b).book)

  pub others-exact : (r : ℕ) → alters q b r ≡ false → r < length (stopped q b k (store_of b)).keys → (u : ℕ)
      → HostOpens (stopped q b k (store_of b)) u r ↔ (has (resource b r).list u ≡ true)
  others-exact r n l u =
      let (m, e) = others_same q b r n (key-there r l) in
      safe-exact b (work q b).book (stopped q b k (store_of b)) (safe-at-every-stop t b room q h k) r l m e u

-- ---- a call: refused, it gives no orders and leaves the book; accepted, its rows are the request's orders

module _ (q : Request) (list : List ℕ) (h : Head) (t : Tables) where
  abbrev b : Book
  b = book_in h t

  abbrev left : Book
  left = book_of (after (to-change q list) (keep h t))

  call-cases : ((orders_of q list (keep h t) ≡ []) × (left ≡ b))
      ⊎ ((refusal t b (rows_lent list) q ≡ none) × (orders_of q list (keep h t) ≡ (work q b).orders) × (left ≡ (work q b).book))
  unfolding orders_of orders_given change change_by after head_changed book_of stored
  call-cases = go (refusal t b (rows_lent list) q) refl
    where
      c : Option Refusal → Change
      c z = change_by z (work q b) t list

      go : (z : Option Refusal) → refusal t b (rows_lent list) q ≡ z
          → ((orders_given (c z).answer (c z).orders ≡ []) × (book_of (keep (head_changed (c z).answer h) (c z).tables) ≡ b))
          ⊎ ((z ≡ none) × (orders_given (c z).answer (c z).orders ≡ (work q b).orders)
          × (book_of (keep (head_changed (c z).answer h) (c z).tables) ≡ (work q b).book))
      go (some r) e = inl (refl, refl)
      go none e =
          inr (
            refl,
            orders-read (work q b).orders (drop (0 + length (order_rows (work q b).orders)) list),
            sound-book-laid (work q b).book t (work-sound t b (rows_lent list) q e),
          )

restarted-none : (j : Bool) (ns : List ℕ) (s : Store) → restarted j [] ns s ≡ s
unfolding restarted obey_again
restarted-none j [] s = refl
restarted-none j (n ∷ ns) s = ap (λ (os : List Order). restarted j [] ns (obey_again j os s)) (take-nil n) ∙ restarted-none j ns s

take_none : (j : Bool) (n : ℕ) (s : Store) → obey j (take n []) s ≡ s
unfolding obey
take_none j n s = ap (λ (os : List Order). obey j os s) (take-nil n)

-- ---- runs of calls but reads, from a host in step with a sound book; then the last call

module _ (cs : List Call) (k : Kept) (e : every not_read cs ≡ true) (sane : sound (book_of k) ≡ true) (q : Request) (list : List ℕ) where
  -- what the host keeps and has before the last call, the orders that this one gives, and the book that it leaves
  abbrev kept : Kept
  kept = run cs k

  abbrev has-then : Store
  has-then = obey_run cs k (store_of (book_of k))

  abbrev os : List Order
  os = orders_of q list kept

  abbrev next : Book
  next = book_of (after (to-change q list) kept)

  abbrev Cases : Type 0
  Cases =
      ((os ≡ []) × (next ≡ book_of kept))
      ⊎ ((refusal kept.tables (book_of kept) (rows_lent list) q ≡ none) × (os ≡ (work q (book_of kept)).orders) × (next ≡ (work q (book_of kept)).book))

  cases : Cases
  unfolding book_of
  cases = call-cases q list kept.head kept.tables

  in_step : has-then ≡ store_of (book_of kept)
  in_step = obeyed-calls cs k e

  sound-then : sound (book_of kept) ≡ true
  sound-then = run_sound cs k sane

  pub run-stop-safe : (n : ℕ) → Safe (book_of kept) next (obey (is_join q) (take n os) has-then)
  unfolding stopped
  run-stop-safe n = go cases
    where
      go : Cases → Safe (book_of kept) next (obey (is_join q) (take n os) has-then)
      go (inl (p, l)) =
          rw (p, l, in_step, take_none (is_join q) n (store_of (book_of kept))) (end-safe (book_of kept) (book_of kept) sound-then (le_refl (length (book_of kept).resources)))
      go (inr (r, p, l)) = rw (p, l, in_step) (safe-at-every-stop kept.tables (book_of kept) (rows_lent list) q r n)

  -- every folder that it does not change
  pub run-others-exact : (n r : ℕ) → alters q (book_of kept) r ≡ false → r < length (obey (is_join q) (take n os) has-then).keys → (u : ℕ)
      → HostOpens (obey (is_join q) (take n os) has-then) u r ↔ (has (resource (book_of kept) r).list u ≡ true)
  unfolding stopped
  run-others-exact n r = go cases
    where
      go : Cases → alters q (book_of kept) r ≡ false → r < length (obey (is_join q) (take n os) has-then).keys → (u : ℕ)
          → HostOpens (obey (is_join q) (take n os) has-then) u r ↔ (has (resource (book_of kept) r).list u ≡ true)
      go (inl (p, l)) =
          rw (p, in_step, take_none (is_join q) n (store_of (book_of kept)))
          (λ f m u. host-opens (book_of kept) sound-then r (omega (arith, keys-count (book_of kept))) u)
      go (inr (a, p, l)) = rw (p, in_step) (others-exact kept.tables (book_of kept) (rows_lent list) q a n r)

  -- and a host that goes on
  pub run-restarts : (ns : List ℕ) → restarted (is_join q) os ns has-then ≡ obey (is_join q) (take (most ns) os) has-then
  unfolding stopped
  run-restarts ns = go cases
    where
      go : Cases → restarted (is_join q) os ns has-then ≡ obey (is_join q) (take (most ns) os) has-then
      go (inl (p, l)) = rw (p, restarted-none (is_join q) ns has-then, take_none (is_join q) (most ns) has-then)
      go (inr (a, p, l)) = rw (p, in_step) (restarts kept.tables (book_of kept) (rows_lent list) q a ns)

  pub run-finishes : (ns : List ℕ) → length os ≤ most ns → restarted (is_join q) os ns has-then ≡ store_of next
  run-finishes ns = go cases
    where
      go : Cases → length os ≤ most ns → restarted (is_join q) os ns has-then ≡ store_of next
      go (inl (p, l)) = rw (p, l) (λ m. restarted-none (is_join q) ns has-then ∙ in_step)
      go (inr (a, p, l)) = rw (p, l, in_step) (finishes kept.tables (book_of kept) (rows_lent list) q a ns)

-- ---- several requests in one call: a stop anywhere in their rows

-- the first of some rows
rows-part : {A : Type 0} (w : ℕ) (f : List ℕ → A) (n m : ℕ) (rows : List ℕ) → n ≤ m → rows_of w f n rows ≡ take n (rows_of w f m rows)
unfolding rows_of
rows-part w f zero m rows l = refl
rows-part w f (suc n) zero rows l = absurd (omega arith)
rows-part w f (suc n) (suc m) rows l = ap (λ (xs : _). f (take w rows) ∷ xs) (rows-part w f n m (drop w rows) (omega arith))

-- a stop in the rows of one of them, whatever comes behind these
one-stop-safe : (q : Asked) (h : Head) (t : Tables) (list rest : List ℕ) (n : ℕ) → sound (book_in h t) ≡ true → n < (one q h t list).count
    → Safe (book_in h t) (book_of (kept_one q h t list)) (obey_one q n (take ((one q h t list).count * 3) (one q h t list).orders ++ rest) (store_of (book_in h t)))
unfolding obey_one book_of stopped orders_in one refused_one change change_by change_one
one-stop-safe (opens u r) h t list rest n s l =
    subst (λ (k : Kept). Safe (book_in h t) (book_of k) (store_of (book_in h t))) (sym (one-open u r h t list)) (end-safe (book_in h t) (book_in h t) s (le_refl (length (book_in h t).resources)))
one-stop-safe nothing h t list rest n s l = absurd (omega arith)
one-stop-safe (changes q) h t list rest n s l = go (refusal t b (rows_lent list) q) refl l
  where
    b : Book
    b = book_in h t

    d : Done
    d = work q b

    o : Option Refusal → One
    o z = let c = change_by z d t list in change_one c.answer h c.tables c.orders

    go : (z : Option Refusal) → refusal t b (rows_lent list) q ≡ z → n < (o z).count
        → Safe b (book_in (o z).head (o z).tables) (obey (is_join q) (orders_in n (take ((o z).count * 3) (o z).orders ++ rest)) (store_of b))
    go (some r) e l = absurd (omega arith)
    go none e l =
        rw (
          sound-book-laid d.book t (work-sound t b (rows_lent list) q e),
          rows_cut q h t list,
          rows-part 3 order_of n (length d.orders) (order_rows d.orders ++ rest) (omega arith),
          orders-read d.orders rest,
        )
        (safe-at-every-stop t b (rows_lent list) q e n)

-- a request among several keeps a sound book
one-sound : (q : Asked) (h : Head) (t : Tables) (list : List ℕ) → sound (book_in h t) ≡ true → sound (book_of (kept_one q h t list)) ≡ true
unfolding book_of
one-sound q h t list s = subst (λ (k : Kept). sound (book_of k) ≡ true) (sym (one-run q h t list)) (run_sound (serve.single q list) (keep h t) s)

pub some-stop-safe : (qs : List Asked) (h : Head) (t : Tables) (list behind : List ℕ) (n : ℕ) → sound (book_in h t) ≡ true
    → let bs = books_at qs h t list n in
    Safe bs.0 bs.1 (obey_some qs ((all qs h t list).answers ++ behind) (all qs h t list).orders n (store_of (book_in h t)))
unfolding books_at obey_some all book_of
some-stop-safe [] h t list behind n s = end-safe (book_in h t) (book_in h t) s (le_refl (length (book_in h t).resources))
some-stop-safe (q ∷ qs) h t list behind n s =
    go (one-counted q h t list)
    (some-stop-safe qs (one q h t list).head (one q h t list).tables (drop ((one q h t list).count * 3) (one q h t list).orders) behind (n - (one q h t list).count)
    (one-sound q h t list s))
  where
    o : One
    o = one q h t list

    a : All
    a = all qs o.head o.tables (drop (o.count * 3) o.orders)

    rows : List ℕ
    rows = take (o.count * 3) o.orders ++ a.orders

    on : Book × Book
    on = books_at qs o.head o.tables (drop (o.count * 3) o.orders) (n - o.count)

    b : Book
    b = book_in h t

    left : Store
    left = store_of (book_of (kept_one q h t list))

    -- in this request's rows, or behind them
    at : (z : Bool) → ltb n o.count ≡ z → Safe on.0 on.1 (obey_some qs (a.answers ++ behind) a.orders (n - o.count) left)
        → let bs : Book × Book = cond z (b, book_in o.head o.tables) on in
        Safe bs.0 bs.1 (cond z (obey_one q n rows (store_of b)) (obey_some qs (a.answers ++ behind) (drop (o.count * 3) rows) (n - o.count) (obey_one q o.count rows (store_of b))))
    at true e r = one-stop-safe q h t list a.orders n s (ltb-true n o.count e)
    at false e r =
        subst (λ (l : List ℕ). Safe on.0 on.1 (obey_some qs (a.answers ++ behind) l (n - o.count) (obey_one q o.count rows (store_of b))))
        (sym (rest-behind q h t list a.orders))
        (subst (λ (x : Store). Safe on.0 on.1 (obey_some qs (a.answers ++ behind) a.orders (n - o.count) x)) (sym (one-obeyed q h t list a.orders)) r)

    go : Counted o → Safe on.0 on.1 (obey_some qs (a.answers ++ behind) a.orders (n - o.count) left)
        → let bs : Book × Book = cond (ltb n o.count) (b, book_in o.head o.tables) on in
        Safe bs.0 bs.1 (obey_some (q ∷ qs) ((o.row ++ a.answers) ++ behind) rows n (store_of b))
    go (m, v, e) r = rw e (at (ltb n o.count) refl r)

-- after any run of calls but reads, with a last call of several requests that is not refused as a whole
pub run-serve-stop-safe : (cs : List Call) (k : Kept) → every not_read cs ≡ true → sound (book_of k) ≡ true → (requests answers list : List ℕ) (n : ℕ)
    → let now = run cs k in
    let c = serve_call requests now.head now.tables answers list in
    let bs = books_at (asked_in requests) now.head now.tables list n in
    refusal_serve now.tables (book_of now) requests answers ≡ none → Safe bs.0 bs.1 (obey_some (asked_in requests) c.answers c.orders n (obey_run cs k (store_of (book_of k))))
unfolding serve_call serve_by stored book_of
run-serve-stop-safe cs k e sane requests answers list n h =
    rw (h, obeyed-calls cs k e)
    (some-stop-safe (asked_in requests) (run cs k).head (run cs k).tables list (drop (0 + length a.answers) answers) n (run_sound cs k sane))
  where
    a : All
    a = all (asked_in requests) (run cs k).head (run cs k).tables list

-- a folder whose list that request leaves
pub run-serve-others-exact : (cs : List Call) (k : Kept) → every not_read cs ≡ true → sound (book_of k) ≡ true → (requests answers list : List ℕ) (n : ℕ)
    → let now = run cs k in
    let c = serve_call requests now.head now.tables answers list in
    let bs = books_at (asked_in requests) now.head now.tables list n in
    let s = obey_some (asked_in requests) c.answers c.orders n (obey_run cs k (store_of (book_of k))) in
    refusal_serve now.tables (book_of now) requests answers ≡ none → (r : ℕ) → r < length s.keys → r < length bs.0.resources
    → (resource bs.1 r).list ≡ (resource bs.0 r).list → (u : ℕ) → HostOpens s u r ↔ (has (resource bs.0 r).list u ≡ true)
run-serve-others-exact cs k e sane requests answers list n h r l m p u =
    let now = run cs k in
    let c = serve_call requests now.head now.tables answers list in
    let bs = books_at (asked_in requests) now.head now.tables list n in
    safe-exact bs.0 bs.1 (obey_some (asked_in requests) c.answers c.orders n (obey_run cs k (store_of (book_of k))))
    (run-serve-stop-safe cs k e sane requests answers list n h) r l m p u
