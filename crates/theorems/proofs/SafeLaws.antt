-- A host may stop anywhere in a request's orders (RULES 6.6): every encrypted folder that the request does not change opens for exactly its list, and one
-- that it changes for all on both the old and the new list and for none on neither. Each request; StoppedLaws has runs of calls.
-- Assumes nothing.
use Prim.Native.Nat.{ℕ, zero, suc, ◌≤◌, ◌<◌}
use mathlib.Core.Path.{◌≡◌, refl, sym, ap, ◌∙◌, subst}
use mathlib.Core.Bool.{Bool, true, false, not}
use mathlib.Core.Logic.{◌⊎◌, inl, inr, ◌≢◌}
use mathlib.Core.List.Memᴰ
use mathlib.Core.List.{List, [], ◌∷◌, ◌++◌, append-nil, append_assoc, Memᴰ}
use mathlib.Core.Option as option
use native.Mathlib.Omega.{arith}
use lib.ListN.{length, get_or, take, drop}
use Rattle.sets.specs.Sets.{has, single, minus, within}
use Rattle.sets.proofs.Laws.{both, has_within, has-minus}
use Rattle.rules.specs.Layer.{Layer, vertex_for}
use Rattle.rules.specs.Book.{Book, resource, with_inner, with_list, with_resources, Resource, with_leavers}
use Rattle.rules.specs.Sound.{sound}
use Rattle.rules.specs.Requests.{done, order, ◌then◌, vertex_orders, inner_vertex, lock, lock_list, lock_new, lock_all, encrypt, let_in, neighbours, grouped, settle, told_last, lock_near, join, insert, grant, revoke, naming, revoke_all, gone, leave}
use Rattle.rules.specs.Refusals.{Request, joins, inserts, grants, revokes, work, refusal, leaves}
use Rattle.rules.specs.Runs.{Access, access, listed}
use Rattle.rules.specs.Bytes.{Tables}
use Rattle.rules.specs.Host.{Store, obey, is_join, store_of}
use Rattle.rules.specs.Stops.{Safe, stopped}
use Rattle.rules.specs.declared.Order.{Order}
use Rattle.theorems.specs.Plan.{granted_list, revoked_list}
use Rattle.theorems.proofs.LockLaws.{Kept, Relocked, lock-laws}
use Rattle.theorems.proofs.RevokeLaws.{member, less-kept}
use Rattle.theorems.proofs.GrantLaws.{Passed, neighbour-in-order, neighbour-open}
use Rattle.theorems.proofs.NeighbourLaws.{Started, let_in_book, Apart, grant-starts, room-for-all, grouped-fewer}
use Rattle.theorems.proofs.GroupLaws.{locked_book, run-passed}
use Rattle.theorems.proofs.SoundLaws.{sound-kept}
use Rattle.theorems.proofs.AccessLaws.{list_at, list-access, let_in-access, work-access, leave-list}
use Rattle.theorems.proofs.PlanLaws.{row_listed}
use Rattle.theorems.proofs.LeaveLaws.{Run, run-next, one-run, other, revoke-other, revoke-own, naming-run, leave-given}
use Rattle.theorems.proofs.RequestLaws.{Allowed, accepted, work-sound}
use Rattle.theorems.proofs.HostLaws.{Each, Outer, inward, same_half, other_half, unspoilt-before, Told, kept-standing, each-one, each_both, each_take, vertex-each, lock_new-each, lock-outer, lock_near-outer, let_in-orders, let_in-inner, with_list-told, lock_all-told, let_in-told, obeyed-work, moved, lock_all-outer, Standing, each_none}
use Rattle.theorems.proofs.GrowLaws.{longer-length, lock_of, locks_of, Grows, stop-grows, obey-grows, rest-grows, obey-keys}
use Rattle.theorems.proofs.HostOpensLaws.{keys-count}
use Rattle.theorems.proofs.OnceLaws.{locks-append, AtMost, insert-once}
use Rattle.theorems.proofs.StopLaws.{Through, through-take, through-append, through-end, Within, within-self, within-still, lock-within, lock_all-within, settle-within, Fine, at, lock-through, run-through, settle-through, fine-safe, still-safe, end-safe, lock-at, lock-fine}

-- ---- a list of orders, of which at most one comes last

take-late : (front last : List Order) (k : ℕ) → length last ≤ 1 → (take k (front ++ last) ≡ front ++ last) ⊎ ((n : ℕ) × (take k (front ++ last) ≡ take n front))
take-late [] last zero few = inr (0, refl)
take-late [] [] (suc k) few = inl refl
take-late [] (o ∷ []) (suc k) few = inl (ap (λ (os : List Order). o ∷ os) (nothing k))
  where
    nothing : (k : ℕ) → take {A = Order} k [] ≡ []
    nothing zero = refl
    nothing (suc k) = refl
take-late [] (o ∷ p ∷ os) (suc k) few = absurd (omega arith)
take-late (o ∷ front) last zero few = inr (0, refl)
take-late (o ∷ front) last (suc k) few = go (take-late front last k few)
  where
    go : (take k (front ++ last) ≡ front ++ last) ⊎ ((n : ℕ) × (take k (front ++ last) ≡ take n front))
        → (o ∷ take k (front ++ last) ≡ o ∷ front ++ last) ⊎ ((n : ℕ) × (o ∷ take k (front ++ last) ≡ take n (o ∷ front)))
    go (inl e) = inl (ap (λ (os : List Order). o ∷ os) e)
    go (inr (n, e)) = inr (suc n, ap (λ (os : List Order). o ∷ os) e)

-- no folder is lost
more-folders : (j : Bool) (os : List Order) (b c : Book) → obey j os (store_of b) ≡ store_of c → length b.resources ≤ length c.resources
more-folders j os b c e =
    omega (arith, longer-length (obey-grows j os (store_of b)).keys, ap (λ (s : Store). length s.keys) e, keys-count b, keys-count c)

-- safe before the last order, and at the end, is safe everywhere
module _ (b c : Book) (hc : sound c ≡ true) (j : Bool) (os front last : List Order) (split : os ≡ front ++ last) (few : length last ≤ 1)
    (ends : obey j os (store_of b) ≡ store_of c) where
  pub stops-safe : ((n : ℕ) → let s = obey j (take n front) (store_of b) in (ps : List ℕ) → Grows ps s (store_of c) → s.spoilt ≡ false → Safe b c s)
      → (k : ℕ) → Safe b c (obey j (take k os) (store_of b))
  unfolding store_of
  stops-safe f k = go (take-late front last k few)
    where
      S : List Order → Store
      S l = obey j l (store_of b)

      ps : List ℕ
      ps = locks_of (drop k os)

      behind : Grows ps (S (take k os)) (store_of c)
      behind = subst (Grows ps (S (take k os))) ends (rest-grows j os k (store_of b))

      sane : (S (take k os)).spoilt ≡ false
      sane = unspoilt-before j os k (store_of b) (ap (λ (s : Store). s.spoilt) ends)

      to : (l : List Order) → take k (front ++ last) ≡ l → take k os ≡ l
      to l e = ap (λ (l : List Order). take k l) split ∙ e

      go : (take k (front ++ last) ≡ front ++ last) ⊎ ((n : ℕ) × (take k (front ++ last) ≡ take n front)) → Safe b c (S (take k os))
      go (inl e) = subst (Safe b c) (sym (ap S (to (front ++ last) e ∙ sym split) ∙ ends)) (end-safe b c hc (more-folders j os b c ends))
      go (inr (n, e)) =
          subst (λ (l : List Order). Safe b c (S l)) (sym (to (take n front) e))
          (f n ps (subst (λ (l : List Order). Grows ps (S l) (store_of c)) (to (take n front) e) behind)
          (subst (λ (l : List Order). (S l).spoilt ≡ false) (to (take n front) e) sane))

-- ---- revokes and a grant: before the last order there are orders of the outer layer alone

module _ (b c : Book) (hb : sound b ≡ true) (hc : sound c ≡ true) (os front last : List Order) (split : os ≡ front ++ last) (few : length last ≤ 1)
    (ends : obey false os (store_of b) ≡ store_of c) (outer : Each Outer front) (w : Within b.outer c.outer) (fine : Through (Fine b c) front (store_of b)) where
  pub locks-safe : (k : ℕ) → Safe b c (obey false (take k os) (store_of b))
  locks-safe =
      stops-safe b c hc false os front last split few ends (λ n ps g z.
      let s : Store = obey false (take n front) (store_of b) in
      let (i, ks) = same_half false (take n front) (store_of b) (each_take Outer front n outer) in
      fine-safe b c hb hc s (stop-grows false n front (store_of b)) g ks z i w (through-take (Fine b c) front (store_of b) fine n))

-- at the start every lock is the old one
begins : (b c : Book) → Fine b c (store_of b)
unfolding store_of
begins b c r l = inl refl

-- the lists afterwards
lists-after : (q : Request) (b m : Book) → access m ≡ listed q (access b) → (i : ℕ) → (resource m i).list ≡ (resource (work q b).book i).list
lists-after q b m e i = sym (list_at m i) ∙ ap (λ (a : Access). get_or a.lists i 0) (e ∙ sym (work-access q b)) ∙ list_at (work q b).book i

-- ---- revokes, one after the other, on the way from b to c

listed-outer : (m : Book) (r l : ℕ) → (with_list m r l).outer ≡ m.outer
unfolding with_list with_resources
listed-outer m r l = refl

module _ (b c : Book) (u : ℕ) where
  -- a list changes nothing that the host has
  listed_at : (m : Book) → Standing m → (r l : ℕ) → at b c (with_list m r l) ≡ at b c m
  unfolding done obey inward store_of
  listed_at m st r l = ap (inward (store_of b).inner (store_of b).keys) (sym (with_list-told r l m st).obeys)

  revoke_all-within : (rs : List ℕ) (m : Book) → Within m.outer (revoke_all u rs m).book.outer
  unfolding revoke_all revoke lock_list ◌then◌ done with_list with_resources
  revoke_all-within [] m = within-self m.outer
  revoke_all-within (r ∷ rs) m =
      let m1 = with_list m r (revoked_list r u m) in
      within-still (lock-within r (resource m1 r).list m1) (revoke_all-within rs (lock r (resource m1 r).list m1).book)

  revoke_all-outer : (rs : List ℕ) (m : Book) → Each Outer (revoke_all u rs m).orders
  unfolding revoke_all revoke lock_list ◌then◌ done
  revoke_all-outer [] m = each_none Outer
  revoke_all-outer (r ∷ rs) m =
      let m1 = with_list m r (revoked_list r u m) in
      let d = lock r (resource m1 r).list m1 in
      each_both Outer d.orders (revoke_all u rs d.book).orders (lock-outer r (resource m1 r).list m1) (revoke_all-outer rs d.book)

  revokes-through : (rs : List ℕ) (m : Book) → Run u rs m → ((i : ℕ) → Memᴰ i rs → revoked_list i u m ≡ (resource c i).list)
      → Within (revoke_all u rs m).book.outer c.outer → Fine b c (at b c m) → Through (Fine b c) (revoke_all u rs m).orders (at b c m)
  unfolding revoke_all revoke lock_list ◌then◌ done Through
  revokes-through [] m k e w f = f
  revokes-through (r ∷ rs) m k e w f =
      through-append (Fine b c) os (revoke_all u rs d).orders (at b c m) (subst (Through (Fine b c) os) same (lock-through b c m1 st1 r s l1 q es wd f1))
      (subst (Through (Fine b c) (revoke_all u rs d).orders) (sym (ap (obey false os) (sym same) ∙ lock-at b c m1 st1 r s l1 q es wd f1))
      (revokes-through rs d (run-next u r rs m k) (λ i n. ap (λ (x : ℕ). minus x (single u)) (revoke-other m r u i (other u r rs m k i n)) ∙ e i (Memᴰ.tail n)) w (lock-fine b c m1 st1 r s l1 q es wd f1)))
    where
      less : ℕ
      less = revoked_list r u m

      m1 : Book
      m1 = with_list m r less

      s : ℕ
      s = (resource m1 r).list

      os : List Order
      os = (lock r s m1).orders

      d : Book
      d = (lock r s m1).book

      st : Standing m
      st = kept-standing m k.kept

      same : at b c m1 ≡ at b c m
      same = listed_at m st r less

      l : r < length m.resources
      l = k.there r (Memᴰ.head refl)

      smaller : within less (resource m r).list ≡ true
      smaller = has_within less (resource m r).list (λ v e. (both (has (resource m r).list v) (not (has (single u) v)) (sym (has-minus (resource m r).list (single u) v) ∙ e)).0)

      k1 : Kept m1
      k1 = less-kept m k.kept r l less smaller (omega arith)

      st1 : Standing m1
      st1 = kept-standing m1 k1

      l1 : r < length m1.resources
      l1 = omega (arith, l, (with_list-told r less m st).count)

      q : Relocked m1 d r s
      q = lock-laws m1 k1 r l1 s (k1.list< (resource m1 r) (member m1 r l1)) (omega (arith, k.small, ap (λ (L : Layer). length L.sets) (listed-outer m r less)))

      es : s ≡ (resource c r).list
      es = ap (λ (x : Resource). x.list) (row_listed m r less l) ∙ e r (Memᴰ.head refl)

      wd : Within d.outer c.outer
      wd = within-still (revoke_all-within rs d) w

      f1 : Fine b c (at b c m1)
      f1 = subst (Fine b c) (sym same) f

-- safe at every stop
module _ (b c : Book) (hb : sound b ≡ true) (hc : sound c ≡ true) (u : ℕ) (rs : List ℕ) (k : Run u rs b) (outer : (revoke_all u rs b).book.outer ≡ c.outer)
    (lists : (i : ℕ) → Memᴰ i rs → revoked_list i u b ≡ (resource c i).list) (os : List Order) (given : os ≡ (revoke_all u rs b).orders)
    (ends : obey false os (store_of b) ≡ store_of c) where
  pub revokes-safe : (n : ℕ) → Safe b c (obey false (take n os) (store_of b))
  unfolding inward store_of
  revokes-safe =
      locks-safe b c hb hc os os [] (sym (append-nil os)) (omega arith) ends (subst (Each Outer) (sym given) (revoke_all-outer b c u rs b))
      (subst (Within b.outer) outer (revoke_all-within b c u rs b))
      (subst (λ (l : List Order). Through (Fine b c) l (store_of b)) (sym given) (revokes-through b c u rs b k lists (subst (λ (L : Layer). Within (revoke_all u rs b).book.outer L) outer (within-self (revoke_all u rs b).book.outer)) (begins b c)))

revoke-safe : (b : Book) → sound b ≡ true → (r u : ℕ) → Allowed (revokes r u) b → sound (revoke r u b).book ≡ true → obey false (revoke r u b).orders (store_of b) ≡ store_of (revoke r u b).book
    → (k : ℕ) → Safe b (revoke r u b).book (obey false (take k (revoke r u b).orders) (store_of b))
unfolding Allowed revoke_all ◌then◌ done
revoke-safe b hb r u (ul, l, on) hc ends =
    revokes-safe b (revoke r u b).book hb hc u (r ∷ []) (one-run u r b hb l on) refl (λ i m. subst (λ (j : ℕ). revoked_list j u b ≡ (resource (revoke r u b).book j).list) (sym (Memᴰ.eq_of_singleton m)) (sym (revoke-own b r u l))) (revoke r u b).orders (sym (append-nil (revoke r u b).orders)) ends

leave-safe : (b : Book) → sound b ≡ true → (u : ℕ) → sound (leave u b).book ≡ true → obey false (leave u b).orders (store_of b) ≡ store_of (leave u b).book
    → (k : ℕ) → Safe b (leave u b).book (obey false (take k (leave u b).orders) (store_of b))
unfolding leave ◌then◌ gone done with_leavers
leave-safe b hb u hc ends =
    revokes-safe b (leave u b).book hb hc u (naming u b) (naming-run u b hb) refl (λ i m. sym (leave-list u b i)) (leave u b).orders (leave-given u b) ends

-- ---- grant

let_in-few : (r u : ℕ) (b : Book) → length (let_in r u b).orders ≤ 1
let_in-few r u b = go (let_in-orders r u b)
  where
    go : ((let_in r u b).orders ≡ []) ⊎ ((let_in r u b).orders ≡ order 6 (vertex_for b.inner (single u)) (resource b r).inner ∷ []) → length (let_in r u b).orders ≤ 1
    go (inl e) = rw e (omega arith)
    go (inr e) = rw e (omega arith)

module _ (b : Book) (hb : sound b ≡ true) (r u : ℕ) (l : r < length b.resources) (un : u < b.users) where
  abbrev l' : ℕ
  l' = granted_list r u b

  abbrev g1 : Book
  g1 = with_list b r l'

  abbrev g2 : Book
  g2 = let_in_book r u b

  abbrev ns : List ℕ
  ns = grouped [] (neighbours r g2)

  abbrev g3 : Book
  g3 = locked_book r u b

  abbrev gc : Book
  gc = (settle r g3).book

  st : Started b g2 r u
  st = grant-starts b hb r u l un

  p : Passed g2 g3 ns
  p = run-passed b hb r u l un

  new2 : (i : ℕ) → (resource g2 i).list ≡ (resource gc i).list
  unfolding work grant ◌then◌ told_last lock_near done listed
  new2 i = lists-after (grants r u) b g2 (let_in-access r u g1 ∙ rw (list_at b r) (list-access b r l')) i

  near : Apart g2 ns
  near =
      record {
        kept = st.kept;
        rows = λ i m. let n = neighbour-in-order r g2 m in (n.there, neighbour-open r g2 i n);
        room = omega (arith, room-for-all b hb r u l un, st.count, ap (λ (L : Layer). length L.sets) st.outer, grouped-fewer r g2 (omega (arith, st.count)));
      }

  -- neither a list nor the token changes the outer half
  at2 : at b gc g2 ≡ store_of b
  unfolding done obey inward store_of
  at2 =
      ap half (sym t.obeys)
      ∙ other_half false (let_in r u g1).orders (store_of g1) (let_in-inner r u g1) (ap (λ (s : Store). s.spoilt) t.obeys) (store_of b).inner (store_of b).keys
      ∙ ap half (sym w.obeys)
    where
      half : Store → Store
      half = inward (store_of b).inner (store_of b).keys

      w : Told b (done g1 [])
      w = with_list-told r l' b (kept-standing b (sound-kept b hb))

      t : Told g1 (let_in r u g1)
      t = let_in-told r u g1 w.stands (omega (arith, w.users)) (omega (arith, w.count))

  wide3 : Within g2.outer g3.outer
  wide3 = lock_all-within ns g2

  wide : Within b.outer gc.outer
  wide = subst (λ (L : Layer). Within L gc.outer) st.outer (within-still wide3 (settle-within r g3))

  at3 : obey false (lock_all ns g2).orders (at b gc g2) ≡ at b gc g3
  at3 =
      moved false (lock_all ns g2).orders (store_of b).inner (store_of b).keys (store_of g2) (lock_all-outer ns g2)
      ∙ ap (inward (store_of b).inner (store_of b).keys) (lock_all-told ns g2 (kept-standing g2 st.kept) (λ i m. (near.rows i m).0)).obeys

  neighbours-fine : Through (Fine b gc) (lock_all ns g2).orders (at b gc g2)
  neighbours-fine =
      run-through b gc ns g2 (kept-standing g2 st.kept) near (λ i m. new2 i) (settle-within r g3)
      (subst (Fine b gc) (sym at2) (begins b gc))

  folder-fine : Through (Fine b gc) (settle r g3).orders (at b gc g3)
  folder-fine =
      settle-through b gc r g3 (kept-standing g3 p.kept) p.kept (omega (arith, p.count, st.count))
      (omega (arith, p.outer≤, room-for-all b hb r u l un, ap (λ (L : Layer). length L.sets) st.outer, grouped-fewer r g2 (omega (arith, st.count)), st.count))
      (p.lists r ∙ new2 r) (within-self gc.outer) refl
      (subst (Fine b gc) at3 (through-end (Fine b gc) (lock_all ns g2).orders (at b gc g2) neighbours-fine))

  locks-fine : Through (Fine b gc) (lock_near r g2).orders (store_of b)
  unfolding lock_near ◌then◌
  locks-fine =
      subst (Through (Fine b gc) ((lock_all ns g2).orders ++ (settle r g3).orders)) at2
      (through-append (Fine b gc) (lock_all ns g2).orders (settle r g3).orders (at b gc g2) neighbours-fine
      (subst (Through (Fine b gc) (settle r g3).orders) (sym at3) folder-fine))

  pub grant-safe : sound (grant r u b).book ≡ true → obey false (grant r u b).orders (store_of b) ≡ store_of (grant r u b).book
      → (k : ℕ) → Safe b (grant r u b).book (obey false (take k (grant r u b).orders) (store_of b))
  unfolding grant ◌then◌ told_last lock_near done
  grant-safe hc ends =
      locks-safe b gc hb hc (front ++ last) front last refl (let_in-few r u g1) ends (lock_near-outer r g2) wide locks-fine
    where
      front : List Order
      front = (lock_all ns g2).orders ++ (settle r g3).orders

      last : List Order
      last = (let_in r u g1).orders

-- ---- join and insert: no lock of a folder that is there changes

module _ (b c : Book) (hb : sound b ≡ true) (hc : sound c ≡ true) (j : Bool) (os front last : List Order) (split : os ≡ front ++ last) (few : length last ≤ 1)
    (ends : obey j os (store_of b) ≡ store_of c) (free : (r : ℕ) → r < length b.resources → Memᴰ r (locks_of os) → ⊥) (keys : Each (λ o. o.kind ≢ 7) front) where
  lock-end : (r : ℕ) → r < length b.resources → (resource c r).outer ≡ (resource b r).outer
  unfolding store_of
  lock-end r l = ap (λ (s : Store). s.lock r) (sym ends) ∙ (obey-grows j os (store_of b)).lock r (free r l)

  -- the orders in front lock nothing else
  front-free : (r : ℕ) → r < length b.resources → Memᴰ r (locks_of front) → ⊥
  front-free r l m = free r l (subst (λ (is : List ℕ). Memᴰ r is) (sym (ap locks_of split ∙ locks-append front last)) (Memᴰ.append_left (locks_of last) m))

  lock-on-way : (n r : ℕ) → r < length b.resources → (obey j (take n front) (store_of b)).lock r ≡ (resource b r).outer
  unfolding store_of
  lock-on-way n r l = (stop-grows j n front (store_of b)).lock r (front-free r l)

  pub adds-safe : (k : ℕ) → Safe b c (obey j (take k os) (store_of b))
  adds-safe =
      stops-safe b c hc j os front last split few ends (λ n ps g z.
      still-safe b c hb hc (obey j (take n front) (store_of b)) (stop-grows j n front (store_of b)) g
      (obey-keys j (take n front) (store_of b) (each_take (λ o. o.kind ≢ 7) front n keys)) z
      (λ r l. (lock-on-way n r l, lock-on-way n r l ∙ sym (lock-end r l))))

pub join-safe : (b : Book) → sound b ≡ true → sound (join b).book ≡ true → obey true (join b).orders (store_of b) ≡ store_of (join b).book
    → (k : ℕ) → Safe b (join b).book (obey true (take k (join b).orders) (store_of b))
unfolding join done locks_of lock_of
join-safe b hb hc ends =
    adds-safe b (join b).book hb hc true os os [] refl (omega arith) ends (λ r l m. Memᴰ.not-nil m)
    (each_both (λ o. o.kind ≢ 7) (i ∷ []) (o ∷ []) (each-one (λ o. o.kind ≢ 7) i (λ e. omega arith)) (each-one (λ o. o.kind ≢ 7) o (λ e. omega arith)))
  where
    i : Order
    i = order 4 (length b.inner.sets) 0

    o : Order
    o = order 1 (length b.outer.sets) 0

    os : List Order
    os = i ∷ o ∷ []

pub insert-safe : (l : ℕ) (b : Book) → sound b ≡ true → sound (insert l b).book ≡ true → obey false (insert l b).orders (store_of b) ≡ store_of (insert l b).book
    → (k : ℕ) → Safe b (insert l b).book (obey false (take k (insert l b).orders) (store_of b))
unfolding insert ◌then◌ told_last inner_vertex encrypt done with_inner with_resources
insert-safe l b hb hc ends =
    adds-safe b (insert l b).book hb hc false (vs ++ (ls ++ last)) (vs ++ ls) last (sym (append_assoc vs ls last)) (omega arith) ends (λ r m. free r m (insert-once l b))
    (each_both Plain vs ls (vertex-each Plain 4 5 b.inner l (λ x e. omega arith) (λ x y e. omega arith))
    (lock_new-each Plain n d (λ x e. omega arith) (λ x y e. omega arith) (λ x e. omega arith)))
  where
    Plain : Order → Type 0
    Plain o = o.kind ≢ 7

    n : ℕ
    n = length b.resources

    v : ℕ
    v = vertex_for b.inner l

    d : Book
    d = (encrypt l v (inner_vertex l b).book).book

    vs : List Order
    vs = vertex_orders 4 5 b.inner l

    ls : List Order
    ls = (lock_new n d).orders

    last : List Order
    last = order 7 n v ∷ []

    free : (r : ℕ) → r < n → AtMost n (vs ++ (ls ++ last)) → Memᴰ r (locks_of (vs ++ (ls ++ last))) → ⊥
    free r l (inl e) m = Memᴰ.not-nil (subst (λ (is : List ℕ). Memᴰ r is) e m)
    free r l (inr e) m = omega (arith, Memᴰ.eq_of_singleton (subst (λ (is : List ℕ). Memᴰ r is) e m))

-- ---- any request

work-safe : (q : Request) (b : Book) → sound b ≡ true → Allowed q b → sound (work q b).book ≡ true → (k : ℕ) → Safe b (work q b).book (stopped q b k (store_of b))
unfolding work Allowed stopped is_join
work-safe joins b h a hc = join-safe b h hc (obeyed-work joins b h a)
work-safe (inserts l) b h a hc = insert-safe l b h hc (obeyed-work (inserts l) b h a)
work-safe (grants r u) b h (un, l, g, out) hc = grant-safe b h r u l un hc (obeyed-work (grants r u) b h (un, l, g, out))
work-safe (revokes r u) b h a hc = revoke-safe b h r u a hc (obeyed-work (revokes r u) b h a)
work-safe (leaves u) b h a hc = leave-safe b h u hc (obeyed-work (leaves u) b h a)

-- of an accepted request: after any number of its orders
pub safe-at-every-stop : (t : Tables) (b : Book) (room : ℕ) (q : Request) → refusal t b room q ≡ option.none → (k : ℕ)
    → Safe b (work q b).book (stopped q b k (store_of b))
safe-at-every-stop t b room q h = let a = accepted t b room q h in work-safe q b a.sound' a.allowed (work-sound t b room q h)
