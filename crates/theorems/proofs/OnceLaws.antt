-- The resources that a request's orders lock: each at most once. RULES 6.2.
-- Assumes nothing.
use Prim.Native.Nat.{ℕ}
use mathlib.Core.Path.{◌≡◌, refl, sym, ap, ap₂, ◌∙◌}
use mathlib.Core.Bool.{Bool, true, false, ◌&&◌, not, cond}
use mathlib.Core.Logic.{◌⊎◌, inl, inr}
use mathlib.Core.List.Memᴰ
use mathlib.Core.List.{List, [], ◌∷◌, ◌++◌, map, append-nil, append_assoc, Memᴰ}
use lib.Dec.{eqb}
use lib.ListN.{length}
use borrow.Author.Tests.{ne_eqb}
use Rattle.sets.specs.Sets.{single}
use Rattle.rules.specs.Lists.{every, pairwise}
use Rattle.rules.specs.Layer.{Layer, cover, found, vertex_for}
use Rattle.rules.specs.declared.Order.{Order}
use Rattle.rules.specs.Book as book
use Rattle.rules.specs.Book.{Book, resource, has_outer, with_inner, with_list}
use Rattle.rules.specs.Holders.{holders_of}
use Rattle.rules.specs.Sound.{locked_for, unequal, sound}
use Rattle.rules.specs.Requests.{Done, done, order, ◌then◌, told_last, vertex_orders, inner_vertex, outer_vertex, relock, lock, unlock, lock_list, agrees, encrypt, lock_new, insert, let_in, settle, join, revoke, naming, revoke_all}
use Rattle.rules.specs.Refusals.{Request, joins, inserts, grants, revokes, leaves, work}
use Rattle.theorems.specs.Plan.{granted_list, revoked_list, waiters, lock_group}
use Rattle.sets.proofs.Laws.{both}
use Rattle.theorems.proofs.ListLaws.{pairwise_append, every-mem, mem-every}
use Rattle.theorems.proofs.LeaveLaws.{leave-given, naming-run}
use Rattle.theorems.proofs.RequestLaws.{Allowed}
use Rattle.theorems.proofs.NeighbourLaws.{let_in_book}
use Rattle.theorems.proofs.GroupLaws.{group-orders, grant-group, waiters-mem, waiters-apart}
use Rattle.theorems.proofs.HostLaws.{let_in-orders}
use Rattle.theorems.proofs.GrowLaws.{lock_of, locks_of}

pub locks-append : (os ps : List Order) → locks_of (os ++ ps) ≡ locks_of os ++ locks_of ps
unfolding locks_of
locks-append [] ps = refl
locks-append (o ∷ os) ps =
    ap (λ (l : List ℕ). lock_of o.kind o.a ++ l) (locks-append os ps) ∙ sym (append_assoc (lock_of o.kind o.a) (locks_of os) (locks_of ps))

-- orders of one kind, which is not 3
kind-locks : (k v : ℕ) (us : List ℕ) → eqb k 3 ≡ false → locks_of (map (λ u. order k u v) us) ≡ []
unfolding locks_of lock_of
kind-locks k v [] e = refl
kind-locks k v (u ∷ us) e = rw e (kind-locks k v us e)

relock-locks : (v : ℕ) (is : List ℕ) → locks_of (map (λ i. order 3 i v) is) ≡ is
unfolding locks_of lock_of
relock-locks v [] = refl
relock-locks v (i ∷ is) = ap (λ (l : List ℕ). i ∷ l) (relock-locks v is)

vertex-locks : (kv kt : ℕ) (L : Layer) (s : ℕ) → eqb kv 3 ≡ false → eqb kt 3 ≡ false → locks_of (vertex_orders kv kt L s) ≡ []
unfolding vertex_orders locks_of lock_of
vertex-locks kv kt L s e f = go (found L s)
  where
    go : (z : Bool) → locks_of (cond z [] (order kv (vertex_for L s) 0 ∷ map (λ v. order kt v (vertex_for L s)) (cover L s))) ≡ []
    go true = refl
    go false = rw e (kind-locks kt (vertex_for L s) (cover L s) f)

-- no lock, or one of r
abbrev pub AtMost : ℕ → List Order → Type 0
AtMost r os = (locks_of os ≡ []) ⊎ (locks_of os ≡ r ∷ [])

at-most-cond : (r : ℕ) (z : Bool) (d e : Done) → AtMost r d.orders → AtMost r e.orders → AtMost r (cond z d e).orders
at-most-cond r true d e p q = p
at-most-cond r false d e p q = q

lock-once : (r s : ℕ) (b : Book) → AtMost r (lock r s b).orders
unfolding lock ◌then◌ outer_vertex relock done locks_of lock_of
lock-once r s b =
    at-most-cond r (locked_for b (resource b r) s) (done b []) (outer_vertex s b then relock r (vertex_for b.outer s)) (inl refl)
    (inr
    (locks-append (vertex_orders 1 2 b.outer s) (order 3 r (vertex_for b.outer s) ∷ [])
    ∙ ap (λ (l : List ℕ). l ++ (r ∷ [])) (vertex-locks 1 2 b.outer s refl refl)))

lock_new-once : (r : ℕ) (b : Book) → AtMost r (lock_new r b).orders
unfolding lock_new lock_list done locks_of
lock_new-once r b = at-most-cond r (eqb b.mode 1 && agrees b r) (done b []) (lock_list r b) (inl refl) (lock-once r (resource b r).list b)

settle-once : (r : ℕ) (b : Book) → AtMost r (settle r b).orders
unfolding settle unlock lock_list relock done locks_of lock_of
settle-once r b =
    at-most-cond r (eqb b.mode 1 && agrees b r) (unlock r b) (lock_list r b)
    (at-most-cond r (has_outer (resource b r)) (relock r book.none b) (done b []) (inr refl) (inl refl))
    (lock-once r (resource b r).list b)

-- locks of is, then at most one of r, which is none of them
apart-once : (is : List ℕ) (r : ℕ) (os : List Order) → pairwise unequal is ≡ true → (Memᴰ r is → ⊥) → AtMost r os → pairwise unequal (is ++ locks_of os) ≡ true
unfolding unequal pairwise every
apart-once is r os h n (inl e) = ap (λ (l : List ℕ). pairwise unequal (is ++ l)) e ∙ ap (pairwise unequal) (append-nil is) ∙ h
apart-once is r os h n (inr e) =
    ap (λ (l : List ℕ). pairwise unequal (is ++ l)) e
    ∙ pairwise_append unequal is (r ∷ []) h refl (λ x y m k. ap not (ne_eqb x y (λ q. n (Memᴰ.cast (sym (q ∙ Memᴰ.eq_of_singleton k)) m))))

group-locks : (is : List ℕ) (s : ℕ) (b : Book) → locks_of (lock_group is s b).orders ≡ is
unfolding lock_group done locks_of
group-locks [] s b = refl
group-locks (i ∷ is) s b =
    ap locks_of (group-orders i is s b)
    ∙ locks-append (vertex_orders 1 2 b.outer s) (map (λ j. order 3 j (vertex_for b.outer s)) (i ∷ is))
    ∙ ap₂ (λ (x y : List ℕ). x ++ y) (vertex-locks 1 2 b.outer s refl refl) (relock-locks (vertex_for b.outer s) (i ∷ is))

let_in-locks : (r u : ℕ) (b : Book) → locks_of (let_in r u b).orders ≡ []
unfolding locks_of lock_of
let_in-locks r u b = go (let_in-orders r u b)
  where
    go : ((let_in r u b).orders ≡ []) ⊎ ((let_in r u b).orders ≡ order 6 (vertex_for b.inner (single u)) (resource b r).inner ∷ []) → locks_of (let_in r u b).orders ≡ []
    go (inl e) = ap locks_of e
    go (inr e) = ap locks_of e

-- orders without locks do not count
locks-before : (os ps : List Order) → locks_of os ≡ [] → locks_of (os ++ ps) ≡ locks_of ps
locks-before os ps e = locks-append os ps ∙ ap (λ (l : List ℕ). l ++ locks_of ps) e

locks-behind : (os ps : List Order) → locks_of ps ≡ [] → locks_of (os ++ ps) ≡ locks_of os
locks-behind os ps e = locks-append os ps ∙ ap (λ (l : List ℕ). locks_of os ++ l) e ∙ append-nil (locks_of os)

one-lock : (r : ℕ) (os ps : List Order) → locks_of ps ≡ locks_of os → AtMost r os → pairwise unequal (locks_of ps) ≡ true
unfolding pairwise
one-lock r os ps e a = ap (pairwise unequal) e ∙ apart-once [] r os refl (λ m. Memᴰ.not-nil m) a

-- the new one, if any
pub insert-once : (l : ℕ) (b : Book) → AtMost (length b.resources) (insert l b).orders
unfolding insert ◌then◌ told_last inner_vertex encrypt done with_inner locks_of lock_of
insert-once l b = go (lock_new-once r e)
  where
    r : ℕ
    r = length b.resources

    v : ℕ
    v = vertex_for b.inner l

    e : Book
    e = (encrypt l v (inner_vertex l b).book).book

    same : locks_of (vertex_orders 4 5 b.inner l ++ ((lock_new r e).orders ++ (order 7 r v ∷ []))) ≡ locks_of (lock_new r e).orders
    same =
        locks-before (vertex_orders 4 5 b.inner l) ((lock_new r e).orders ++ (order 7 r v ∷ [])) (vertex-locks 4 5 b.inner l refl refl)
        ∙ locks-behind (lock_new r e).orders (order 7 r v ∷ []) refl

    go : AtMost r (lock_new r e).orders → AtMost r (vertex_orders 4 5 b.inner l ++ ((lock_new r e).orders ++ (order 7 r v ∷ [])))
    go (inl p) = inl (same ∙ p)
    go (inr p) = inr (same ∙ p)

-- a revoke each: a lock of each at most
revokes-once : (u : ℕ) (rs : List ℕ) (b : Book) → pairwise unequal rs ≡ true
    → let is = locks_of (revoke_all u rs b).orders in (pairwise unequal is ≡ true) × ((i : ℕ) → Memᴰ i is → Memᴰ i rs)
unfolding revoke_all revoke lock_list ◌then◌ done locks_of pairwise
revokes-once u [] b h = (refl, λ i m. m)
revokes-once u (r ∷ rs) b h = go (lock-once r (resource c r).list c) (revokes-once u rs d (both (every (unequal r) rs) (pairwise unequal rs) h).1)
  where
    c : Book
    c = with_list b r (revoked_list r u b)

    d : Book
    d = (lock r (resource c r).list c).book

    os : List Order
    os = (lock r (resource c r).list c).orders

    ps : List Order
    ps = (revoke_all u rs d).orders

    go : AtMost r os → (pairwise unequal (locks_of ps) ≡ true) × ((i : ℕ) → Memᴰ i (locks_of ps) → Memᴰ i rs)
        → (pairwise unequal (locks_of (os ++ ps)) ≡ true) × ((i : ℕ) → Memᴰ i (locks_of (os ++ ps)) → Memᴰ i (r ∷ rs))
    go (inl e) (p, f) = rw (locks-before os ps e) (p, λ i m. Memᴰ.tail (f i m))
    go (inr e) (p, f) =
        rw (locks-append os ps, e) (
          rw p (ap (λ (z : Bool). z && true) (mem-every (unequal r) (locks_of ps) (λ i m. every-mem (unequal r) rs (both (every (unequal r) rs) (pairwise unequal rs) h).0 (f i m)))),
          λ i m. there i m,
        )
      where
        there : (i : ℕ) → Memᴰ i (r ∷ locks_of ps) → Memᴰ i (r ∷ rs)
        there i (Memᴰ.head q) = Memᴰ.head q
        there i (Memᴰ.tail m) = Memᴰ.tail (f i m)

pub work-once : (q : Request) (b : Book) → sound b ≡ true → Allowed q b → pairwise unequal (locks_of (work q b).orders) ≡ true
unfolding work Allowed join revoke ◌then◌ told_last done lock_list locks_of lock_of pairwise
work-once joins b s a = refl
work-once (inserts l) b s a = one-lock (length b.resources) (insert l b).orders (insert l b).orders refl (insert-once l b)
work-once (revokes r u) b s a =
    let c = with_list b r (revoked_list r u b) in
    one-lock r (lock_list r c).orders (work (revokes r u) b).orders refl (lock-once r (resource c r).list c)
work-once (leaves u) b s a =
    ap (λ (os : List Order). pairwise unequal (locks_of os)) (leave-given u b) ∙ (revokes-once u (naming u b) b (naming-run u b s).apart).0
work-once (grants r u) b s (ul, rl, g, n) =
    let c = let_in_book r u b in
    let d = lock_group (waiters b r u) (holders_of b r) c in
    ap (λ (x : Done). pairwise unequal (locks_of x.orders)) (grant-group b s r u rl ul)
    ∙ ap (pairwise unequal)
    (locks-behind (d.orders ++ (settle r d.book).orders) (let_in r u (with_list b r (granted_list r u b))).orders (let_in-locks r u (with_list b r (granted_list r u b)))
    ∙ locks-append d.orders (settle r d.book).orders
    ∙ ap (λ (l : List ℕ). l ++ locks_of (settle r d.book).orders) (group-locks (waiters b r u) (holders_of b r) c))
    ∙ apart-once (waiters b r u) r (settle r d.book).orders (waiters-apart b r u) (λ m. (waiters-mem b r u m).1.other refl) (settle-once r d.book)
