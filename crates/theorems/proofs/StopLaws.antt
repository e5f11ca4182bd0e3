-- Wherever a host stops in a request's orders (RULES 6.6): the locks on the way, and what opens then. Laws for any request; SafeLaws has the requests.
-- Assumes nothing.
use Prim.Native.Nat.{ℕ, zero, suc, ◌≤◌, ◌<◌}
use mathlib.Core.Path.{◌≡◌, refl, sym, ap, ◌∙◌, subst}
use mathlib.Core.Bool.{Bool, true, false, ◌&&◌, not, cond}
use mathlib.Core.Logic.{◌⊎◌, inl, inr, ◌≢◌}
use mathlib.Core.List.{List, [], ◌∷◌, ◌++◌, Memᴰ}
use native.Mathlib.Nat.{le_refl}
use native.Mathlib.Omega.{arith}
use native.Mathlib.Decide.{ℕ_discrete}
use lib.Dec.{eqb}
use lib.ListN.{length, get_or, set, take}
use lib.Seq.{get_or-set_same, get_or-set_other}
use borrow.Author.Tests.{eqb-true, eqb-false, not-true, lt-ltb}
use Rattle.sets.specs.Sets.{has}
use Rattle.sets.proofs.Laws.{both}
use Rattle.rules.specs.Layer.{Layer, set_of, vertex_for}
use Rattle.rules.specs.Book.{Book, Resource, none, resource, has_outer, with_outer, with_lock, with_resources}
use Rattle.rules.specs.Derivation.{main, access}
use Rattle.rules.specs.Sound.{sound, locked_for}
use Rattle.rules.specs.Requests.{Done, done, order, ◌then◌, vertex_orders, outer_vertex, relock, lock, unlock, lock_list, lock_all, agrees, settle}
use Rattle.rules.specs.Host.{Store, obeyed, obey, store_of, HostKnows, HostOpens}
use Rattle.rules.specs.Stops.{old_list, Safe}
use Rattle.rules.specs.declared.Order.{Order}
use Rattle.theorems.proofs.LockLaws.{Place, Kept, Relocked, lock-laws}
use Rattle.theorems.proofs.RevokeLaws.{member}
use Rattle.theorems.proofs.GrantLaws.{relocked-lists}
use Rattle.theorems.proofs.NeighbourLaws.{Apart, apart-lock, apart_next}
use Rattle.theorems.proofs.GroupLaws.{with_vertex-set}
use Rattle.theorems.proofs.KnowsLaws.{knows-main}
use Rattle.theorems.proofs.SoundLaws.{sound-kept}
use Rattle.theorems.proofs.HostLaws.{Each, Outer, inward, moved, obey-append, Standing, vertex-longer, vertex-each, lock-outer, relock-told, lock-told, each-one}
use Rattle.theorems.proofs.GrowLaws.{longer-at, no-lock, Extends, Grows, obeyed-grows, obey-grows, knows_more}
use Rattle.theorems.proofs.HostOpensLaws.{host-knows, host-opens, keys-count}

-- ---- every state on the way through a list of orders, of a request that is no join

unfoldable pub Through : (Store → Type 0) → List Order → Store → Type 0
Through P [] s = P s
Through P (o ∷ os) s = P s × Through P os (obeyed false o s)

pub through-take : (P : Store → Type 0) (os : List Order) (s : Store) → Through P os s → (k : ℕ) → P (obey false (take k os) s)
unfolding Through obey
through-take P [] s h zero = h
through-take P [] s h (suc k) = h
through-take P (o ∷ os) s h zero = h.0
through-take P (o ∷ os) s h (suc k) = through-take P os (obeyed false o s) h.1 k

pub through-append : (P : Store → Type 0) (os ps : List Order) (s : Store) → Through P os s → Through P ps (obey false os s) → Through P (os ++ ps) s
unfolding Through obey
through-append P [] ps s h k = k
through-append P (o ∷ os) ps s h k = (h.0, through-append P os ps (obeyed false o s) h.1 k)

pub through-end : (P : Store → Type 0) (os : List Order) (s : Store) → Through P os s → P (obey false os s)
unfolding Through obey
through-end P [] s h = h
through-end P (o ∷ os) s h = through-end P os (obeyed false o s) h.1

-- one order more
pub through-one : (P : Store → Type 0) (os : List Order) (p : Order) (s : Store) → Through P os s → P (obey false (os ++ (p ∷ [])) s) → Through P (os ++ (p ∷ [])) s
unfolding Through obey
through-one P os p s h k =
    through-append P os (p ∷ []) s h (through-end P os s h, subst P (obey-append false os (p ∷ []) s) k)

-- ---- layers that have the vertices of another, under the same numbers

pub record Within (L K : Layer) : Type 0 where
  pub longer : length L.sets ≤ length K.sets
  pub same : (w : ℕ) → w < length L.sets → set_of K w ≡ set_of L w

pub within-self : (L : Layer) → Within L L
within-self L = record { longer = le_refl (length L.sets); same = λ w l. refl }

pub within-still : {L K M : Layer} → Within L K → Within K M → Within L M
within-still p q = record { longer = omega (arith, p.longer, q.longer); same = λ w l. q.same w (omega (arith, p.longer)) ∙ p.same w l }

cond-within : (L : Layer) (z : Bool) (d e : Done) → Within L d.book.outer → Within L e.book.outer → Within L (cond z d e).book.outer
cond-within L true d e p q = p
cond-within L false d e p q = q

pub lock-within : (r s : ℕ) (m : Book) → Within m.outer (lock r s m).book.outer
unfolding lock done ◌then◌ outer_vertex relock with_outer with_lock with_resources
lock-within r s m =
    cond-within m.outer (locked_for m (resource m r) s) (done m []) (outer_vertex s m then relock r (vertex_for m.outer s)) (within-self m.outer)
    (record { longer = vertex-longer m.outer s; same = with_vertex-set m.outer s })

pub lock_all-within : (rs : List ℕ) (m : Book) → Within m.outer (lock_all rs m).book.outer
unfolding lock_all lock_list ◌then◌ done
lock_all-within [] m = within-self m.outer
lock_all-within (r ∷ rs) m = within-still (lock-within r (resource m r).list m) (lock_all-within rs (lock r (resource m r).list m).book)

pub settle-within : (r : ℕ) (m : Book) → Within m.outer (settle r m).book.outer
unfolding settle unlock lock_list relock done with_lock with_resources
settle-within r m =
    cond-within m.outer (eqb m.mode 1 && agrees m r) (unlock r m) (lock_list r m)
    (cond-within m.outer (has_outer (resource m r)) (relock r none m) (done m []) (within-self m.outer) (within-self m.outer))
    (lock-within r (resource m r).list m)

-- ---- the locks on the way from b to c

module _ (b c : Book) where
  -- r has a lock for its new list, which everybody on that list opens; or none, as at the end
  abbrev pub Sealed : Store → ℕ → Type 0
  Sealed s r =
      ((s.lock r ≢ none) × (set_of c.outer (s.lock r) ≡ (resource c r).list)
      × ((u : ℕ) → has (resource c r).list u ≡ true → HostKnows s.outer u (main (s.lock r))))
      ⊎ ((s.lock r ≡ none) × ((resource c r).outer ≡ none))

  -- its old lock, or the new one
  abbrev pub Ward : Store → ℕ → Type 0
  Ward s r = (s.lock r ≡ (resource b r).outer) ⊎ Sealed s r

  abbrev pub Fine : Store → Type 0
  Fine s = (r : ℕ) → r < length b.resources → Ward s r

  ward-more : (s t : Store) (r : ℕ) → t.lock r ≡ s.lock r → Extends s.outer t.outer → Ward s r → Ward t r
  ward-more s t r e x (inl p) = inl (e ∙ p)
  ward-more s t r e x (inr (inl (n, p, f))) =
      inr
      (inl (
        λ q. n (sym e ∙ q),
        ap (set_of c.outer) e ∙ p,
        λ u h. subst (λ (v : ℕ). HostKnows t.outer u (main v)) (sym e) (knows_more x (f u h)),
      ))
  ward-more s t r e x (inr (inr (p, q))) = inr (inr (e ∙ p, q))

  -- orders that lock nothing
  plain-through : (os : List Order) → Each (λ o. o.kind ≢ 3) os → (s : Store) → Fine s → Through Fine os s
  unfolding Through
  plain-through [] f s h = h
  plain-through (o ∷ os) f s h = (
    h,
    plain-through os (λ p m. f p (Memᴰ.tail m)) (obeyed false o s) (λ r l.
        ward-more s (obeyed false o s) r ((obeyed-grows false o s).lock r (no-lock o.kind o.a r (f o (Memᴰ.head refl)))) (obeyed-grows false o s).outer (h r l)),
  )

  -- the host whose outer half is that of m
  abbrev pub at : Book → Store
  at m = inward (store_of b).inner (store_of b).keys (store_of m)

  -- locking i for its new list
  module _ (m : Book) (st : Standing m) (i l : ℕ) (il : i < length m.resources) (q : Relocked m (lock i l m).book i l) (e : l ≡ (resource c i).list)
      (w : Within (lock i l m).book.outer c.outer) (f : Fine (at m)) where
    abbrev m' : Book
    m' = (lock i l m).book

    pub lock-at : obey false (lock i l m).orders (at m) ≡ at m'
    lock-at =
        moved false (lock i l m).orders (store_of b).inner (store_of b).keys (store_of m) (lock-outer i l m)
        ∙ ap (inward (store_of b).inner (store_of b).keys) (lock-told i l m st il).obeys

    now : ((resource m' i).outer ≢ none) × (set_of m'.outer (resource m' i).outer ≡ l)
    unfolding locked_for has_outer
    now =
        let (x, y) = both (not (eqb (resource m' i).outer none)) (eqb (set_of m'.outer (resource m' i).outer) l) q.now in
        (eqb-false (resource m' i).outer none (not-true (eqb (resource m' i).outer none) x), eqb-true (set_of m'.outer (resource m' i).outer) l y)

    pub lock-fine : Fine (at m')
    unfolding inward store_of
    lock-fine r rl = go (ℕ_discrete r i)
      where
        v : ℕ
        v = (resource m' i).outer

        sealed : Sealed (at m') i
        sealed =
            inl (
              now.0,
              below (q.kept.place (resource m' i) (member m' i (omega (arith, q.count)))),
              λ u h. (host-knows q.kept.outer u (main v)).1 ((knows-main q.kept.outer u v).1 (ap (λ (x : ℕ). has x u) (now.1 ∙ e) ∙ h)),
            )
          where
            below : Place (length m'.outer.sets) (resource m' i) → set_of c.outer v ≡ (resource c i).list
            below (inl p) = absurd (now.0 p)
            below (inr p) = w.same v p ∙ now.1 ∙ e

        go : Dec (r ≡ i) → Ward (at m') r
        go (yes p) = inr (subst (Sealed (at m')) (sym p) sealed)
        go (no n) =
            ward-more (at m) (at m') r (ap (λ (x : Resource). x.outer) (q.others r n))
            (subst (λ (t : Store). Extends (at m).outer t.outer) lock-at (obey-grows false (lock i l m).orders (at m)).outer) (f r rl)

    pub lock-through : Through Fine (lock i l m).orders (at m)
    unfolding lock ◌then◌ outer_vertex relock done with_outer Through
    lock-through = go (locked_for m (resource m i) l) (subst Fine (sym lock-at) lock-fine)
      where
        x : ℕ
        x = vertex_for m.outer l

        vertex : Through Fine (vertex_orders 1 2 m.outer l) (at m)
        vertex = plain-through (vertex_orders 1 2 m.outer l) (vertex-each (λ o. o.kind ≢ 3) 1 2 m.outer l (λ v p. omega arith) (λ v y p. omega arith)) (at m) f

        go : (z : Bool) → Fine (obey false (cond z (done m []) (outer_vertex l m then relock i x)).orders (at m))
            → Through Fine (cond z (done m []) (outer_vertex l m then relock i x)).orders (at m)
        go true h = f
        go false h = through-one Fine (vertex_orders 1 2 m.outer l) (order 3 i x) (at m) vertex h

  -- a run of locks, each for the new list, which is what the book says
  pub run-through : (is : List ℕ) (m : Book) → Standing m → Apart m is → ((i : ℕ) → Memᴰ i is → (resource m i).list ≡ (resource c i).list)
      → Within (lock_all is m).book.outer c.outer → Fine (at m) → Through Fine (lock_all is m).orders (at m)
  unfolding lock_all lock_list ◌then◌ done Through
  run-through [] m st a e w f = f
  run-through (i ∷ is) m st a e w f =
      let l : ℕ = (resource m i).list in
      let d : Book = (lock i l m).book in
      let q : Relocked m d i l = apart-lock m i is a in
      let il : i < length m.resources = (a.rows i (Memᴰ.head refl)).0 in
      let ei : l ≡ (resource c i).list = e i (Memᴰ.head refl) in
      let wi : Within d.outer c.outer = within-still (lock_all-within is d) w in
      through-append Fine (lock i l m).orders (lock_all is d).orders (at m) (lock-through m st i l il q ei wi f)
      (subst (Through Fine (lock_all is d).orders) (sym (lock-at m st i l il q ei wi f))
      (run-through is d (lock-told i l m st il).stands (apart_next m i is a) (λ j n. (relocked-lists m d i l q j).0 ∙ e j (Memᴰ.tail n)) w
      (lock-fine m st i l il q ei wi f)))

  -- the folder itself, at the end of a grant's locks: it has the lock then that it is to have
  pub settle-through : (r : ℕ) (m : Book) → Standing m → Kept m → r < length m.resources → length m.outer.sets < none → (resource m r).list ≡ (resource c r).list
      → Within (settle r m).book.outer c.outer → (resource c r).outer ≡ (resource (settle r m).book r).outer → Fine (at m) → Through Fine (settle r m).orders (at m)
  unfolding settle unlock lock_list relock done obey inward store_of with_lock with_resources resource Through
  settle-through r m st k l small e w o f = go (eqb m.mode 1 && agrees m r) (has_outer (resource m r)) w o
    where
      s : ℕ
      s = (resource m r).list

      d : Bool → Bool → Done
      d z x = cond z (cond x (relock r none m) (done m [])) (lock r s m)

      bare : Resource
      bare = record { list = (resource m r).list; inner = (resource m r).inner; outer = none }

      zeros : Resource
      zeros = record { list = 0; inner = 0; outer = none }

      off : obeyed false (order 3 r none) (at m) ≡ at (with_lock m r none)
      off =
          moved false (order 3 r none ∷ []) (store_of b).inner (store_of b).keys (store_of m) (each-one Outer (order 3 r none) (inr (inr refl)))
          ∙ ap (inward (store_of b).inner (store_of b).keys) (relock-told r none m st l (inl refl)).obeys

      free : (resource c r).outer ≡ (resource (with_lock m r none) r).outer → Fine (at (with_lock m r none))
      free p i il = at_row (ℕ_discrete i r)
        where
          here : get_or (set m.resources r bare) r zeros ≡ bare
          here = get_or-set_same m.resources r bare zeros l

          at_row : Dec (i ≡ r) → Ward (at (with_lock m r none)) i
          at_row (yes q) =
              inr
              (inr (
                ap (λ (j : ℕ). (get_or (set m.resources r bare) j zeros).outer) q ∙ ap (λ (x : Resource). x.outer) here,
                ap (λ (j : ℕ). (resource c j).outer) q ∙ p ∙ ap (λ (x : Resource). x.outer) here,
              ))
          at_row (no n) =
              ward-more (at m) (at (with_lock m r none)) i (ap (λ (x : Resource). x.outer) (get_or-set_other m.resources r i bare zeros n))
              (subst (λ (t : Store). Extends (at m).outer t.outer) off (obeyed-grows false (order 3 r none) (at m)).outer) (f i il)

      go : (z x : Bool) → Within (d z x).book.outer c.outer → (resource c r).outer ≡ (resource (d z x).book r).outer → Through Fine (d z x).orders (at m)
      go true true w o = (f, subst Fine (sym off) (free o))
      go true false w o = f
      go false x w o =
          lock-through m st r s l (lock-laws m k r l s (k.list< (resource m r) (member m r l)) small) e w f

-- ---- what opens on the way

pub old-list : (b c : Book) (r u : ℕ) → r < length b.resources → has (old_list b c r) u ≡ has (resource b r).list u
unfolding old_list
old-list b c r u l = ap (λ (z : Bool). has (cond z (resource b r).list (resource c r).list) u) (lt-ltb r (length b.resources) l)

module _ (b c : Book) (hb : sound b ≡ true) (hc : sound c ≡ true) (s : Store) {rs ps : List ℕ} (before : Grows rs (store_of b) s)
    (behind : Grows ps s (store_of c)) where
  old_row : (r : ℕ) → r < length b.resources → get_or s.keys r 0 ≡ get_or (store_of b).keys r 0
  old_row r l = (longer-at before.keys r 0 (omega (arith, keys-count b))).1

  new_row : (r : ℕ) → r < length s.keys → (r < length c.resources) × (get_or (store_of c).keys r 0 ≡ get_or s.keys r 0)
  new_row r l = let (m, e) = longer-at behind.keys r 0 l in (omega (arith, keys-count c), e)

  -- whoever is on the old list has the inner key
  has_key : (r : ℕ) → r < length b.resources → (u : ℕ) → has (resource b r).list u ≡ true → HostKnows s.inner u (access (get_or s.keys r 0))
  has_key r l u h =
      subst (λ (v : ℕ). HostKnows s.inner u (access v)) (sym (old_row r l)) (knows_more before.inner ((host-opens b hb r l u).1 h).bel)

  old-opens : (r : ℕ) → r < length b.resources → s.lock r ≡ (resource b r).outer → (u : ℕ) → has (resource b r).list u ≡ true → HostOpens s u r
  unfolding store_of
  old-opens r l e u h =
      record {
        bel = has_key r l u h;
        sel = λ n. subst (λ (v : ℕ). HostKnows s.outer u (main v)) (sym e) (knows_more before.outer (((host-opens b hb r l u).1 h).sel (λ q. n (e ∙ q))));
      }

  -- where r has the lock that it has at the end
  new-only : (r : ℕ) → r < length s.keys → s.lock r ≡ (resource c r).outer → (u : ℕ) → HostOpens s u r → has (resource c r).list u ≡ true
  unfolding store_of
  new-only r l e u o =
      let (m, p) = new_row r l in
      (host-opens c hc r m u).0
      (record {
        bel = subst (λ (v : ℕ). HostKnows (store_of c).inner u (access v)) (sym p) (knows_more behind.inner o.bel);
        sel = λ n. subst (λ (v : ℕ). HostKnows (store_of c).outer u (main v)) e (knows_more behind.outer (o.sel (λ q. n (sym e ∙ q))));
      })

  -- nobody has an outer key whom the vertex does not name at the end
  outer-only : (v u : ℕ) → HostKnows s.outer u (main v) → has (set_of c.outer v) u ≡ true
  unfolding store_of
  outer-only v u k =
      let g = (sound-kept c hc).outer in
      (knows-main g u v).0 ((host-knows g u (main v)).0 (knows_more behind.outer k))

  sealed-both : (r : ℕ) → r < length b.resources → Sealed b c s r → (u : ℕ) → has (resource b r).list u ≡ true → has (resource c r).list u ≡ true → HostOpens s u r
  sealed-both r l (inl (n, e, f)) u x y = record { bel = has_key r l u x; sel = λ _. f u y }
  sealed-both r l (inr (e, p)) u x y = record { bel = has_key r l u x; sel = λ n. absurd (n e) }

  sealed-only : (r : ℕ) → r < length s.keys → Sealed b c s r → (u : ℕ) → HostOpens s u r → has (resource c r).list u ≡ true
  sealed-only r l (inl (n, e, f)) u o = ap (λ (x : ℕ). has x u) (sym e) ∙ outer-only (s.lock r) u (o.sel n)
  sealed-only r l (inr (e, p)) u o = new-only r l (e ∙ sym p) u o

  -- where r has its old lock and no inner key was given out yet
  old-only : (r : ℕ) → r < length b.resources → s.inner ≡ (store_of b).inner → Within b.outer c.outer → s.lock r ≡ (resource b r).outer → (u : ℕ) → HostOpens s u r
      → has (resource b r).list u ≡ true
  unfolding store_of
  old-only r l i w e u o =
      (host-opens b hb r l u).0
      (record {
        bel = subst (λ (v : ℕ). HostKnows (store_of b).inner u (access v)) (old_row r l) (rw i at o.bel);
        sel = λ n. locked n ((sound-kept b hb).place (resource b r) (member b r l));
      })
    where
      v : ℕ
      v = (resource b r).outer

      locked : v ≢ none → Place (length b.outer.sets) (resource b r) → HostKnows (store_of b).outer u (main v)
      locked n (inl p) = absurd (n p)
      locked n (inr p) =
          let g = (sound-kept b hb).outer in
          let k : HostKnows s.outer u (main v) = subst (λ (x : ℕ). HostKnows s.outer u (main x)) e (o.sel (λ q. n (sym e ∙ q))) in
          (host-knows g u (main v)).1 ((knows-main g u v).1 (ap (λ (x : ℕ). has x u) (sym (w.same v p)) ∙ outer-only v u k))

  module _ (same : s.keys ≡ (store_of b).keys) (unspoilt : s.spoilt ≡ false) where
    count : length b.resources ≤ length s.keys
    count = omega (arith, ap (λ (ks : List ℕ). length ks) same, keys-count b)

    row : (r : ℕ) → r < length s.keys → r < length b.resources
    row r l = omega (arith, ap (λ (ks : List ℕ). length ks) same, keys-count b)

    -- before the token of a grant, and all through a revoke
    pub fine-safe : s.inner ≡ (store_of b).inner → Within b.outer c.outer → Fine b c s → Safe b c s
    fine-safe i w f =
        record {
          opens-both = λ r l u x y. opens r (row r l) u (sym (old-list b c r u (row r l)) ∙ x) y (f r (row r l));
          opens-only = λ r l u o. only r l u o (f r (row r l));
          all_there = count;
          unspoilt = unspoilt;
        }
      where
        opens : (r : ℕ) → r < length b.resources → (u : ℕ) → has (resource b r).list u ≡ true → has (resource c r).list u ≡ true → Ward b c s r → HostOpens s u r
        opens r l u x y (inl e) = old-opens r l e u x
        opens r l u x y (inr z) = sealed-both r l z u x y

        only : (r : ℕ) → r < length s.keys → (u : ℕ) → HostOpens s u r → Ward b c s r → (has (old_list b c r) u ≡ true) ⊎ (has (resource c r).list u ≡ true)
        only r l u o (inl e) = inl (old-list b c r u (row r l) ∙ old-only r (row r l) i w e u o)
        only r l u o (inr z) = inr (sealed-only r l z u o)

    -- where no lock changes: a join, and an insert before its end
    pub still-safe : ((r : ℕ) → r < length b.resources → (s.lock r ≡ (resource b r).outer) × (s.lock r ≡ (resource c r).outer)) → Safe b c s
    still-safe f =
        record {
          opens-both = λ r l u x y. old-opens r (row r l) (f r (row r l)).0 u (sym (old-list b c r u (row r l)) ∙ x);
          opens-only = λ r l u o. inr (new-only r l (f r (row r l)).1 u o);
          all_there = count;
          unspoilt = unspoilt;
        }

-- at the end
pub end-safe : (b c : Book) → sound c ≡ true → length b.resources ≤ length c.resources → Safe b c (store_of c)
unfolding store_of
end-safe b c hc m =
    record {
      opens-both = λ r l u x y. (host-opens c hc r (omega (arith, keys-count c)) u).1 y;
      opens-only = λ r l u o. inr ((host-opens c hc r (omega (arith, keys-count c)) u).0 o);
      all_there = omega (arith, keys-count c);
      unspoilt = refl;
    }
