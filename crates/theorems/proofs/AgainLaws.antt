-- A host that goes on: it may stop and start again, each time from the first order, and leaves what is there as it is. It then has what it would have if it
-- had obeyed the orders, as far as it ever came, once each. RULES 6.7.
-- Assumes nothing.
use Prim.Native.Nat.{ℕ, zero, suc, ◌≤◌, ◌<◌, max}
use mathlib.Core.Path.{◌≡◌, refl, sym, ap, ap₂, ◌∙◌, subst}
use mathlib.Core.Bool.{Bool, true, false, ◌&&◌, not, cond, true≢false, false≢true}
use mathlib.Core.List.{List, [], ◌∷◌, ◌++◌, Memᴰ}
use mathlib.Core.Option.{none}
use native.Mathlib.Nat.{max-zero, zero-max, suc-max-suc}
use native.Mathlib.Omega.{arith}
use lib.Dec.{eqb, ltb}
use lib.ListN.{length, get_or, take, length-append}
use lib.Seq.{append_snoc, get_or-append_seam, take_all, take-length, take-nil}
use borrow.Author.Tests.{eqb-true, eq-eqb, ltb-true, lt-ltb, not-true}
use Rattle.sets.proofs.Laws.{both}
use Rattle.rules.specs.Lists.{every, pairwise}
use Rattle.rules.specs.Layer.{token}
use Rattle.rules.specs.declared.Token.{Token}
use Rattle.rules.specs.declared.Order.{Order}
use Rattle.rules.specs.Book.{Book}
use Rattle.rules.specs.Bytes.{Tables}
use Rattle.rules.specs.Sound.{other_row, unequal}
use Rattle.rules.specs.Refusals.{Request, work, refusal}
use Rattle.rules.specs.Host.{Graph, Store, has_key, has_token, add_key, add_token, put_inner, put_outer, put_keys, put_lock, can_obey, made, obeyed, obey, is_there, again, obey_again, restarted, most, is_join, graph_of, store_of}
use Rattle.rules.specs.Stops.{Safe, stopped}
use Rattle.theorems.proofs.ListLaws.{every-mem, mem-every, mem-some, pairwise-parts}
use Rattle.theorems.proofs.TestedLaws.{same}
use Rattle.theorems.proofs.ChainLaws.{same_row}
use Rattle.theorems.proofs.RequestLaws.{Accepted, accepted, work-laws}
use Rattle.theorems.proofs.HostLaws.{obeyed-can, can-first, obeyed-work}
use Rattle.theorems.proofs.GrowLaws.{Longer, put-there, lock_of, locks_of, Extends, Grows, stop-grows}
use Rattle.theorems.proofs.OnceLaws.{work-once}
use Rattle.theorems.proofs.SafeLaws.{safe-at-every-stop}

-- ---- an order that was obeyed is there from then on

eqb-turned : (a b : ℕ) → eqb a b ≡ eqb b a
eqb-turned a b = same (eqb a b) (eqb b a) (λ e. eq-eqb b a (sym (eqb-true a b e))) (λ e. eq-eqb a b (sym (eqb-true b a e)))

other-turned : (s t : Token) → other_row s t ≡ other_row t s
unfolding other_row
other-turned s t = rw (eqb-turned s.from t.from, eqb-turned s.to t.to, eqb-turned s.kind t.kind)

key-there : (j : Bool) (v : ℕ) (g h : Graph) → Extends (add_key j v g) h → has_key h v ≡ true
unfolding has_key add_key
key-there j v g h m = mem-some (eqb v) h.vertices (put-there g.vertices v m.vertices) (eq-eqb v v refl)

token-there : (t : Token) (g h : Graph) → Extends (add_token t g) h → has_token h t ≡ true
unfolding has_token add_token
token-there t g h m = go (every (other_row t) h.tokens) refl
  where
    go : (z : Bool) → every (other_row t) h.tokens ≡ z → not z ≡ true
    go true e =
        absurd (true≢false (sym (every-mem (other_row t) h.tokens e (put-there g.tokens t m.tokens)) ∙ same_row t t refl refl refl))
    go false e = refl

-- all that stood before what was put at the end passed the test of pairs with it
put-apart : {A : Type 0} (p : A → A → Bool) (xs ys : List A) (x : A) → Longer (xs ++ (x ∷ [])) ys → pairwise p ys ≡ true → {y : A} → Memᴰ y xs → p y x ≡ true
put-apart p xs ys x l h {y} m =
    (pairwise-parts p xs (x ∷ l.more) (ap (pairwise p) (sym (append_snoc xs x l.more) ∙ sym l.is) ∙ h)).1 y x m (Memᴰ.head refl)

-- where no two tokens are alike, it was not there before
token-new : (t : Token) (g h : Graph) → Extends (add_token t g) h → pairwise other_row h.tokens ≡ true → has_token g t ≡ false
unfolding has_token add_token
token-new t g h m d =
    ap not (mem-every (other_row t) g.tokens (λ x n. other-turned t x ∙ put-apart other_row g.tokens h.tokens t m.tokens d n))

lock-there : (r v : ℕ) (rs : List ℕ) (s t : Store) → Grows rs (put_lock (λ i. cond (eqb i r) v (s.lock i)) s) t → (Memᴰ r rs → ⊥) → eqb (t.lock r) v ≡ true
unfolding put_lock
lock-there r v rs s t w n = eq-eqb (t.lock r) v (w.lock r n ∙ ap (λ (z : Bool). cond z v (s.lock r)) (eq-eqb r r refl))

folder-there : (r v : ℕ) (ks ls : List ℕ) → eqb r (length ks) ≡ true → Longer (ks ++ (v ∷ [])) ls → (ltb r (length ls) && eqb (get_or ls r 0) v) ≡ true
folder-there r v ks ls e p =
    let zs = p.more in
    let q : ks ++ (v ∷ zs) ≡ ls = sym (append_snoc ks v zs) ∙ sym p.is in
    ap₂ (λ (x y : Bool). x && y)
    (lt-ltb r (length ls) (omega (arith, eqb-true r (length ks) e, ap length q, length-append ks (v ∷ zs))))
    (eq-eqb (get_or ls r 0) v (ap₂ (λ (l : List ℕ) (i : ℕ). get_or l i 0) (sym q) (eqb-true r (length ks) e) ∙ get_or-append_seam ks v zs 0))

-- t: any later state, in which no order has locked the resource anew
stays : (j : Bool) (k x y : ℕ) (rs : List ℕ) (s t : Store) → can_obey k x y s ≡ true → Grows rs (made j k x y s) t → ((r : ℕ) → Memᴰ r (lock_of k x) → Memᴰ r rs → ⊥)
    → is_there k x y t ≡ true
unfolding can_obey made is_there put_inner put_outer put_keys lock_of
stays j zero x y rs s t c w n = absurd (false≢true c)
stays j (suc zero) x y rs s t c w n = key-there j x s.outer t.outer w.outer
stays j (suc (suc zero)) x y rs s t c w n = token-there (token x y 0) s.outer t.outer w.outer
stays j (suc (suc (suc zero))) x y rs s t c w n = lock-there x y rs s t w (n x (Memᴰ.head refl))
stays j (suc (suc (suc (suc zero)))) x y rs s t c w n = key-there j x s.inner t.inner w.inner
stays j (suc (suc (suc (suc (suc zero))))) x y rs s t c w n = token-there (token x y 0) s.inner t.inner w.inner
stays j (suc (suc (suc (suc (suc (suc zero)))))) x y rs s t c w n = token-there (token x y 1) s.inner t.inner w.inner
stays j (suc (suc (suc (suc (suc (suc (suc zero))))))) x y rs s t c w n =
    folder-there x y s.keys t.keys (both (eqb x (length s.keys)) (has_key s.inner y) c).0 w.keys
stays j (suc (suc (suc (suc (suc (suc (suc (suc k)))))))) x y rs s t c w n = absurd (false≢true c)

-- ---- an order whose turn comes for the first time is not there, but for a lock that is as it asks already

-- no two tokens of one layer are alike
record Apart (t : Store) : Type 0 where
  pub inner : pairwise other_row t.inner.tokens ≡ true
  pub outer : pairwise other_row t.outer.tokens ≡ true

no-key : (z : ℕ) (g : Graph) (v : ℕ) → (eqb z 0 && not (has_key g v)) ≡ true → has_key g v ≡ true → ⊥
no-key z g v c h = true≢false (sym h ∙ not-true (has_key g v) (both (eqb z 0) (not (has_key g v)) c).1)

relocked : (r v : ℕ) (s : Store) → eqb (s.lock r) v ≡ true → put_lock (λ i. cond (eqb i r) v (s.lock i)) s ≡ s
unfolding put_lock
relocked r v s e = ap (λ (f : ℕ → ℕ). put_lock f s) (λ j i. at i (eqb i r) refl j)
  where
    at : (i : ℕ) (z : Bool) → eqb i r ≡ z → cond z v (s.lock i) ≡ s.lock i
    at i true p = sym (eqb-true (s.lock r) v e) ∙ ap s.lock (sym (eqb-true i r p))
    at i false p = refl

-- t: the state in the end
nothing-new : (j : Bool) (k x y : ℕ) (rs : List ℕ) (s t : Store) → can_obey k x y s ≡ true → Grows rs (made j k x y s) t → Apart t → is_there k x y s ≡ true
    → made j k x y s ≡ s
unfolding can_obey made is_there put_inner put_outer put_keys
nothing-new j zero x y rs s t c w d h = absurd (false≢true h)
nothing-new j (suc zero) x y rs s t c w d h = absurd (no-key y s.outer x c h)
nothing-new j (suc (suc zero)) x y rs s t c w d h =
    absurd (true≢false (sym h ∙ token-new (token x y 0) s.outer t.outer w.outer d.outer))
nothing-new j (suc (suc (suc zero))) x y rs s t c w d h = relocked x y s h
nothing-new j (suc (suc (suc (suc zero)))) x y rs s t c w d h = absurd (no-key y s.inner x c h)
nothing-new j (suc (suc (suc (suc (suc zero))))) x y rs s t c w d h =
    absurd (true≢false (sym h ∙ token-new (token x y 0) s.inner t.inner w.inner d.inner))
nothing-new j (suc (suc (suc (suc (suc (suc zero)))))) x y rs s t c w d h =
    absurd (true≢false (sym h ∙ token-new (token x y 1) s.inner t.inner w.inner d.inner))
nothing-new j (suc (suc (suc (suc (suc (suc (suc zero))))))) x y rs s t c w d h =
    let l : x < length s.keys = ltb-true x (length s.keys) (both (ltb x (length s.keys)) (eqb (get_or s.keys x 0) y) h).0 in
    absurd (omega (arith, eqb-true x (length s.keys) (both (eqb x (length s.keys)) (has_key s.inner y) c).0))
nothing-new j (suc (suc (suc (suc (suc (suc (suc (suc k)))))))) x y rs s t c w d h = absurd (false≢true h)

-- ---- any orders: none spoils the store, no two tokens are alike in the end, and no resource is locked twice

record Steady (j : Bool) (os : List Order) (s : Store) : Type 0 where
  pub unspoilt : (obey j os s).spoilt ≡ false
  pub apart : Apart (obey j os s)
  pub once : pairwise unequal (locks_of os) ≡ true

module _ (j : Bool) (o : Order) (os : List Order) (s : Store) (h : Steady j (o ∷ os) s) where
  can : can_obey o.kind o.a o.b s ≡ true
  can = can-first j o os s h.unspoilt

  once-parts : (pairwise unequal (locks_of os) ≡ true)
      × ((x y : ℕ) → Memᴰ x (lock_of o.kind o.a) → Memᴰ y (locks_of os) → unequal x y ≡ true)
  unfolding locks_of
  once-parts = pairwise-parts unequal (lock_of o.kind o.a) (locks_of os) h.once

  next : Steady j os (obeyed j o s)
  unfolding obey
  next = record { unspoilt = h.unspoilt; apart = h.apart; once = once-parts.0 }

  -- the state k orders later
  abbrev later : ℕ → Store
  later k = obey j (take k os) (obeyed j o s)

  goes_on : (k : ℕ) → Grows (locks_of os) (made j o.kind o.a o.b s) (later k)
  goes_on k = subst (λ (t : Store). Grows (locks_of os) t (later k)) (obeyed-can j o s can) (stop-grows j k os (obeyed j o s))

  -- obeyed for the first time
  first : again j o s ≡ obeyed j o s
  unfolding again obey
  first = go (is_there o.kind o.a o.b s) refl
    where
      end : Apart (later (length os))
      end = subst (λ (ps : List Order). Apart (obey j ps (obeyed j o s))) (sym (take-length os)) h.apart

      go : (z : Bool) → is_there o.kind o.a o.b s ≡ z → cond z s (obeyed j o s) ≡ obeyed j o s
      go true e =
          sym (obeyed-can j o s can ∙ nothing-new j o.kind o.a o.b (locks_of os) s (later (length os)) can (goes_on (length os)) end e)
      go false e = refl

  -- and later left as it is
  left : (k : ℕ) → again j o (later k) ≡ later k
  unfolding again unequal
  left k =
      ap (λ (z : Bool). cond z (later k) (obeyed j o (later k)))
      (stays j o.kind o.a o.b (locks_of os) s (later k) can (goes_on k) (λ r m n. true≢false (sym (once-parts.1 r r m n) ∙ ap not (eq-eqb r r refl))))

-- the first m orders, again, after the first k
again-most : (j : Bool) (os : List Order) (k m : ℕ) (s : Store) → Steady j os s → obey_again j (take m os) (obey j (take k os) s) ≡ obey j (take (max k m) os) s
unfolding obey_again obey
again-most j os k zero s h = ap (λ (n : ℕ). obey j (take n os) s) (sym (max-zero k))
again-most j [] k (suc m) s h = ap (λ (os : List Order). obey j os s) (take-nil k ∙ sym (take-nil (max k (suc m))))
again-most j (o ∷ os) zero (suc m) s h =
    rw (zero-max (suc m))
    (ap (obey_again j (take m os)) (first j o os s h) ∙ again-most j os zero m (obeyed j o s) (next j o os s h)
    ∙ ap (λ (n : ℕ). obey j (take n os) (obeyed j o s)) (zero-max m))
again-most j (o ∷ os) (suc k) (suc m) s h =
    rw (suc-max-suc k m) (ap (obey_again j (take m os)) (left j o os s h k) ∙ again-most j os k m (obeyed j o s) (next j o os s h))

-- any number of stops
restarted-from : (j : Bool) (os : List Order) (ns : List ℕ) (k : ℕ) (s : Store) → Steady j os s
    → restarted j os ns (obey j (take k os) s) ≡ obey j (take (max k (most ns)) os) s
unfolding restarted most
restarted-from j os [] k s h = ap (λ (n : ℕ). obey j (take n os) s) (sym (max-zero k))
restarted-from j os (n ∷ ns) k s h =
    let farthest : max (max k n) (most ns) ≡ max k (max n (most ns)) = omega arith in
    ap (restarted j os ns) (again-most j os k n s h) ∙ restarted-from j os ns (max k n) s h ∙ ap (λ (i : ℕ). obey j (take i os) s) farthest

restarted-most : (j : Bool) (os : List Order) (ns : List ℕ) (s : Store) → Steady j os s → restarted j os ns s ≡ obey j (take (most ns) os) s
unfolding obey
restarted-most j os ns s h = restarted-from j os ns 0 s h ∙ ap (λ (n : ℕ). obey j (take n os) s) (zero-max (most ns))

-- ---- any request that is accepted

module _ (t : Tables) (b : Book) (room : ℕ) (q : Request) (h : refusal t b room q ≡ none) where
  a : Accepted t b room q
  a = accepted t b room q h

  ends : obey (is_join q) (work q b).orders (store_of b) ≡ store_of (work q b).book
  ends = obeyed-work q b a.sound' a.allowed

  steady : Steady (is_join q) (work q b).orders (store_of b)
  unfolding store_of graph_of
  steady =
      let k = (work-laws q b a.sound' a.allowed).0 in
      record {
        unspoilt = ap (λ (s : Store). s.spoilt) ends;
        apart = record {
          inner = ap (λ (s : Store). pairwise other_row s.inner.tokens) ends ∙ k.inner.once;
          outer = ap (λ (s : Store). pairwise other_row s.outer.tokens) ends ∙ k.outer.once;
        };
        once = work-once q b a.sound' a.allowed;
      }

  -- RULES 6.7 "if k orders were obeyed before the stop, then after obeying m of them again the host has what it has after the larger of k and m orders without
  -- any stop"
  pub resumes : (k m : ℕ) → obey_again (is_join q) (take m (work q b).orders) (stopped q b k (store_of b)) ≡ stopped q b (max k m) (store_of b)
  unfolding stopped
  resumes k m = again-most (is_join q) (work q b).orders k m (store_of b) steady

  -- "also if it stops again": however often, it has what it has after the most orders that it obeyed at a time
  pub restarts : (ns : List ℕ) → restarted (is_join q) (work q b).orders ns (store_of b) ≡ stopped q b (most ns) (store_of b)
  unfolding stopped
  restarts ns = restarted-most (is_join q) (work q b).orders ns (store_of b) steady

  -- "and at the end it has the keys, tokens and locks of the new book"
  pub finishes : (ns : List ℕ) → length (work q b).orders ≤ most ns
      → restarted (is_join q) (work q b).orders ns (store_of b) ≡ store_of (work q b).book
  unfolding stopped
  finishes ns l = restarts ns ∙ ap (λ (os : List Order). obey (is_join q) os (store_of b)) (take_all (most ns) (work q b).orders l) ∙ ends

  -- "so 6.6 holds on the way, also if it stops again"
  pub safe-at-restarts : (ns : List ℕ) → Safe b (work q b).book (restarted (is_join q) (work q b).orders ns (store_of b))
  safe-at-restarts ns = subst (Safe b (work q b).book) (sym (restarts ns)) (safe-at-every-stop t b room q h (most ns))
