-- What a host has only grows: orders take no key, no token and no encrypted folder away, and change no lock but of the resources that they name. So whoever
-- derives a key goes on deriving it.
-- Assumes nothing.
use Prim.Native.Nat.{ℕ, zero, suc, ◌≤◌, ◌<◌}
use mathlib.Core.Path.{◌≡◌, refl, sym, ap, ◌∙◌, subst}
use mathlib.Core.Bool.{Bool, true, false, cond}
use mathlib.Core.Logic.{◌≢◌}
use mathlib.Core.List.Memᴰ
use mathlib.Core.List.{List, [], ◌∷◌, ◌++◌, append-nil, append_assoc, Memᴰ}
use native.Mathlib.Omega.{arith}
use lib.Dec.{eqb}
use lib.ListN.{length, get_or, take, drop, take-append-drop, length-append, get_or-append}
use lib.Seq.{take-length}
use borrow.Author.Tests.{ne_eqb}
use Rattle.rules.specs.Layer.{token}
use Rattle.rules.specs.Derivation.{Key, main}
use Rattle.rules.specs.Host.{Graph, Store, add_key, add_token, put_inner, put_outer, put_keys, put_lock, spoil, can_obey, made, obeyed, obey, HostKnows, start, hash, step, given}
use Rattle.rules.specs.declared.Token.{Token}
use Rattle.rules.specs.declared.Order.{Order}
use Rattle.theorems.proofs.HostLaws.{Each, obey-append}

-- ---- a list that others were put behind

pub record Longer {A : Type 0} (xs ys : List A) : Type 0 where
  pub more : List A
  pub is : ys ≡ xs ++ more

module _ {A : Type 0} where
  longer-self : (xs : List A) → Longer xs xs
  longer-self xs = record { more = []; is = sym (append-nil xs) }

  longer-by : (xs : List A) (x : A) → Longer xs (xs ++ (x ∷ []))
  longer-by xs x = record { more = x ∷ []; is = refl }

  longer-still : {xs ys zs : List A} → Longer xs ys → Longer ys zs → Longer xs zs
  longer-still {xs} p q =
      record { more = p.more ++ q.more; is = q.is ∙ ap (λ (l : List A). l ++ q.more) p.is ∙ append_assoc xs p.more q.more }

  longer-mem : {xs ys : List A} {x : A} → Longer xs ys → Memᴰ x xs → Memᴰ x ys
  longer-mem {x = x} p m = subst (λ (l : List A). Memᴰ x l) (sym p.is) (Memᴰ.append_left p.more m)

  pub longer-at : {xs ys : List A} → Longer xs ys → (i : ℕ) (d : A) → i < length xs → (i < length ys) × (get_or ys i d ≡ get_or xs i d)
  longer-at {xs} p i d l = (
    subst (λ (l : List A). i < length l) (sym p.is) (omega (arith, length-append xs p.more)),
    ap (λ (l : List A). get_or l i d) p.is ∙ get_or-append xs p.more d i l,
  )

  pub longer-length : {xs ys : List A} → Longer xs ys → length xs ≤ length ys
  longer-length {xs} p = omega (arith, ap (λ (l : List A). length l) p.is, length-append xs p.more)

  -- what was put at the end stays
  pub put-there : (xs : List A) (x : A) {ys : List A} → Longer (xs ++ (x ∷ [])) ys → Memᴰ x ys
  put-there xs x p = longer-mem p (Memᴰ.append_right xs (Memᴰ.head refl))

-- ---- the resources that orders lock

unfoldable pub lock_of : ℕ → ℕ → List ℕ
lock_of k r = cond (eqb k 3) (r ∷ []) []

unfoldable pub locks_of : List Order → List ℕ
locks_of [] = []
locks_of (o ∷ os) = lock_of o.kind o.a ++ locks_of os

pub no-lock : (k r i : ℕ) → k ≢ 3 → Memᴰ i (lock_of k r) → ⊥
unfolding lock_of
no-lock k r i n m = Memᴰ.not-nil (subst (λ (z : Bool). Memᴰ i (cond z (r ∷ []) [])) (ne_eqb k 3 n) m)

-- ---- graphs and stores

pub record Extends (g h : Graph) : Type 0 where
  pub vertices : Longer g.vertices h.vertices
  pub tokens : Longer g.tokens h.tokens
  pub handed : Longer g.handed h.handed

-- all that was made is there, and the locks are as they were, but those of the resources rs
pub record Grows (rs : List ℕ) (s t : Store) : Type 0 where
  pub inner : Extends s.inner t.inner
  pub outer : Extends s.outer t.outer
  pub keys : Longer s.keys t.keys
  pub lock : (r : ℕ) → (Memᴰ r rs → ⊥) → t.lock r ≡ s.lock r

same_graph : (g : Graph) → Extends g g
same_graph g = record { vertices = longer-self g.vertices; tokens = longer-self g.tokens; handed = longer-self g.handed }

key-extends : (j : Bool) (v : ℕ) (g : Graph) → Extends g (add_key j v g)
unfolding add_key
key-extends true v g = record { vertices = longer-by g.vertices v; tokens = longer-self g.tokens; handed = longer-by g.handed v }
key-extends false v g = record { vertices = longer-by g.vertices v; tokens = longer-self g.tokens; handed = longer-self g.handed }

token-extends : (t : Token) (g : Graph) → Extends g (add_token t g)
unfolding add_token
token-extends t g = record { vertices = longer-self g.vertices; tokens = longer-by g.tokens t; handed = longer-self g.handed }

extends-still : {f g h : Graph} → Extends f g → Extends g h → Extends f h
extends-still p q =
    record {
      vertices = longer-still p.vertices q.vertices;
      tokens = longer-still p.tokens q.tokens;
      handed = longer-still p.handed q.handed;
    }

grows-still : {ps rs : List ℕ} {s t w : Store} → Grows ps s t → Grows rs t w → Grows (ps ++ rs) s w
grows-still {ps} {rs} p q =
    record {
      inner = extends-still p.inner q.inner;
      outer = extends-still p.outer q.outer;
      keys = longer-still p.keys q.keys;
      lock = λ r n. q.lock r (λ m. n (Memᴰ.append_right ps m)) ∙ p.lock r (λ m. n (Memᴰ.append_left rs m));
    }

-- nothing done, spoilt or not
stay : (rs : List ℕ) (z : Bool) (s : Store)
    → Grows rs s (record { inner = s.inner; outer = s.outer; keys = s.keys; lock = s.lock; spoilt = z })
stay rs z s = record { inner = same_graph s.inner; outer = same_graph s.outer; keys = longer-self s.keys; lock = λ r n. refl }

inner-grows : (g : Graph) (s : Store) → Extends s.inner g → Grows [] s (put_inner g s)
unfolding put_inner
inner-grows g s m = record { inner = m; outer = same_graph s.outer; keys = longer-self s.keys; lock = λ r n. refl }

outer-grows : (g : Graph) (s : Store) → Extends s.outer g → Grows [] s (put_outer g s)
unfolding put_outer
outer-grows g s m = record { inner = same_graph s.inner; outer = m; keys = longer-self s.keys; lock = λ r n. refl }

-- ---- an order, and orders one after the other

made-grows : (j : Bool) (k x y : ℕ) (s : Store) → Grows (lock_of k x) s (made j k x y s)
unfolding made put_keys put_lock lock_of
made-grows j zero x y s = stay [] s.spoilt s
made-grows j (suc zero) x y s = outer-grows (add_key j x s.outer) s (key-extends j x s.outer)
made-grows j (suc (suc zero)) x y s = outer-grows (add_token (token x y 0) s.outer) s (token-extends (token x y 0) s.outer)
made-grows j (suc (suc (suc zero))) x y s =
    record {
      inner = same_graph s.inner;
      outer = same_graph s.outer;
      keys = longer-self s.keys;
      lock = λ r n. ap (λ (z : Bool). cond z y (s.lock r)) (ne_eqb r x (λ e. n (Memᴰ.head e)));
    }
made-grows j (suc (suc (suc (suc zero)))) x y s = inner-grows (add_key j x s.inner) s (key-extends j x s.inner)
made-grows j (suc (suc (suc (suc (suc zero))))) x y s = inner-grows (add_token (token x y 0) s.inner) s (token-extends (token x y 0) s.inner)
made-grows j (suc (suc (suc (suc (suc (suc zero)))))) x y s = inner-grows (add_token (token x y 1) s.inner) s (token-extends (token x y 1) s.inner)
made-grows j (suc (suc (suc (suc (suc (suc (suc zero))))))) x y s =
    record { inner = same_graph s.inner; outer = same_graph s.outer; keys = longer-by s.keys y; lock = λ r n. refl }
made-grows j (suc (suc (suc (suc (suc (suc (suc (suc k)))))))) x y s = stay (lock_of (suc (suc (suc (suc (suc (suc (suc (suc k)))))))) x) s.spoilt s

pub obeyed-grows : (j : Bool) (o : Order) (s : Store) → Grows (lock_of o.kind o.a) s (obeyed j o s)
unfolding obeyed spoil
obeyed-grows j o s = go (can_obey o.kind o.a o.b s)
  where
    go : (z : Bool) → Grows (lock_of o.kind o.a) s (cond z (made j o.kind o.a o.b s) (spoil s))
    go true = made-grows j o.kind o.a o.b s
    go false = stay (lock_of o.kind o.a) true s

-- wherever the host stops
pub stop-grows : (j : Bool) (k : ℕ) (os : List Order) (s : Store) → Grows (locks_of os) s (obey j (take k os) s)
unfolding obey locks_of
stop-grows j zero os s = stay (locks_of os) s.spoilt s
stop-grows j (suc k) [] s = stay [] s.spoilt s
stop-grows j (suc k) (o ∷ os) s = grows-still (obeyed-grows j o s) (stop-grows j k os (obeyed j o s))

pub obey-grows : (j : Bool) (os : List Order) (s : Store) → Grows (locks_of os) s (obey j os s)
obey-grows j os s = subst (λ (l : List Order). Grows (locks_of os) s (obey j l s)) (take-length os) (stop-grows j (length os) os s)

-- and goes on from there
pub rest-grows : (j : Bool) (os : List Order) (k : ℕ) (s : Store) → Grows (locks_of (drop k os)) (obey j (take k os) s) (obey j os s)
rest-grows j os k s =
    subst (Grows (locks_of (drop k os)) (obey j (take k os) s))
    (sym (obey-append j (take k os) (drop k os) s) ∙ ap (λ (l : List Order). obey j l s) (take-append-drop k os)) (obey-grows j (drop k os) (obey j (take k os) s))

-- ---- what is derived goes on being derived

pub knows_more : {g h : Graph} {u : ℕ} {k : Key} → Extends g h → HostKnows g u k → HostKnows h u k
knows_more {g} {h} {u} e (start l) = let (m, p) = longer-at e.handed u 0 l in subst (λ (v : ℕ). HostKnows h u (main v)) p (start m)
knows_more e (hash d) = hash (knows_more e d)
knows_more e (step m k d) = step (longer-mem e.tokens m) k (knows_more e d)
knows_more e (given m k d) = given (longer-mem e.tokens m) k (knows_more e d)

-- ---- orders that encrypt nothing

made-keys : (j : Bool) (k x y : ℕ) (s : Store) → k ≢ 7 → (made j k x y s).keys ≡ s.keys
unfolding made put_inner put_outer put_keys put_lock
made-keys j zero x y s n = refl
made-keys j (suc zero) x y s n = refl
made-keys j (suc (suc zero)) x y s n = refl
made-keys j (suc (suc (suc zero))) x y s n = refl
made-keys j (suc (suc (suc (suc zero)))) x y s n = refl
made-keys j (suc (suc (suc (suc (suc zero))))) x y s n = refl
made-keys j (suc (suc (suc (suc (suc (suc zero)))))) x y s n = refl
made-keys j (suc (suc (suc (suc (suc (suc (suc zero))))))) x y s n = absurd (n refl)
made-keys j (suc (suc (suc (suc (suc (suc (suc (suc k)))))))) x y s n = refl

obeyed-keys : (j : Bool) (o : Order) (s : Store) → o.kind ≢ 7 → (obeyed j o s).keys ≡ s.keys
unfolding obeyed spoil
obeyed-keys j o s n = go (can_obey o.kind o.a o.b s)
  where
    go : (z : Bool) → (cond z (made j o.kind o.a o.b s) (spoil s)).keys ≡ s.keys
    go true = made-keys j o.kind o.a o.b s n
    go false = refl

pub obey-keys : (j : Bool) (os : List Order) (s : Store) → Each (λ o. o.kind ≢ 7) os → (obey j os s).keys ≡ s.keys
unfolding obey
obey-keys j [] s f = refl
obey-keys j (o ∷ os) s f = obey-keys j os (obeyed j o s) (λ p m. f p (Memᴰ.tail m)) ∙ obeyed-keys j o s (f o (Memᴰ.head refl))
