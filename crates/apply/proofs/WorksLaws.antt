-- Pieces of work on the tables, one after the other, and the whole of a request's work as its call's change.
-- Assumes nothing.
use Rattle.std.specs.Prelude.{Ok}
use Prim.Native.Nat.{ℕ, ◌+◌, ◌*◌, ◌-◌, ◌≤◌, ◌<◌}
use mathlib.Core.Path.{◌≡◌, refl, sym, ap, ◌∙◌, subst}
use mathlib.Core.Bool.{Bool, true, false}
use mathlib.Core.Logic.{◌≢◌}
use mathlib.Core.List.{List, [], ◌∷◌, ◌++◌, append_assoc}
use native.Mathlib.Nat.{mul-le-mul_right, add-sub_of_le, add-zero, zero-add, zero-mul}
use native.Mathlib.Omega.{arith}
use lib.ListN.{length, take, drop, get_or, length-append, take-append-drop}
use lib.Seq.{drop-drop, length-take-le}
use borrow.Author.Tests.{eq-eqb, ne_eqb}
use Rattle.sets.specs.Words.{bytes}
use Rattle.rows.specs.Number.{stored, joined}
use Rattle.rows.proofs.Laws.{stored-add, stored-none, length-stored}
use Rattle.rules.specs.Layer.{Layer, vertex_for, with_vertex}
use Rattle.rules.specs.Book.{Book, Resource, none, resource, with_resources, with_list, with_lock}
use Rattle.rules.specs.Book as book
use Rattle.rules.specs.Requests.{Done, done, order, ◌then◌, vertex_orders, outer_vertex, inner_vertex, relock, encrypt}
use Rattle.rules.specs.Bytes.{Tables, tables, book_in, head_of, laid, Room, resources_in}
use Rattle.rules.specs.Refusals.{Request, work}
use Rattle.rules.specs.Calls.{change, change_by, changing, rows_lent, order_row, order_rows}
use Rattle.rules.specs.declared.Head.{Head}
use Rattle.rules.specs.declared.Order.{Order}
use Rattle.theorems.specs.Plan.{lock_with, unlock_by, settle_by}
use Rattle.theorems.proofs.CountLaws.{new_vertices-one, with_vertex-vertices, with_vertex-tokens}
use Rattle.theorems.proofs.ByteLaws.{TableBytes, head-in, sections-in, sound-room}
use Rattle.theorems.proofs.RequestLaws.{accepted-long, work-sound}
use Rattle.theorems.proofs.ServeLaws.{length-orders}
use Rattle.layer.specs.Laid.{inner_shape, outer_shape, layer_of}
use Rattle.layer.specs.Cover.{order_of}
use Rattle.layer.specs.Make.{VertexFor}
use Rattle.layer.specs.declared.walk.Shape.{Shape}
use Rattle.layer.specs.declared.make.Made.{Made}
use Rattle.layer.proofs.Read.{layer-sets, layer-tokens}
use Rattle.plan.specs.Waiting.{row}
use Rattle.plan.proofs.ReadyLaws.{resources-count, users-count, row_read}
use Rattle.write.specs.Write.{Resources, ResourceAdded, listed, locked}
use Rattle.apply.specs.Step.{with_inner, with_outer}
use Rattle.apply.specs.Apply.{Grown, Past, Rest, Works, LockRoom, Accepted, applied}
use Rattle.apply.specs.Apply.{Step}

-- ---- one after the other

pub orders-append : (xs ys : List Order) → order_rows (xs ++ ys) ≡ order_rows xs ++ order_rows ys
unfolding order_rows joined
orders-append [] ys = refl
orders-append (x ∷ xs) ys = ap (λ (z : List ℕ). order_row x ++ z) (orders-append xs ys) ∙ sym (append_assoc (order_row x) (order_rows xs) (order_rows ys))

-- bytes past more rows are past fewer
pub past_more : {n m w : ℕ} {t u : List ℕ} → n ≤ m → Past n w t u → Past m w t u
past_more {n} {m} {w} {t} {u} l p =
    let e : n * w + (m * w - n * w) ≡ m * w = add-sub_of_le (mul-le-mul_right w l) in
    let on : (x : List ℕ) → drop (m * w - n * w) (drop (n * w) x) ≡ drop (m * w) x = λ x. drop-drop (m * w - n * w) (n * w) x ∙ ap (λ (k : ℕ). drop k x) e in
    record { rest = sym (on u) ∙ ap (drop (m * w - n * w)) p.rest ∙ on t; same = p.same }

pub past-then : {n m w : ℕ} {t u v : List ℕ} → n ≤ m → Past n w t u → Past m w u v → Past m w t v
past-then l p q =
    let r = past_more l p in
    record { rest = q.rest ∙ r.rest; same = q.same ∙ r.same }

pub past-none : {n w : ℕ} {t : List ℕ} → Past n w t t
past-none = record { rest = refl; same = refl }

-- all five tables, one after the other
abbrev pub rest : {h : Head} {t u : Tables} → Past h.inner_vertices.0 bytes t.inner_vertices u.inner_vertices
    → Past h.inner_tokens.0 5 t.inner_tokens u.inner_tokens → Past h.outer_vertices.0 bytes t.outer_vertices u.outer_vertices
    → Past h.outer_tokens.0 4 t.outer_tokens u.outer_tokens → Past h.resources.0 (bytes + 4) t.resources u.resources → Rest h t u
rest iv it ov ot rs = record { inner_vertices = iv; inner_tokens = it; outer_vertices = ov; outer_tokens = ot; resources = rs }

pub works-none : {h : Head} {t : Tables} {list : List ℕ} {at : ℕ} → Works (done (book_in h t) []) h t list at (record { head = h; at = at }) t list
unfolding done order_rows joined
works-none {h} {t} {list} {at} =
    record {
      book = refl;
      grown = grind arith;
      past = rest past-none past-none past-none past-none past-none;
      orders = sym (stored-none (at * 3) list);
      next = omega arith;
    }

-- the second piece of work starts where the first ends
pub works-then : {d : Done} (f : Book → Done) {h : Head} {t u w : Tables} {list l1 l2 : List ℕ} {at : ℕ} {s z : Step} → z.at * 3 ≤ length list
    → Works d h t list at s u l1 → Works (f d.book) s.head u l1 s.at z w l2 → Works (d then f) h t list at z w l2
unfolding ◌then◌
works-then {d} f {h} {t} {u} {w} {list} {l1} {l2} {at} {s} {z} room p q =
    let e = f d.book in
    let g : Grown h s.head = p.grown in
    let k : Grown s.head z.head = q.grown in
    record {
      book = q.book;
      grown = grind arith;
      past =
          rest (past-then k.inner_vertices p.past.inner_vertices q.past.inner_vertices)
          (past-then k.inner_tokens p.past.inner_tokens q.past.inner_tokens)
          (past-then k.outer_vertices p.past.outer_vertices q.past.outer_vertices)
          (past-then k.outer_tokens p.past.outer_tokens q.past.outer_tokens)
          (past-then k.resources p.past.resources q.past.resources);
      orders =
          q.orders
          ∙ ap (stored (s.at * 3) (order_rows e.orders)) p.orders
          ∙ stored-add (at * 3) (order_rows d.orders) (order_rows e.orders) list (s.at * 3)
          (omega (arith, p.next, length-orders d.orders))
          (omega (arith, q.next, length-orders e.orders))
          ∙ ap (λ (x : List ℕ). stored (at * 3) x list) (sym (orders-append d.orders e.orders));
      next = omega (arith, p.next, q.next, length-append d.orders e.orders);
    }

-- and there it finds the book that the first left
pub works-next : {d : Done} (f : Book → Done) {h : Head} {t u w : Tables} {list l1 l2 : List ℕ} {at : ℕ} {s z : Step} → z.at * 3 ≤ length list
    → Works d h t list at s u l1 → Works (f (book_in s.head u)) s.head u l1 s.at z w l2 → Works (d then f) h t list at z w l2
works-next f {h} {t} {u} {w} {list} {l1} {l2} {at} {s} {z} room p q =
    works-then f room p (subst (λ (b : Book). Works (f b) s.head u l1 s.at z w l2) p.book q)

pub then-orders : (d : Done) (f : Book → Done) → length (d then f).orders ≡ length d.orders + length (f d.book).orders
unfolding ◌then◌
then-orders d f = length-append d.orders (f d.book).orders

-- the outer layer's tables and the resources as the code has them
pub works-same : {d : Done} {h : Head} {t : Tables} {iv it ov ot rs ov' ot' rs' list l' : List ℕ} {at : ℕ} {s : Step} → ov' ≡ ov → ot' ≡ ot → rs' ≡ rs
    → Works d h t list at s (tables iv it ov ot rs) l' → Works d h t list at s (tables iv it ov' ot' rs') l'
works-same v t r w = rw (v, t, r) w

-- a piece of work that the code names in its own terms
pub works-on : {d e : Done} (f : Book → Done) {h : Head} {t u w : Tables} {list l1 l2 : List ℕ} {at : ℕ} {s z : Step} → (at + length (d then f).orders) * 3 ≤ length list
    → Works d h t list at s u l1 → e ≡ f d.book → Works e s.head u l1 s.at z w l2 → Works (d then f) h t list at z w l2
works-on {d} {e} f {h} {t} {u} {w} {list} {l1} {l2} {at} {s} {z} room p same q =
    works-then f (omega (arith, p.next, q.next, ap (λ (x : Done). length x.orders) same, then-orders d f)) p
    (subst (λ (x : Done). Works x s.head u l1 s.at z w l2) same q)

-- ---- the pieces: rows of resources, and a vertex

abbrev pub step : Head → ℕ → Step
step h at = record { head = h; at = at }

-- the tables with the resources replaced, and with the two tables of a layer
abbrev pub with_rows : Tables → List ℕ → Tables
with_rows t rs = tables t.inner_vertices t.inner_tokens t.outer_vertices t.outer_tokens rs

abbrev pub with_inner_rows : Tables → List ℕ → List ℕ → Tables
with_inner_rows t iv it = tables iv it t.outer_vertices t.outer_tokens t.resources

abbrev pub with_outer_rows : Tables → List ℕ → List ℕ → Tables
with_outer_rows t ov ot = tables t.inner_vertices t.inner_tokens ov ot t.resources

-- resources replaced, with orders os
pub works-rows : (h : Head) (t : Tables) {rs list l' : List ℕ} (at : ℕ) {xs : List Resource} (os : List Order)
    → Resources h.resources.0 xs t.resources rs → l' ≡ stored (at * 3) (order_rows os) list
    → Works (done (with_resources (book_in h t) xs) os) h t list at (step h (at + length os)) (with_rows t rs) l'
unfolding done with_resources book_in
works-rows h t at os p o =
    record {
      book = ap (with_resources (book_in h t)) p.rows;
      grown = grind arith;
      past = rest past-none past-none past-none past-none (record { rest = p.rest; same = p.same });
      orders = o;
      next = refl;
    }

pub outer-in : (h : Head) (t : Tables) → (book_in h t).outer ≡ layer_of (outer_shape h) t.outer_tokens t.outer_vertices
unfolding book_in layer_of
outer-in h t = refl

pub inner-in : (h : Head) (t : Tables) → (book_in h t).inner ≡ layer_of (inner_shape h) t.inner_tokens t.inner_vertices
unfolding book_in layer_of
inner-in h t = refl

-- the book counts what the head says
pub resources-in : (h : Head) (t : Tables) → length (book_in h t).resources ≡ h.resources.0
resources-in h t = resources-count h t.inner_vertices t.inner_tokens t.outer_vertices t.outer_tokens t.resources

pub users-in : (h : Head) (t : Tables) → (book_in h t).users ≡ h.users.0
users-in h t = users-count h t.inner_vertices t.inner_tokens t.outer_vertices t.outer_tokens t.resources

-- and its row r is the one that lies there
pub row-in : (h : Head) (t : Tables) (r : ℕ) → row (resources_in h.resources.0 t.resources) r ≡ resource (book_in h t) r
row-in h t r = row_read h t.inner_vertices t.inner_tokens t.outer_vertices t.outer_tokens t.resources r refl

-- what finding or making a vertex leaves of its layer's two tables
record MadeIn (l k : Shape) (L : Layer) (ts vs ts' vs' : List ℕ) : Type 0 where
  layer : layer_of (record { width = l.width; tokens = k.tokens; vertices = k.vertices }) ts' vs' ≡ L
  vertices≤ : l.vertices ≤ k.vertices
  tokens≤ : l.tokens ≤ k.tokens
  vertices-past : Past k.vertices bytes vs vs'
  tokens-past : Past k.tokens l.width ts ts'

made_in : {l : Shape} {s at kv kt : ℕ} {ts vs os : List ℕ} {m : Made} {ts' vs' os' : List ℕ} → VertexFor l s at kv kt ts vs os m ts' vs' os'
    → MadeIn l m.shape (with_vertex (layer_of l ts vs) s) ts vs ts' vs'
made_in {l} {s} {ts = ts} {vs = vs} {m = m} {ts' = ts'} {vs' = vs'} p =
    let L = layer_of l ts vs in
    record {
      layer = ap (λ (w : ℕ). layer_of (record { width = w; tokens = m.shape.tokens; vertices = m.shape.vertices }) ts' vs') (sym p.width) ∙ p.layer;
      vertices≤ = omega (arith, p.vertices, with_vertex-vertices L s, layer-sets l ts vs);
      tokens≤ = omega (arith, p.tokens, with_vertex-tokens L s, layer-tokens l ts vs);
      vertices-past = record { rest = p.vertices-rest; same = p.vertices-length };
      tokens-past = record { rest = p.tokens-rest; same = p.tokens-length };
    }

-- find or make the vertex for s in a layer of shape l; k and u are the head and the tables with what that left in the layer's place
works-vertex : {l : Shape} {s at kv kt : ℕ} {ts vs list : List ℕ} {m : Made} {ts' vs' l' : List ℕ} {d : Done} {h k : Head} {t u : Tables} → VertexFor l s at kv kt ts vs list m ts' vs' l'
    → d.orders ≡ vertex_orders kv kt (layer_of l ts vs) s
    → (MadeIn l m.shape (with_vertex (layer_of l ts vs) s) ts vs ts' vs' → (book_in k u ≡ d.book) × Grown h k × Rest k t u)
    → Works d h t list at (step k m.at) u l'
works-vertex p os place =
    let (book, grown, past) = place (made_in p) in
    record { book = book; grown = grown; past = past; orders = rw os p.orders; next = rw os p.next }

-- in the outer layer
pub works-outer : (h : Head) (t : Tables) {ov ot list l' : List ℕ} {at s : ℕ} {m : Made} → VertexFor (outer_shape h) s at 1 2 t.outer_tokens t.outer_vertices list m ot ov l'
    → Works (outer_vertex s (book_in h t)) h t list at (step (with_outer h m.shape) m.at) (with_outer_rows t ov ot) l'
unfolding outer_vertex done book_in layer_of book.with_outer
works-outer h t p =
    works-vertex p refl (λ made. (
      ap (book.with_outer (book_in h t)) made.layer,
      record { inner_vertices = omega arith; inner_tokens = omega arith; outer_vertices = made.vertices≤; outer_tokens = made.tokens≤; resources = omega arith },
      rest past-none past-none made.vertices-past made.tokens-past past-none,
    ))

-- in the inner layer
pub works-inner : (h : Head) (t : Tables) {iv it list l' : List ℕ} {at s : ℕ} {m : Made} → VertexFor (inner_shape h) s at 4 5 t.inner_tokens t.inner_vertices list m it iv l'
    → Works (inner_vertex s (book_in h t)) h t list at (step (with_inner h m.shape) m.at) (with_inner_rows t iv it) l'
unfolding inner_vertex done book_in layer_of book.with_inner
works-inner h t p =
    works-vertex p refl (λ made. (
      ap (book.with_inner (book_in h t)) made.layer,
      record { inner_vertices = made.vertices≤; inner_tokens = made.tokens≤; outer_vertices = omega arith; outer_tokens = omega arith; resources = omega arith },
      rest made.vertices-past made.tokens-past past-none past-none past-none,
    ))

-- re-lock r with outer vertex v
pub works-relock : (h : Head) (t : Tables) {rs list l' : List ℕ} (at r v : ℕ) → Resources h.resources.0 (locked r v (resources_in h.resources.0 t.resources)) t.resources rs
    → l' ≡ stored (at * 3) (order_of 3 r v) list
    → Works (relock r v (book_in h t)) h t list at (step h (at + 1)) (with_rows t rs) l'
unfolding relock with_lock resource book_in order_rows order_row joined
works-relock h t at r v p o = works-rows h t at (order 3 r v ∷ []) p o

-- the list of r becomes l
pub works-list : (h : Head) (t : Tables) {rs : List ℕ} (list : List ℕ) (at r l : ℕ) → Resources h.resources.0 (listed r l (resources_in h.resources.0 t.resources)) t.resources rs
    → Works (done (with_list (book_in h t) r l) []) h t list at (step h at) (with_rows t rs) list
unfolding with_list resource book_in order_rows joined
works-list h t list at r l p = rw add-zero at (works-rows h t at [] p (sym (stored-none (at * 3) list)))

-- the head with n resources
abbrev pub counting : Head → ℕ → Head
counting h n = record h { resources = record { 0 = n } }

-- a new resource with list l and inner vertex v; its order is not told yet
pub works-row : (h : Head) (t : Tables) {rs : List ℕ} (list : List ℕ) (at l v : ℕ) → ResourceAdded h.resources.0 l v t.resources rs
    → Works (done (encrypt l v (book_in h t)).book []) h t list at (step (counting h (h.resources.0 + 1)) at) (with_rows t rs) list
unfolding encrypt done with_resources book_in order_rows joined
works-row h t list at l v p =
    record {
      book = ap (with_resources (book_in h t)) p.rows;
      grown = grind arith;
      past = rest past-none past-none past-none past-none (record { rest = p.rest; same = p.same });
      orders = sym (stored-none (at * 3) list);
      next = omega arith;
    }

-- an order, and nothing else
pub works-told : (h : Head) (t : Tables) {list l' : List ℕ} (at k x y : ℕ) → l' ≡ stored (at * 3) (order_of k x y) list
    → Works (done (book_in h t) (order k x y ∷ [])) h t list at (step h (at + 1)) t l'
unfolding done order_rows order_row joined
works-told h t at k x y e =
    record { book = refl; grown = grind arith; past = rest past-none past-none past-none past-none past-none; orders = e; next = refl }

-- the list keeps its length
pub works-length : {d : Done} {h : Head} {t u : Tables} {list l' : List ℕ} {at : ℕ} {s : Step} → (at + length d.orders) * 3 ≤ length list
    → Works d h t list at s u l' → length l' ≡ length list
works-length {d} {list = list} {at = at} room p =
    ap length p.orders ∙ length-stored (at * 3) (order_rows d.orders) list (omega (arith, length-orders d.orders))

-- ---- find or make the outer vertex for s, and re-lock r with it; l and k are the layer's shape and the head afterwards as the code has them

module _ {h : Head} {ov ot rs list : List ℕ} {r s at : ℕ} {l : Shape} {m : Made} {ov' ot' l1 : List ℕ} (room : LockRoom h ov ot rs list r s at)
    (shape : l ≡ outer_shape h) (made : VertexFor l s at 1 2 ot ov list m ot' ov' l1) where
  vertex-made : VertexFor (outer_shape h) s at 1 2 ot ov list m ot' ov' l1
  vertex-made = subst (λ (x : Shape). VertexFor x s at 1 2 ot ov list m ot' ov' l1) shape made

  pub lock-counts : (m.shape.vertices < 65536) × (m.shape.tokens < 65536)
  lock-counts =
      let L = layer_of (outer_shape h) ot ov in
      let p = vertex-made in (
        omega (arith, p.vertices, with_vertex-vertices L s, new_vertices-one L s, layer-sets (outer_shape h) ot ov, room.fits.vertices<),
        omega (arith, p.tokens, room.tokens<),
      )

  -- v is the vertex that the code re-locks r with; the inner layer's tables hold iv and it
  pub works-lock : {k : Head} {v : ℕ} {rs' l2 : List ℕ} (iv it : List ℕ) → Resources h.resources.0 (locked r v (resources_in h.resources.0 rs)) rs rs'
      → l2 ≡ stored (m.at * 3) (order_of 3 r v) l1 → v ≡ m.vertex → k ≡ with_outer h m.shape
      → let t = tables iv it ov ot rs in
      Works (lock_with r s (book_in h t)) h t list at (step k (m.at + 1)) (tables iv it ov' ot' rs') l2
  works-lock {k} {v} iv it q o is e =
      let t = tables iv it ov ot rs in
      let for : v ≡ vertex_for (book_in h t).outer s = is ∙ vertex-made.vertex ∙ ap (λ (L : Layer). vertex_for L s) (sym (outer-in h t)) in
      let room' : (m.at + 1) * 3 ≤ length list = omega (arith, vertex-made.next, room.orders) in
      let two = works-relock (with_outer h m.shape) (with_outer_rows t ov' ot') m.at r v q o in
      rw (e, ← for) (works-next (relock r v) room' (works-outer h t vertex-made) two)

-- ---- the lock of r, which had outer vertex v: taken off, or one for its list l

module _ {h : Head} {t : Tables} {list : List ℕ} {at v : ℕ} (r : ℕ) where
  pub unlock-none : v ≡ none → Works (unlock_by r v (book_in h t)) h t list at (step h at) t list
  unfolding unlock_by
  unlock-none e = rw (eq-eqb v none e) works-none

  pub unlock-relocked : {rs l' : List ℕ} → v ≢ none → Resources h.resources.0 (locked r none (resources_in h.resources.0 t.resources)) t.resources rs
      → l' ≡ stored (at * 3) (order_of 3 r none) list
      → Works (unlock_by r v (book_in h t)) h t list at (step h (at + 1)) (with_rows t rs) l'
  unfolding unlock_by
  unlock-relocked n p o = rw (ne_eqb v none n) (works-relock h t at r none p o)

module _ (b : Book) {h : Head} {t u : Tables} {list l' : List ℕ} {at : ℕ} (r v l : ℕ) {s : Step} {free : Bool} where
  pub settle-free : free ≡ true → Works (unlock_by r v b) h t list at s u l' → Works (settle_by free r v l b) h t list at s u l'
  unfolding settle_by
  settle-free e w = rw e w

  pub settle-lock : free ≡ false → Works (lock_with r l b) h t list at s u l' → Works (settle_by free r v l b) h t list at s u l'
  unfolding settle_by
  settle-lock e w = rw e w

-- ---- from the work of a request to its call's change

-- rows laid over the table that they were made in, by the bytes of the one after the work
stored_past : {n w : ℕ} {t u : List ℕ} → n * w ≤ length u → Past n w t u → stored 0 (take (n * w) u) t ≡ u
unfolding stored
stored_past {n} {w} {t} {u} l p =
    ap (λ (k : ℕ). take (n * w) u ++ drop k t) (zero-add (length (take (n * w) u)) ∙ length-take-le (n * w) u l)
    ∙ ap (λ (x : List ℕ). take (n * w) u ++ x) (sym p.rest)
    ∙ take-append-drop (n * w) u

-- the tables with the rows of the book that the work left
pub works-laid : (h : Head) (t u : Tables) → Room h u → TableBytes u → Rest h t u → laid (book_in h u) t ≡ u
unfolding laid
works-laid h t u r b p =
    ap (λ (ps : List (List ℕ)). lay ps) (sections-in h u r b)
    ∙ rw (
      stored_past r.inner_vertices p.inner_vertices,
      stored_past r.inner_tokens p.inner_tokens,
      stored_past r.outer_vertices p.outer_vertices,
      stored_past r.outer_tokens p.outer_tokens,
      stored_past r.resources p.resources,
    )
  where
    lay : List (List ℕ) → Tables
    lay ps =
        tables
        (stored 0 (get_or ps 0 []) t.inner_vertices)
        (stored 0 (get_or ps 1 []) t.inner_tokens)
        (stored 0 (get_or ps 2 []) t.outer_vertices)
        (stored 0 (get_or ps 3 []) t.outer_tokens)
        (stored 0 (get_or ps 4 []) t.resources)

-- tables of the same lengths have the same room
pub room-past : {h k : Head} {t u : Tables} → Rest k t u → Room h t → Room h u
room-past p r = grind arith

pub works-change : (q : Request) {h : Head} {t u : Tables} {list l' : List ℕ} {s : Step} → Accepted q h t list → TableBytes u
    → Works (work q (book_in h t)) h t list 0 s u l' → applied (record { head = s.head; count = s.at }) u l' ≡ change q h t list
unfolding change change_by
works-change q {h} {t} {u} {list} {l'} {s} ok b w =
    let d = work q (book_in h t) in
    let k : head_of d.book ≡ s.head = ap head_of (sym w.book) ∙ head-in s.head u in
    let r : Room s.head t = subst (λ (x : Head). Room x t) k (sound-room d.book t (work-sound t (book_in h t) (rows_lent list) q ok) (accepted-long t (book_in h t) (rows_lent list) q ok)) in
    let tables : u ≡ laid d.book t = sym (works-laid s.head t u (room-past w.past r) b w.past) ∙ ap (λ (x : Book). laid x t) w.book in
    let orders : l' ≡ stored 0 (order_rows d.orders) list = w.orders ∙ rw zero-mul in
    let count : s.at ≡ length d.orders = omega (arith, w.next) in
    rw ok (λ i. changing (Ok (record { head = sym k i; count = count i })) (tables i) (orders i))
