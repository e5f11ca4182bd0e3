-- A user taken off a list, as a revoke and a leave have it: the room for it, and that it is the revoke of the rules.
-- Assumes nothing.
use Prim.Native.Nat.{ℕ, ◌+◌, ◌*◌, ◌≤◌, ◌<◌}
use mathlib.Core.Path.{◌≡◌, sym, ap, ap₂, ◌∙◌, subst}
use mathlib.Core.Bool.{Bool, true, false}
use mathlib.Core.List.{List, []}
use native.Mathlib.Omega.{arith}
use lib.ListN.{length}
use Rattle.sets.specs.Sets.{has, single, minus}
use Rattle.sets.specs.Words.{people, bytes}
use Rattle.rules.specs.Layer.{Layer, with_vertex}
use Rattle.rules.specs.Book.{Book, Resource, resource, with_list, with_resources}
use Rattle.rules.specs.Sound.{locked, max_tokens}
use Rattle.rules.specs.Requests.{Done, done, ◌then◌, vertex_orders, revoke}
use Rattle.rules.specs.Refusals.{revokes, work}
use Rattle.rules.specs.Bytes.{Tables, tables, book_in, resources_in}
use Rattle.rules.specs.Calls.{change}
use Rattle.rules.specs.declared.Head.{Head}
use Rattle.theorems.specs.Plan.{lock_with, revoked_list}
use Rattle.theorems.proofs.ByteLaws.{TableBytes}
use Rattle.theorems.proofs.RequestLaws.{Allowed}
use Rattle.theorems.proofs.SoundLaws.{sound-locked}
use Rattle.theorems.proofs.CountLaws.{vertex_orders-count}
use Rattle.theorems.proofs.PlanLaws.{lock-orders, revoke-plan, revoke-outer, revoke-orders}
use Rattle.layer.specs.Laid.{outer_shape, layer_of, max_vertices}
use Rattle.plan.specs.Waiting.{row}
use Rattle.write.specs.Write.{Resources, listed}
use Rattle.apply.specs.Apply.{Works, strike_by, LockRoom, StrikeRoom, applied}
use Rattle.apply.specs.Apply.{Step}
use Rattle.apply.proofs.WorksLaws.{step, with_rows, works-none, works-next, works-list, works-change, outer-in, resources-in, users-in, row-in}
use Rattle.apply.proofs.ApplyLaws.{Known, lock-allowed}

-- ---- the step, as the code has it: x is the row of r, s its list without u

module _ {h : Head} {ov ot rs list : List ℕ} {r u at : ℕ} (room : StrikeRoom h ov ot rs list r u at) {x : Resource}
    (read : (iv it : List ℕ) → x ≡ resource (book_in h (tables iv it ov ot rs)) r) where
  pub strike-out : {z : Bool} (iv it : List ℕ) → z ≡ has x.list u → z ≡ false
      → let t = tables iv it ov ot rs in
      Works (strike_by r u (book_in h t)) h t list at (step h at) t list
  unfolding strike_by
  strike-out iv it q f = rw (ap (λ (y : Resource). has y.list u) (sym (read iv it)) ∙ sym q ∙ f) works-none

  module _ {s : ℕ} {rs' : List ℕ} (on : has x.list u ≡ true) (new : s ≡ minus x.list (single u))
      (put : Resources h.resources.0 (listed r s (resources_in h.resources.0 rs)) rs rs') where
    pub strike-lock : LockRoom h ov ot rs' list r s at
    strike-lock =
        let x-is : x ≡ row (resources_in h.resources.0 rs) r = read [] [] ∙ sym (row-in h (tables [] [] ov ot rs) r) in
        let k = room.lock (ap (λ (y : Resource). has y.list u) (sym x-is) ∙ on) in
        subst (λ (z : ℕ). LockRoom h ov ot rs' list r z at) (sym (new ∙ ap (λ (y : Resource). minus y.list (single u)) x-is))
        (record { fits = k.fits; rows = omega (arith, k.rows, put.same); there = k.there; orders = k.orders; tokens< = k.tokens< })

    pub strike-in : {a : Step} {w : Tables} {l' : List ℕ} (iv it : List ℕ)
        → let t = tables iv it ov ot rs in
        Works (lock_with r s (book_in h (with_rows t rs'))) h (with_rows t rs') list at a w l' → Works (strike_by r u (book_in h t)) h t list at a w l'
    unfolding strike_by
    strike-in {a} iv it w =
        let t = tables iv it ov ot rs in
        let c = book_in h (with_rows t rs') in
        let set : s ≡ revoked_list r u (book_in h t) = new ∙ ap (λ (y : Resource). minus y.list (single u)) (read iv it) in
        let full : a.at * 3 ≤ length list =
        omega (arith, w.next, lock-orders r s c, strike-lock.orders, ap (λ (L : Layer). length (vertex_orders 1 2 L s)) (outer-in h (with_rows t rs'))) in
        rw (ap (λ (y : Resource). has y.list u) (sym (read iv it)) ∙ on, ← set)
        (works-next (lock_with r s) full (works-list h t list at r s put) w)

-- ---- in a book where S8 holds of r

module _ (h : Head) (t : Tables) (list : List ℕ) (r u at : ℕ) (locks : locked (book_in h t) (resource (book_in h t) r) ≡ true) (there : r < h.resources.0) where
  abbrev c : Book
  c = book_in h t

  there-in : r < length c.resources
  there-in = omega (arith, resources-in h t)

  -- it is the revoke of the rules
  pub strike-is : has (resource c r).list u ≡ true → strike_by r u c ≡ revoke r u c
  unfolding strike_by ◌then◌ done with_list with_resources
  strike-is on = rw on (sym (revoke-plan c r u locks there-in on))

  pub strike-not : has (resource c r).list u ≡ false → strike_by r u c ≡ done c []
  unfolding strike_by
  strike-not off = rw off

  -- where what the revoke leaves is within the limits, there is room
  pub strike-allowed : max_vertices * bytes ≤ length t.outer_vertices → max_tokens * 4 ≤ length t.outer_tokens → h.resources.0 * (bytes + 4) ≤ length t.resources
      → u < people
      → (has (resource c r).list u ≡ true → (length (revoke r u c).book.outer.sets ≤ max_vertices) × (length (revoke r u c).book.outer.tokens ≤ max_tokens)
      × ((at + length (revoke r u c).orders) * 3 ≤ length list))
      → StrikeRoom h t.outer_vertices t.outer_tokens t.resources list r u at
  strike-allowed lv lt rows user fits =
      record {
        rows = rows;
        there = there;
        user = user;
        lock =
            λ e.
            let x-is : row (resources_in h.resources.0 t.resources) r ≡ resource c r = row-in h t r in
            let on : has (resource c r).list u ≡ true = ap (λ (y : Resource). has y.list u) (sym x-is) ∙ e in
            let (sets, tokens, orders) = fits on in
            let L = layer_of (outer_shape h) t.outer_tokens t.outer_vertices in
            let s = minus (row (resources_in h.resources.0 t.resources) r).list (single u) in
            let set : s ≡ revoked_list r u c = ap (λ (y : Resource). minus y.list (single u)) x-is in
            let made : with_vertex L s ≡ (revoke r u c).book.outer = ap₂ with_vertex (sym (outer-in h t)) set ∙ sym (revoke-outer c r u locks there-in on) in
            let told : length (revoke r u c).orders ≡ length (vertex_orders 1 2 L s) + 1 =
            revoke-orders c r u locks there-in on
            ∙ sym (ap₂ (λ (M : Layer) (z : ℕ). length (vertex_orders 1 2 M z) + 1) (sym (outer-in h t)) set
            ∙ ap (λ (n : ℕ). n + 1) (vertex_orders-count 1 2 c.outer (revoked_list r u c))) in
            lock-allowed lv lt
            (omega (arith, ap (λ (M : Layer). length M.sets) made))
            (omega (arith, ap (λ (M : Layer). length M.tokens) made))
            rows
            there
            (omega (arith, told));
      }

-- ---- revoke

module _ {h : Head} {t : Tables} {list : List ℕ} {r u : ℕ} (k : Known (revokes r u) h t list) where
  abbrev b : Book
  b = book_in h t

  revoke-allowed : (u < b.users) × (r < length b.resources) × (has (resource b r).list u ≡ true)
  unfolding Allowed
  revoke-allowed = k.allowed

  locks : locked b (resource b r) ≡ true
  locks = sound-locked b k.sound' r revoke-allowed.1

  there : r < h.resources.0
  there = omega (arith, revoke-allowed.1, resources-in h t)

  pub revoke-room : StrikeRoom h t.outer_vertices t.outer_tokens t.resources list r u 0
  unfolding work
  revoke-room =
      strike-allowed h t list r u 0 locks there k.long.outer_vertices k.long.outer_tokens k.sizes'.room.resources
      (omega (arith, revoke-allowed.0, users-in h t, k.sizes'.users≤))
      (λ on. (omega (arith, k.after.outer≤, k.after.users≤), k.after.outer_tokens≤, omega (arith, k.orders)))

  module _ {a : Step} {w : Tables} {l' : List ℕ} (done' : Works (strike_by r u b) h t list 0 a w l') where
    whole : Works (work (revokes r u) b) h t list 0 a w l'
    unfolding work
    whole = subst (λ (d : Done). Works d h t list 0 a w l') (strike-is h t list r u 0 locks there revoke-allowed.2) done'

    pub revoke-count : a.at < 65536
    revoke-count = omega (arith, whole.next, k.few)

    pub revoke-done : TableBytes w → applied (record { head = a.head; count = a.at }) w l' ≡ change (revokes r u) h t list
    revoke-done all = works-change (revokes r u) k.accepted' all whole
