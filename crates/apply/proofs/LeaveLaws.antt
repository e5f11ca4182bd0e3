-- A leave on the tables, resource by resource: the room that each revoke has, and that after the last the tables and the head are what the call's definition says.
-- Assumes nothing.
use Prim.Native.Nat.{ℕ, ◌+◌, ◌*◌, ◌≤◌, ◌<◌}
use mathlib.Core.Path.{◌≡◌, refl, sym, ap, ◌∙◌, subst}
use mathlib.Core.Bool.{Bool, true, false}
use mathlib.Core.List.{List, [], append-nil}
use native.Mathlib.Omega.{arith}
use lib.ListN.{length}
use Rattle.sets.specs.Sets.{has, single, union}
use Rattle.sets.specs.Words.{people, set_in}
use Rattle.sets.specs.declared.Users.{Users}
use Rattle.rows.specs.Number.{joined}
use Rattle.rows.proofs.Laws.{stored-none}
use Rattle.rules.specs.Book.{Book, resource, with_leavers}
use Rattle.rules.specs.Sound.{locked}
use Rattle.rules.specs.Requests.{Done, done, ◌then◌, revoke, naming, revoke_all, gone, leave}
use Rattle.rules.specs.Refusals.{leaves, work}
use Rattle.rules.specs.Bytes.{Tables, book_in, left_by}
use Rattle.rules.specs.Calls.{change, order_rows}
use Rattle.rules.specs.declared.Head.{Head}
use Rattle.rules.specs.declared.Order.{Order}
use Rattle.theorems.proofs.ByteLaws.{TableBytes}
use Rattle.theorems.proofs.RequestLaws.{Allowed}
use Rattle.theorems.proofs.LeaveLaws.{leave-given, run-laws, run-users, revoke_all-next, naming_to, leave_to, leave-to-all, to-run, to-names, to-fits}
use Rattle.plan.proofs.WaitLaws.{below_none, below-yes, below-no}
use Rattle.apply.specs.Apply.{Works, strike_by, StrikeRoom, applied}
use Rattle.apply.specs.Apply.{Step}
use Rattle.apply.proofs.WorksLaws.{step, rest, past-none, then-orders, works-none, works-next, works-on, works-length, works-change, resources-in, users-in}
use Rattle.apply.proofs.ApplyLaws.{Known}
use Rattle.apply.proofs.RevokeLaws.{strike-is, strike-not, strike-allowed}

-- u is put into the set; no order is given
works-gone : (h : Head) (t : Tables) (list : List ℕ) (at u : ℕ) {s : Users} → set_in s ≡ union (set_in h.leavers) (single u)
    → Works (gone u (book_in h t)) h t list at (step (left_by s h) at) t list
unfolding gone done with_leavers book_in order_rows joined
works-gone h t list at u e =
    record {
      book = rw e;
      grown = grind arith;
      past = rest past-none past-none past-none past-none past-none;
      orders = sym (stored-none (at * 3) list);
      next = omega arith;
    }

module _ {h : Head} {t : Tables} {list : List ℕ} {u : ℕ} (k : Known (leaves u) h t list) where
  abbrev b : Book
  b = book_in h t

  -- the revokes from the first i resources
  abbrev d : ℕ → Done
  d i = leave_to u b i

  told : length (leave u b).orders * 3 ≤ length list
  unfolding work
  told = k.orders

  pub leave-user : u < people
  unfolding Allowed
  leave-user = omega (arith, k.allowed.0, users-in h t, k.sizes'.users≤)

  -- before the first
  pub leave_none : Works (d 0) h t list 0 (step h 0) t list
  unfolding revoke_all
  leave_none = subst (λ (rs : List ℕ). Works (revoke_all u rs b) h t list 0 (step h 0) t list) (sym (below_none (λ r. has (resource b r).list u))) works-none

  module _ {a : Step} {t' : Tables} {l' : List ℕ} {i : ℕ} (w : Works (d i) h t list 0 a t' l') (l : i < h.resources.0) where
    -- the book in the tables now
    abbrev c : Book
    c = book_in a.head t'

    within : i ≤ length b.resources
    within = omega (arith, resources-in h t)

    next-within : i + 1 ≤ length b.resources
    next-within = omega (arith, resources-in h t)

    count : a.head.resources.0 ≡ h.resources.0
    count =
        sym (resources-in a.head t')
        ∙ ap (λ (e : Book). length e.resources) w.book
        ∙ (run-users u (naming_to u b i) b).1
        ∙ resources-in h t

    there : i < a.head.resources.0
    there = omega (arith, count)

    -- S8 of the next
    locks : locked c (resource c i) ≡ true
    locks =
        subst (λ (e : Book). locked e (resource e i) ≡ true) (sym w.book)
        ((run-laws u (naming_to u b i) b (to-run u b k.sound' i within)).1 i (omega (arith, (run-users u (naming_to u b i) b).1, resources-in h t)))

    -- its list is as it was
    names : has (resource c i).list u ≡ has (resource b i).list u
    names = ap (λ (e : Book). has (resource e i).list u) w.book ∙ ap (λ (s : ℕ). has s u) (to-names u b k.sound' i within)

    next-yes : has (resource c i).list u ≡ true → d (i + 1) ≡ d i then revoke i u
    next-yes on =
        ap (λ (rs : List ℕ). revoke_all u rs b) (below-yes (λ r. has (resource b r).list u) i refl (sym names ∙ on)) ∙ revoke_all-next u (naming_to u b i) i b

    next-no : has (resource c i).list u ≡ false → d (i + 1) ≡ d i
    next-no off = ap (λ (rs : List ℕ). revoke_all u rs b) (below-no (λ r. has (resource b r).list u) i refl (sym names ∙ off))

    fits_next : (length (d (i + 1)).book.outer.sets ≤ length (leave u b).book.outer.sets)
        × (length (d (i + 1)).book.outer.tokens ≤ length (leave u b).book.outer.tokens) × (length (d (i + 1)).orders ≤ length (leave u b).orders)
    fits_next = to-fits u b k.sound' (i + 1) next-within

    long : length l' ≡ length list
    long = works-length (omega (arith, told, (to-fits u b k.sound' i within).2)) w

    pub leave_room : StrikeRoom a.head t'.outer_vertices t'.outer_tokens t'.resources l' i u a.at
    unfolding work ◌then◌
    leave_room =
        strike-allowed a.head t' l' i u a.at locks there
        (omega (arith, k.long.outer_vertices, w.past.outer_vertices.same))
        (omega (arith, k.long.outer_tokens, w.past.outer_tokens.same))
        (omega (arith, count, w.past.resources.same, k.sizes'.room.resources))
        leave-user
        (λ on.
        let e : (revoke i u c).book ≡ (d (i + 1)).book = ap (λ (x : Book). (revoke i u x).book) w.book ∙ sym (ap (λ (x : Done). x.book) (next-yes on)) in
        let o : length (d (i + 1)).orders ≡ length (d i).orders + length (revoke i u c).orders =
        ap (λ (x : Done). length x.orders) (next-yes on)
        ∙ then-orders (d i) (revoke i u)
        ∙ ap (λ (x : Book). length (d i).orders + length (revoke i u x).orders) (sym w.book) in (
          omega (arith, ap (λ (x : Book). length x.outer.sets) e, fits_next.0, k.after.outer≤, k.after.users≤),
          omega (arith, ap (λ (x : Book). length x.outer.tokens) e, fits_next.1, k.after.outer_tokens≤),
          omega (arith, o, w.next, long, fits_next.2, told),
        ))

    then-nothing : d i then (λ e. done e []) ≡ d i
    unfolding ◌then◌ done
    then-nothing = ap (λ (os : List Order). record { book = (d i).book; orders = os }) (append-nil (d i).orders)

    pub leave-next : {z : Step} {t'' : Tables} {l'' : List ℕ} → Works (strike_by i u c) a.head t' l' a.at z t'' l''
        → Works (d (i + 1)) h t list 0 z t'' l''
    leave-next {z} {t''} {l''} q = go (has (resource c i).list u) refl
      where
        go : (y : Bool) → has (resource c i).list u ≡ y → Works (d (i + 1)) h t list 0 z t'' l''
        go true on =
            subst (λ (e : Done). Works e h t list 0 z t'' l'') (sym (next-yes on))
            (works-on (revoke i u) (omega (arith, told, fits_next.2, ap (λ (e : Done). length e.orders) (next-yes on))) w
            (strike-is a.head t' l' i u a.at locks there on ∙ ap (revoke i u) w.book) q)
        go false off =
            subst (λ (e : Done). Works e h t list 0 z t'' l'') (then-nothing ∙ sym (next-no off))
            (works-on (λ e. done e [])
            (omega (arith, told, fits_next.2, ap (λ (e : Done). length e.orders) (next-no off), ap (λ (e : Done). length e.orders) then-nothing)) w
            (strike-not a.head t' l' i u a.at locks there off ∙ ap (λ (e : Book). done e []) w.book) q)

  -- after the last
  module _ {a : Step} {t' : Tables} {l' : List ℕ} {i : ℕ} (w : Works (d i) h t list 0 a t' l') (e : i ≡ h.resources.0) where
    all : Works (d (length b.resources)) h t list 0 a t' l'
    all = subst (λ (n : ℕ). Works (d n) h t list 0 a t' l') (e ∙ sym (resources-in h t)) w

    given : (leave u b).orders ≡ (d (length b.resources)).orders
    unfolding naming
    given = leave-given u b

    pub leave-count : a.at < 65536
    unfolding work
    leave-count = omega (arith, all.next, ap length given, k.few)

    -- s is the set of leavers as the code has it
    module _ {s : Users} (left : set_in s ≡ union (set_in a.head.leavers) (single u)) where
      abbrev end : Step
      end = step (left_by s a.head) a.at

      whole : Works (work (leaves u) b) h t list 0 end t' l'
      unfolding work
      whole =
          subst (λ (x : Done). Works x h t list 0 end t' l') (sym (leave-to-all u b))
          (works-next (gone u) (omega (arith, all.next, told, ap length given)) all (works-gone a.head t' l' a.at u left))

      pub leave-done : TableBytes t' → applied (record { head = end.head; count = end.at }) t' l' ≡ change (leaves u) h t list
      leave-done bytes = works-change (leaves u) k.accepted' bytes whole
