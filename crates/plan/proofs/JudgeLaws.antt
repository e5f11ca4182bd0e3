-- The plan of each request is what the table of refusals and the rules on unlimited tables give.
-- Assumes nothing.
use Rattle.std.specs.Prelude.{Result, Ok, Err}
use Prim.Native.Nat.{ℕ, suc, ◌+◌, ◌^◌, ◌≤◌, ◌<◌}
use mathlib.Core.Path.{◌≡◌, refl, sym, ap, ap₂, ◌∙◌, subst}
use mathlib.Core.Bool.{Bool, true, false, ◌&&◌, not, cond}
use mathlib.Core.List.{List, [], ◌∷◌, ◌++◌}
use mathlib.Core.Option.{Option, some, none}
use native.Mathlib.Omega.{arith}
use lib.Dec.{eqb, ltb}
use lib.ListN.{length, get_or, length-append}
use borrow.Author.Tests.{eq-eqb, ne_eqb, lt-ltb, le-ltb, le-leb, lt-leb, eqb-false}
use Rattle.sets.specs.Sets.{has, single, minus, apart}
use Rattle.sets.specs.Words.{set_in}
use Rattle.rules.specs.Lists.{keep, up_to}
use Rattle.rules.specs.Layer.{Layer, found, vertex_for, cover, with_vertex}
use Rattle.rules.specs.Book.{Book, Resource, resource, has_outer}
use Rattle.rules.specs.Book as book
use Rattle.rules.specs.Holders.{holders, holders_of}
use Rattle.rules.specs.Sound.{sound, max_users, max_resources, max_tokens, max_groups}
use Rattle.rules.specs.Requests.{Done, done, join, with_set, insert}
use Rattle.rules.specs.Bytes.{tables, book_in, resources_in}
use Rattle.rules.specs.Refusals.{Request, joins, inserts, grants, revokes, verdict, no_such, own, limits, work}
use Rattle.rules.specs.Runs.{access, listed}
use Rattle.rules.specs.declared.Head.{Head}
use Rattle.rules.specs.declared.Refusal.{Refusal}
use Rattle.rules.specs.declared.Refusal.TheVariants.{NoSuch, HasLeft, EmptyList, UsersFull, ResourcesFull, Listed, NotListed, ShortList}
use Rattle.theorems.specs.Plan.{new_vertices, new_tokens, insert_free, agreed, waits, waiters, if_any, granted_list, revoked_list}
use Rattle.theorems.proofs.SoundLaws.{sound-locked}
use Rattle.theorems.proofs.RequestLaws.{such, verdict-first, verdict-passed}
use Rattle.theorems.proofs.AccessLaws.{users-of, work-access}
use Rattle.theorems.proofs.CountLaws.{with_vertex-vertices, with_vertex-tokens}
use Rattle.theorems.proofs.NeighbourLaws.{none-waits, none-waits-full}
use Rattle.theorems.proofs.PlanLaws.{insert_agrees, insert-inner, insert-outer, insert-orders, insert-agrees, revoke-outer, revoke-inner, revoke-orders, grant-vertices, grant-tokens, grant-inner-tokens, grant-orders}
use Rattle.layer.specs.Laid.{no_resource}
use Rattle.layer.specs.Make.{sets_only}
use Rattle.layer.specs.declared.make.New.{New}
use Rattle.plan.specs.declared.Plan.{Plan}
use Rattle.plan.specs.declared.judge.After.{After}
use Rattle.plan.specs.declared.judge.Part.{Part}
use Rattle.plan.specs.Waiting.{waits_in, waiters_in, waiters_of}
use Rattle.plan.specs.Judge.{Ready, plan, plan_of, judged_by, judged, limited, holders_are, part, lock_part, settled_part, group_part, joint, after_of, grant_part, grant_plan}
use Rattle.plan.proofs.ReadyLaws.{book_of, Sizes, sizes, users-count, leavers-are, mode-count, resources-count, outer-count, inner-tokens-count, outer-tokens-count, inner-new, row_read, none-such, some-such}

-- ---- the verdict

-- one of the request's own
pub judged-no : (q : Request) (b : Book) (room : ℕ) {x : Refusal} → verdict (own q b) ≡ some x → Err x ≡ judged q b room
unfolding judged judged_by
judged-no q b room e = sym (ap (λ (o : Option Refusal). judged_by o (plan_of q b)) (verdict-first (own q b) (limits room (work q b)) e))

-- the counts that d leaves
pub record Leaves (d : Done) (a : After) : Type 0 where
  pub users : a.users ≡ d.book.users
  pub vertices : a.outer_vertices ≡ length d.book.outer.sets
  pub inner : a.inner_tokens ≡ length d.book.inner.tokens
  pub outer : a.outer_tokens ≡ length d.book.outer.tokens
  pub orders : a.orders ≡ length d.orders

-- none of the request's own
pub judged-limited : (q : Request) (b : Book) (room : ℕ) (a : After) (p : Plan) → verdict (own q b) ≡ none → Leaves (work q b) a → p ≡ plan_of q b
    → limited a room p ≡ judged q b room
unfolding limited judged limits
judged-limited q b room a p o w e =
    rw (verdict-passed (own q b) (limits room (work q b)) o, w.users, w.vertices, w.inner, w.outer, w.orders, e)

-- ---- the parts

settled_is : (free : Bool) (outer : ℕ) (L : Layer) (s : ℕ)
    → settled_part free outer L s
    ≡ part (cond free 0 (new_vertices L s)) (cond free 0 (new_tokens L s)) (cond free (cond (not (eqb outer book.none)) 1 0) (new_vertices L s + new_tokens L s + 1))
unfolding settled_part
settled_is true outer L s = refl
settled_is false outer L s = refl

group-is : (xs : List ℕ) (L : Layer) (s : ℕ)
    → group_part (length xs) L s ≡ part (if_any xs (new_vertices L s)) (if_any xs (new_tokens L s)) (if_any xs (new_vertices L s + new_tokens L s + length xs))
unfolding group_part
group-is [] L s = refl
group-is (i ∷ is) L s = rw (ne_eqb (length (i ∷ is)) 0 (λ e. omega arith))

-- a request that is not a join leaves the users as they are
pub same-users : (q : Request) (b : Book) → (listed q (access b)).users ≡ b.users → (work q b).book.users ≡ b.users
same-users q b e = users-of (work q b).book (listed q (access b)) (work-access q b) ∙ e

-- a vertex for s, where z does not spare it
lock-counts : (z : Bool) (L : Layer) (s : ℕ)
    → (length (cond z L (with_vertex L s)).sets ≡ length L.sets + cond z 0 (new_vertices L s))
    × (length (cond z L (with_vertex L s)).tokens ≡ length L.tokens + cond z 0 (new_tokens L s))
lock-counts true L s = (omega arith, omega arith)
lock-counts false L s = (with_vertex-vertices L s, with_vertex-tokens L s)

-- whether a new folder is locked, said before the request
pub insert-free : (l : ℕ) (b : Book) → sound b ≡ true → l < 2 ^ b.users → insert_agrees l b ≡ insert_free l b
unfolding insert_free
insert-free l b s lb = ap (λ (z : Bool). eqb b.mode 1 && z) (insert-agrees l b s lb)

module _ (h : Head) (iv it ov ot rs : List ℕ) where
  abbrev b : Book
  b = book_of h iv it ov ot rs

  abbrev sets : Layer
  sets = sets_only h.outer_vertices.0 ov

  -- parts counted on the sets alone
  lock-in : (s n : ℕ) → lock_part sets s n ≡ lock_part b.outer s n
  unfolding book_in new_vertices new_tokens found vertex_for cover
  lock-in s n = refl

  settled-in : (free : Bool) (outer s : ℕ) → settled_part free outer sets s ≡ settled_part free outer b.outer s
  unfolding settled_part
  settled-in free outer s = ap (cond free (part 0 0 (cond (not (eqb outer book.none)) 1 0))) (lock-in s 1)

  group-in : (n s : ℕ) → group_part n sets s ≡ group_part n b.outer s
  unfolding group_part
  group-in n s = ap (cond (eqb n 0) (part 0 0 0)) (lock-in s n)

  -- those that wait, found in the table; z: delta mode, y: u is a holder
  abbrev waiters_by : ℕ → Bool → Bool → List ℕ
  waiters_by r z y =
      keep (λ i. z && not y && not (eqb i r) && eqb (resource b i).inner (resource b r).inner && eqb (resource b i).list (holders_of b r)) (up_to (length b.resources))

  waiters-table : (r : ℕ) → waiters_in (resources_in h.resources.0 rs) r (resource b r).inner (holders_of b r) ≡ waiters_by r true false
  unfolding waiters_in waits_in book_in resource
  waiters-table r = refl

  waiters-book : (r u : ℕ) → waiters b r u ≡ waiters_by r (eqb h.mode.0 1) (has (holders_of b r) u)
  unfolding waiters waits book_in
  waiters-book r u = refl

  waiters-in : (r u : ℕ) → waiters_of h rs r (resource b r).inner (plan_of (grants r u) b) ≡ waiters b r u
  unfolding waiters_of plan_of
  waiters-in r u = go (eqb h.mode.0 1) refl (has (holders_of b r) u) refl
    where
      mode : b.mode ≡ h.mode.0
      mode = mode-count h iv it ov ot rs

      go : (z : Bool) → eqb h.mode.0 1 ≡ z → (y : Bool) → has (holders_of b r) u ≡ y
          → cond (z && not y) (waiters_in (resources_in h.resources.0 rs) r (resource b r).inner (holders_of b r)) [] ≡ waiters b r u
      go true m false o = waiters-table r ∙ sym (waiters-book r u ∙ ap₂ (waiters_by r) m o)
      go true m true o = sym (none-waits b r u o)
      go false m y o = sym (none-waits-full b r u (λ e. eqb-false h.mode.0 1 m (sym mode ∙ e)))

  -- ---- what is read in the tables is the book's

  free_in : (l : ℕ) → (eqb h.mode.0 1 && holders_are b.inner l) ≡ insert_free l b
  unfolding insert_free holders_are book_in
  free_in l = refl

  insert-plan-is : (l : ℕ) → plan (insert_free l b) false 0 ≡ plan_of (inserts l) b
  unfolding plan_of
  insert-plan-is l = refl

  grant-plan-is : (r u : ℕ) → grant_plan h.mode.0 (holders b.inner (resource b r).inner) (resource b r).list u ≡ plan_of (grants r u) b
  unfolding plan_of agreed holders_of book_in
  grant-plan-is r u = refl

  insert-passed : (l : ℕ) → l < 2 ^ h.users.0 → apart l (set_in h.leavers) ≡ true → (l ≡ 0 → ⊥) → h.resources.0 < max_resources → verdict (own (inserts l) b) ≡ none
  unfolding own verdict
  insert-passed l lb here some' few =
      rw (users-count h iv it ov ot rs, leavers-are h iv it ov ot rs, resources-count h iv it ov ot rs, lt-ltb l (2 ^ h.users.0) lb, here, ne_eqb l 0 some', lt-leb max_resources h.resources.0 few)

  module _ (ready : Ready h (tables iv it ov ot rs)) where
    abbrev s0 : sound b ≡ true
    s0 = ready.sound'

    insert-leaves : (l : ℕ) → l < 2 ^ h.users.0
        → Leaves (work (inserts l) b)
        (after_of h (new_tokens b.inner l) (new_vertices b.inner l + new_tokens b.inner l + 1) (settled_part (insert_free l b) book.none b.outer l))
    unfolding work listed access
    insert-leaves l lb =
        let free = insert_free l b in
        let agrees : insert_agrees l b ≡ free = insert-free l b s0 (rw users-count lb) in
        let is = settled_is free book.none b.outer l in
        let outer : (insert l b).book.outer ≡ cond free b.outer (with_vertex b.outer l) = insert-outer l b ∙ ap (λ (z : Bool). cond z b.outer (with_vertex b.outer l)) agrees in
        record {
          users = sym (same-users (inserts l) b refl ∙ users-count h iv it ov ot rs);
          vertices = rw is (omega (arith, ap (λ (L : Layer). length L.sets) outer, (lock-counts free b.outer l).0, outer-count h iv it ov ot rs));
          inner = omega (arith, ap (λ (L : Layer). length L.tokens) (insert-inner l b), with_vertex-tokens b.inner l, inner-tokens-count h iv it ov ot rs);
          outer = rw is (omega (arith, ap (λ (L : Layer). length L.tokens) outer, (lock-counts free b.outer l).1, outer-tokens-count h iv it ov ot rs));
          orders = rw is (sym (insert-orders l b ∙ rw agrees));
        }

    revoke-leaves : (r u : ℕ) → r < length b.resources → has (resource b r).list u ≡ true
        → Leaves (work (revokes r u) b) (after_of h 0 0 (lock_part b.outer (revoked_list r u b) 1))
    unfolding work listed access
    revoke-leaves r u l on =
        let s = revoked_list r u b in
        let outer = revoke-outer b r u (sound-locked b s0 r l) l on in
        record {
          users = sym (same-users (revokes r u) b refl ∙ users-count h iv it ov ot rs);
          vertices = omega (arith, ap (λ (L : Layer). length L.sets) outer, with_vertex-vertices b.outer s, outer-count h iv it ov ot rs);
          inner = omega (arith, ap (λ (L : Layer). length L.tokens) (revoke-inner b r u (sound-locked b s0 r l) l on), inner-tokens-count h iv it ov ot rs);
          outer = omega (arith, ap (λ (L : Layer). length L.tokens) outer, with_vertex-tokens b.outer s, outer-tokens-count h iv it ov ot rs);
          orders = omega (arith, revoke-orders b r u (sound-locked b s0 r l) l on);
        }

    grant-leaves : (r u : ℕ) → r < length b.resources → u < b.users → has (resource b r).list u ≡ false
        → let more : ℕ = cond (not (has (holders_of b r) u)) 1 0 in
        Leaves (work (grants r u) b)
        (after_of h more more
        (joint (group_part (length (waiters b r u)) b.outer (holders_of b r)) (settled_part (agreed r u b) (resource b r).outer b.outer (granted_list r u b))))
    unfolding work listed access has_outer
    grant-leaves r u l un out =
        let group = group-is (waiters b r u) b.outer (holders_of b r) in
        let own = settled_is (agreed r u b) (resource b r).outer b.outer (granted_list r u b) in
        let more : cond {A = ℕ} (not (has (holders_of b r) u)) 1 0 ≡ cond (has (holders_of b r) u) 0 1 = one (has (holders_of b r) u) in
        record {
          users = sym (same-users (grants r u) b refl ∙ users-count h iv it ov ot rs);
          vertices = rw (group, own) (omega (arith, grant-vertices b s0 r u l un out, outer-count h iv it ov ot rs));
          inner = rw more (omega (arith, grant-inner-tokens b s0 r u l un, inner-tokens-count h iv it ov ot rs));
          outer = rw (group, own) (omega (arith, grant-tokens b s0 r u l un out, outer-tokens-count h iv it ov ot rs));
          orders = rw (group, own, more) (omega (arith, grant-orders b s0 r u l un out));
        }
      where
        one : (z : Bool) → cond {A = ℕ} (not z) 1 0 ≡ cond z 0 1
        one true = refl
        one false = refl

    -- ---- each request, with the callees' answers as premises

    module _ (room : ℕ) where
      pub insert-judged : (l : ℕ) {L : Layer} {free : Bool} {i : New} {s : Part} {a : After} {p : Plan} {j : Result Plan Refusal} → l < 2 ^ h.users.0 → apart l (set_in h.leavers) ≡ true → (l ≡ 0 → ⊥) → h.resources.0 < max_resources
          → L ≡ b.inner → free ≡ (eqb h.mode.0 1 && holders_are L l)
          → i.vertices ≡ new_vertices (sets_only h.inner_vertices.0 iv) l → i.tokens ≡ new_tokens (sets_only h.inner_vertices.0 iv) l
          → s ≡ settled_part free book.none sets l
          → a ≡ after_of h i.tokens (i.vertices + i.tokens + 1) s
          → p ≡ plan free false 0 → j ≡ limited a room p → j ≡ judged (inserts l) b room
      insert-judged l {L} {free} {i} {s} {a} {p} lb here some' few eL ef ev et es ea ep ej =
          ej ∙ judged-limited (inserts l) b room a p passed (subst (Leaves (work (inserts l) b)) (sym after) (insert-leaves l lb)) planned
        where
          is_free : free ≡ insert_free l b
          is_free = ef ∙ ap (λ (M : Layer). eqb h.mode.0 1 && holders_are M l) eL ∙ free_in l

          passed : verdict (own (inserts l) b) ≡ none
          passed = insert-passed l lb here some' few

          planned : p ≡ plan_of (inserts l) b
          planned = ep ∙ ap (λ (z : Bool). plan z false 0) is_free ∙ insert-plan-is l

          after : a ≡ after_of h (new_tokens b.inner l) (new_vertices b.inner l + new_tokens b.inner l + 1) (settled_part (insert_free l b) book.none b.outer l)
          after = ea ∙ rw (es, ev, et, is_free, (inner-new h iv it ov ot rs l).0, (inner-new h iv it ov ot rs l).1, settled-in (insert_free l b) book.none l)

      pub insert-no-such : (l : ℕ) → ltb l (2 ^ h.users.0) ≡ false → Err NoSuch ≡ judged (inserts l) b room
      unfolding own verdict
      insert-no-such l e = judged-no (inserts l) b room (rw (users-count h iv it ov ot rs, e))

      pub insert-left : (l : ℕ) → ltb l (2 ^ h.users.0) ≡ true → apart l (set_in h.leavers) ≡ false → Err HasLeft ≡ judged (inserts l) b room
      unfolding own verdict
      insert-left l e g = judged-no (inserts l) b room (rw (users-count h iv it ov ot rs, leavers-are h iv it ov ot rs, e, g))

      pub insert-empty : (l : ℕ) → ltb l (2 ^ h.users.0) ≡ true → apart l (set_in h.leavers) ≡ true → l ≡ 0 → Err EmptyList ≡ judged (inserts l) b room
      unfolding own verdict
      insert-empty l e g q = judged-no (inserts l) b room (rw (users-count h iv it ov ot rs, leavers-are h iv it ov ot rs, e, g, eq-eqb l 0 q))

      pub insert-full : (l : ℕ) → ltb l (2 ^ h.users.0) ≡ true → apart l (set_in h.leavers) ≡ true → (l ≡ 0 → ⊥) → max_resources ≤ h.resources.0 → Err ResourcesFull ≡ judged (inserts l) b room
      unfolding own verdict
      insert-full l e g n m =
          judged-no (inserts l) b room
          (rw (users-count h iv it ov ot rs, leavers-are h iv it ov ot rs, resources-count h iv it ov ot rs, e, g, ne_eqb l 0 n, le-leb max_resources h.resources.0 m))

      -- after a join of a sound book 7, 8 and 9 never hold
      join-verdict : h.users.0 < max_users → verdict (own joins b ++ limits room (work joins b)) ≡ cond (ltb room 2) (some ShortList) none
      unfolding own limits work join with_set done verdict
      join-verdict few =
          let c : Sizes h (tables iv it ov ot rs) = sizes h iv it ov ot rs ready in
          rw (
            lt-leb max_users b.users (omega (arith, users-count h iv it ov ot rs)),
            le-ltb (suc b.users + max_groups) (length (b.outer.sets ++ (single b.users ∷ [])))
                (omega (arith, users-count h iv it ov ot rs, outer-count h iv it ov ot rs, length-append b.outer.sets (single b.users ∷ []))),
            le-ltb max_tokens (length b.inner.tokens) (omega (arith, inner-tokens-count h iv it ov ot rs)),
            le-ltb max_tokens (length b.outer.tokens) (omega (arith, outer-tokens-count h iv it ov ot rs)),
          )

      pub join-full : max_users ≤ h.users.0 → Err UsersFull ≡ judged joins b room
      unfolding own verdict
      join-full m = judged-no joins b room (rw (users-count h iv it ov ot rs, le-leb max_users h.users.0 m))

      pub join-short : h.users.0 < max_users → room < 2 → Err ShortList ≡ judged joins b room
      unfolding judged judged_by
      join-short few m = rw (join-verdict few, lt-ltb room 2 m)

      pub join-judged : h.users.0 < max_users → 2 ≤ room → {p : Plan} → p ≡ plan false false 0 → Ok p ≡ judged joins b room
      unfolding judged judged_by plan_of
      join-judged few m e = rw (join-verdict few, le-ltb room 2 m) (ap Ok e)

      -- grant and revoke: z and y are the code's tests for 1 and for 5 and 6, x the row that was read
      module _ (r u : ℕ) {z : Result Unit Refusal} (ez : z ≡ cond (ltb u h.users.0 && ltb r h.resources.0) (Ok tt) (Err NoSuch)) where
        pub grant-no-such : {e : Refusal} → z ≡ Err e → Err e ≡ judged (grants r u) b room
        unfolding own verdict
        grant-no-such {e} q =
            let (a, k) = none-such h iv it ov ot rs r u ez q in
            judged-no (grants r u) b room (rw (a, k))

        pub revoke-no-such : {e : Refusal} → z ≡ Err e → Err e ≡ judged (revokes r u) b room
        unfolding own verdict
        revoke-no-such {e} q =
            let (a, k) = none-such h iv it ov ot rs r u ez q in
            judged-no (revokes r u) b room (rw (a, k))

        pub grant-left : {x : Unit} → z ≡ Ok x → has (set_in h.leavers) u ≡ true → Err HasLeft ≡ judged (grants r u) b room
        unfolding own verdict
        grant-left ok g = judged-no (grants r u) b room (rw (some-such h iv it ov ot rs r u ez ok, leavers-are h iv it ov ot rs, g))

        module _ {o : Unit} (ok : z ≡ Ok o) {x : Resource} (ex : x ≡ get_or (resources_in h.resources.0 rs) r no_resource) {y : Bool} (ey : y ≡ has x.list u) where
          exists : no_such b u r ≡ false
          exists = some-such h iv it ov ot rs r u ez ok

          row : x ≡ resource b r
          row = row_read h iv it ov ot rs r ex

          test : {w : Bool} → y ≡ w → has (resource b r).list u ≡ w
          test e = ap (λ (a : Resource). has a.list u) (sym row) ∙ sym ey ∙ e

          pub grant-listed : has (set_in h.leavers) u ≡ false → y ≡ true → Err Listed ≡ judged (grants r u) b room
          unfolding own verdict
          grant-listed g e = judged-no (grants r u) b room (rw (exists, test e, leavers-are h iv it ov ot rs, g))

          pub revoke-unlisted : y ≡ false → Err NotListed ≡ judged (revokes r u) b room
          unfolding own verdict
          revoke-unlisted e = judged-no (revokes r u) b room (rw (exists, test e))

          grant-passed : has (set_in h.leavers) u ≡ false → y ≡ false → verdict (own (grants r u) b) ≡ none
          unfolding own verdict
          grant-passed g e = rw (exists, test e, leavers-are h iv it ov ot rs, g)

          revoke-passed : y ≡ true → verdict (own (revokes r u) b) ≡ none
          unfolding own verdict
          revoke-passed e = rw (exists, test e)

          pub revoke-judged : {l : ℕ} {s : Part} {a : After} {p : Plan} {j : Result Plan Refusal} → y ≡ true → l ≡ minus x.list (single u) → s ≡ lock_part sets l 1 → a ≡ after_of h 0 0 s
              → p ≡ plan false false 0 → j ≡ limited a room p → j ≡ judged (revokes r u) b room
          unfolding plan_of
          revoke-judged {l} {s} {a} {p} e el es ea ep ej =
              ej
              ∙ judged-limited (revokes r u) b room a p (revoke-passed e)
              (subst (Leaves (work (revokes r u) b)) (sym after) (revoke-leaves r u (such b u r exists).1 (test e))) ep
            where
              after : a ≡ after_of h 0 0 (lock_part b.outer (revoked_list r u b) 1)
              after = ea ∙ ap (after_of h 0 0) (es ∙ lock-in l 1 ∙ ap (λ (k : ℕ). lock_part b.outer k 1) (el ∙ ap (λ (w : Resource). minus w.list (single u)) row))

          pub grant-judged : {L : Layer} {p : Plan} {s : Part} {a : After} {j : Result Plan Refusal} → has (set_in h.leavers) u ≡ false → y ≡ false
              → L ≡ b.inner → p ≡ grant_plan h.mode.0 (holders L x.inner) x.list u
              → s ≡ grant_part h ov rs r u x p
              → a ≡ after_of h (cond p.token 1 0) (cond p.token 1 0) s
              → j ≡ limited a room p → j ≡ judged (grants r u) b room
          unfolding plan_of grant_part
          grant-judged {L} {p} {s} {a} g e eL ep es ea ej =
              ej
              ∙ judged-limited (grants r u) b room a p (grant-passed g e)
              (subst (Leaves (work (grants r u) b)) (sym after) (grant-leaves r u (such b u r exists).1 (such b u r exists).0 (test e))) planned
            where
              planned : p ≡ plan_of (grants r u) b
              planned = ep ∙ ap (λ (M : Layer). grant_plan h.mode.0 (holders M x.inner) x.list u) eL ∙ ap (λ (w : Resource). grant_plan h.mode.0 (holders b.inner w.inner) w.list u) row ∙ grant-plan-is r u

              parted : s ≡ joint (group_part (length (waiters b r u)) b.outer (holders_of b r)) (settled_part (agreed r u b) (resource b r).outer b.outer (granted_list r u b))
              parted =
                  es
                  ∙ rw (planned, row, waiters-in r u, group-in (length (waiters b r u)) (holders_of b r), settled-in (agreed r u b) (resource b r).outer (granted_list r u b))

              after : a ≡ after_of h (cond (not (has (holders_of b r) u)) 1 0) (cond (not (has (holders_of b r) u)) 1 0)
                  (joint (group_part (length (waiters b r u)) b.outer (holders_of b r)) (settled_part (agreed r u b) (resource b r).outer b.outer (granted_list r u b)))
              after = ea ∙ rw (parted, planned)
