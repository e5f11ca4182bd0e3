-- The tally of a leave, resource by resource: the seen layer's sets are those of the layer that the revokes so far would leave.
-- Assumes nothing.
use Rattle.std.specs.Prelude.{Result, Err}
use Prim.Native.Nat.{ℕ, ◌+◌, ◌*◌, ◌≤◌, ◌<◌}
use mathlib.Core.Path.{◌≡◌, refl, sym, ap, ap₂, ◌∙◌, subst}
use mathlib.Core.Bool.{Bool, true, false, cond}
use mathlib.Core.Logic.{◌⊎◌, inl, inr}
use mathlib.Core.List.{List, [], ◌∷◌, ◌++◌, map, map-append, append_assoc, append-nil}
use mathlib.Core.Option.{none}
use native.Mathlib.Nat.{add-zero, not-suc-le-zero}
use native.Mathlib.Numerals.{add-one}
use native.Mathlib.Decide.{ℕ_discrete}
use native.Mathlib.Omega.{arith}
use lib.ListN.{length, take, set, get_or, length-set, length-append}
use lib.Seq.{take-suc-set, take-set-le, get_or-set_same, get_or-set_other}
use borrow.Author.Tests.{lt-ltb, le-ltb}
use Rattle.sets.specs.Sets.{has, single, minus}
use Rattle.sets.specs.Words.{people, bytes, set_in}
use Rattle.rules.specs.Lists.{keep, up_to}
use Rattle.rules.specs.Layer.{Layer, found, with_vertex}
use Rattle.rules.specs.Book.{Book, Resource, resource}
use Rattle.rules.specs.Sound.{max_resources}
use Rattle.rules.specs.Requests.{naming}
use Rattle.rules.specs.Bytes.{tables, book_in, resources_in}
use Rattle.rules.specs.Refusals.{verdict, leaves, own, work}
use Rattle.rules.specs.Runs.{access, listed}
use Rattle.rules.specs.declared.Head.{Head}
use Rattle.rules.specs.declared.Refusal.{Refusal}
use Rattle.rules.specs.declared.Refusal.TheVariants.{NoSuch, HasLeft}
use Rattle.theorems.specs.Plan.{new_vertices, new_tokens, with_all, all_vertices, all_tokens, left_lists}
use Rattle.theorems.proofs.LeaveLaws.{with_all-vertices, with_all-tokens, with_all-next, all_vertices-next, all_tokens-next, new_vertices-sets, new_tokens-sets, all-sets, with_vertex-old, with_vertex-new, leave-outer, leave-inner, leave-orders}
use Rattle.layer.specs.Laid.{max_vertices}
use Rattle.layer.specs.Make.{sets_only}
use Rattle.layer.specs.Seen.{left_of, seen_sets, seen_layer, SeenIn}
use Rattle.layer.specs.declared.seen.Seen.{Seen}
use Rattle.layer.proofs.Read.{length-resources}
use Rattle.plan.specs.Waiting.{row}
use Rattle.plan.specs.Judge.{Ready, Few, plan, plan_of, judged, limited, part, lock_part, joint, after_of}
use Rattle.plan.specs.Leave.{names_in, left_in, list_part, leave_part}
use Rattle.plan.specs.declared.Plan.{Plan}
use Rattle.plan.specs.declared.judge.After.{After}
use Rattle.plan.specs.declared.judge.Part.{Part}
use Rattle.plan.proofs.WaitLaws.{below, below_none, below-yes, below-no}
use Rattle.plan.proofs.ReadyLaws.{book_of, users-count, leavers-are, outer-count, inner-tokens-count, outer-tokens-count}
use Rattle.plan.proofs.JudgeLaws.{Leaves, judged-no, judged-limited, same-users}

-- ---- what a list adds

module _ (L : Layer) (list u : ℕ) where
  pub list-out : has list u ≡ false → part 0 0 0 ≡ list_part L list u
  unfolding list_part
  list-out e = rw e

  pub list-in : {v t : ℕ} {p : Part} → has list u ≡ true → v ≡ new_vertices L (minus list (single u)) → t ≡ new_tokens L (minus list (single u)) → p ≡ part v t (v + t + 1)
      → p ≡ list_part L list u
  unfolding list_part
  list-in e p q is = rw (e, ← p, ← q) is

part-is : {a b c x y z : ℕ} → a ≡ x → b ≡ y → c ≡ z → part a b c ≡ part x y z
part-is p q r = rw (p, q, r)

-- ---- the first i resources

-- what their lists add is p, its new vertices told by the resources in the first places of fs
pub record Tallied (L : Layer) (xs : List Resource) (u : ℕ) (fs : List ℕ) (p : Part) (i : ℕ) : Type 0 where
  pub sets : L.sets ++ map (left_of xs u) (take p.vertices fs) ≡ (with_all L (left_in xs u i)).sets
  pub counts : p ≡ leave_part L (left_in xs u i)
  pub there : (j : ℕ) → j < p.vertices → get_or fs j 0 < length xs
  pub places : length fs ≡ max_resources
  pub vertices≤ : p.vertices ≤ i
  pub tokens≤ : p.tokens ≤ people * i
  pub orders≤ : p.orders ≤ (people + 2) * i

module _ (L : Layer) (xs : List Resource) (u : ℕ) where
  left-none : left_in xs u 0 ≡ []
  unfolding left_in
  left-none = ap (map (left_of xs u)) (below_none (names_in xs u))

  left-yes : (i : ℕ) → has (row xs i).list u ≡ true → left_in xs u (i + 1) ≡ left_in xs u i ++ (left_of xs u i ∷ [])
  unfolding left_in
  left-yes i e = ap (map (left_of xs u)) (below-yes (names_in xs u) i refl e) ∙ map-append (left_of xs u) (below (names_in xs u) i) (i ∷ [])

  left-no : (i : ℕ) → has (row xs i).list u ≡ false → left_in xs u (i + 1) ≡ left_in xs u i
  unfolding left_in
  left-no i e = ap (map (left_of xs u)) (below-no (names_in xs u) i refl e)

  pub tallied-none : (fs : List ℕ) → length fs ≡ max_resources → Tallied L xs u fs (part 0 0 0) 0
  unfolding with_all all_vertices all_tokens
  tallied-none fs n =
      record {
        sets = append-nil L.sets ∙ ap (λ (ss : List ℕ). (with_all L ss).sets) (sym left-none);
        counts = ap (leave_part L) (sym left-none);
        there = λ j l. absurd (not-suc-le-zero l);
        places = n;
        vertices≤ = omega arith;
        tokens≤ = omega arith;
        orders≤ = omega arith;
      }

  module _ {fs : List ℕ} {p : Part} {i : ℕ} (d : Tallied L xs u fs p i) (l : i < length xs) (few : i < max_resources) where
    abbrev seen : Layer
    seen = record { sets = L.sets ++ map (left_of xs u) (take p.vertices fs); tokens = [] }

    abbrev fs' : List ℕ
    fs' = set fs p.vertices i

    place : p.vertices < length fs
    place = omega (arith, d.places, d.vertices≤)

    named-next : (v : ℕ) → v ≤ 1 → (j : ℕ) → j < p.vertices + v → get_or fs' j 0 < length xs
    named-next v h j q = go (ℕ_discrete j p.vertices)
      where
        go : Dec (j ≡ p.vertices) → get_or fs' j 0 < length xs
        go (yes e) = rw (e, get_or-set_same fs p.vertices i 0 place) l
        go (no n) = rw (get_or-set_other fs p.vertices j i 0 n) (d.there j (omega arith))

    -- the list does not name u
    pub tallied-out : has (row xs i).list u ≡ false → Tallied L xs u fs' p (i + 1)
    tallied-out e =
        record {
          sets = rw (left-no i e, take-set-le p.vertices fs p.vertices i (omega arith)) d.sets;
          counts = rw (left-no i e) d.counts;
          there = λ j q. named-next 0 (omega arith) j (omega arith);
          places = length-set fs p.vertices i ∙ d.places;
          vertices≤ = omega (arith, d.vertices≤);
          tokens≤ = omega (arith, d.tokens≤);
          orders≤ = omega (arith, d.orders≤);
        }

    module _ (e : has (row xs i).list u ≡ true) where
      abbrev s : ℕ
      s = left_of xs u i

      abbrev W : Layer
      W = with_all L (left_in xs u i)

      -- the sets afterwards
      sets-next : (found W s ≡ true) ⊎ (found W s ≡ false) → L.sets ++ map (left_of xs u) (take (p.vertices + new_vertices W s) fs') ≡ (with_vertex W s).sets
      sets-next (inl f) =
          let (a, b) = with_vertex-old W s f in
          rw (b, add-zero p.vertices, take-set-le p.vertices fs p.vertices i (omega arith), a) d.sets
      sets-next (inr f) =
          let (a, b) = with_vertex-new W s f in
          rw (b, add-one p.vertices, take-suc-set fs p.vertices i place, map-append (left_of xs u) (take p.vertices fs) (i ∷ []), a)
          (sym (append_assoc L.sets (map (left_of xs u) (take p.vertices fs)) (s ∷ [])) ∙ ap (λ (ss : List ℕ). ss ++ (s ∷ [])) d.sets)

      either_way : (z : Bool) → found W s ≡ z → (found W s ≡ true) ⊎ (found W s ≡ false)
      either_way true f = inl f
      either_way false f = inr f

      pub tallied-in : {v w : ℕ} → v ≡ new_vertices seen s → w ≡ new_tokens seen s → v ≤ 1 → w ≤ people → Tallied L xs u fs' (joint p (part v w (v + w + 1))) (i + 1)
      tallied-in {v} {w} ev ew v≤ w≤ =
          let av : v ≡ new_vertices W s = ev ∙ new_vertices-sets seen W d.sets s in
          let aw : w ≡ new_tokens W s = ew ∙ new_tokens-sets seen W d.sets s in
          let pv = ap (λ (q : Part). q.vertices) d.counts in
          let pt = ap (λ (q : Part). q.tokens) d.counts in
          let po = ap (λ (q : Part). q.orders) d.counts in
          let nv = all_vertices-next L (left_in xs u i) s in
          let nt = all_tokens-next L (left_in xs u i) s in
          record {
            sets = rw (left-yes i e, with_all-next L (left_in xs u i) s, av) (sets-next (either_way (found W s) refl));
            counts =
                rw (left-yes i e)
                (part-is (omega arith) (omega arith) (omega (arith, length-append (left_in xs u i) (s ∷ []))));
            there = named-next v v≤;
            places = length-set fs p.vertices i ∙ d.places;
            vertices≤ = omega (arith, d.vertices≤);
            tokens≤ = omega (arith, d.tokens≤);
            orders≤ = omega (arith, d.orders≤);
          }

    -- one resource on, by what the code counted for it
    pub tallied-next : {y z : Part} → y ≡ list_part seen (row xs i).list u → (y.vertices ≤ 1) × (y.tokens ≤ people) × (y.orders ≤ people + 2) → z ≡ joint p y
        → Tallied L xs u fs' z (i + 1)
    unfolding list_part
    tallied-next {y} {z} q b both = rw both (go (has (row xs i).list u) refl q)
      where
        go : (w : Bool) → has (row xs i).list u ≡ w → y ≡ cond w (lock_part seen (left_of xs u i) 1) (part 0 0 0) → Tallied L xs u fs' (joint p y) (i + 1)
        go true e r =
            rw r (tallied-in e refl refl (rw (sym (ap (λ (x : Part). x.vertices) r)) b.0) (rw (sym (ap (λ (x : Part). x.tokens) r)) b.1))
        go false e r = rw (r, add-zero p.vertices, add-zero p.tokens, add-zero p.orders) (tallied-out e)

-- ---- in the tables

module _ (ov rs : List ℕ) (v n u : ℕ) where
  abbrev sets : Layer
  sets = sets_only v ov

  abbrev rows : List Resource
  rows = resources_in n rs

  -- the layer as it will be seen with m new vertices
  abbrev pub seen_with : ℕ → Seen
  seen_with m = record { vertices = v; new = m; resources = n; leaver = record { 0 = u } }

  module _ {fs : List ℕ} {p : Part} {i : ℕ} (d : Tallied sets rows u fs p i) (l : i < n) (few : n ≤ max_resources) where
    pub tallied-seen : v * bytes ≤ length ov → n * (bytes + 4) ≤ length rs → v ≤ max_vertices → u < people → SeenIn (seen_with p.vertices) ov rs fs
    tallied-seen a b w q =
        record {
          sets = a;
          rows = b;
          places = omega (arith, d.places, d.vertices≤);
          user = q;
          few = omega (arith, d.vertices≤);
          there = λ j h. omega (arith, d.there j h, length-resources n rs);
        }

    pub tallied-step : {y z : Part} → y ≡ list_part (seen_layer (seen_with p.vertices) ov rs fs) (row rows i).list u
        → (y.vertices ≤ 1) × (y.tokens ≤ people) × (y.orders ≤ people + 2) → z ≡ joint p y → Tallied sets rows u (set fs p.vertices i) z (i + 1)
    unfolding seen_sets
    tallied-step e b both = tallied-next sets rows u d (omega (arith, length-resources n rs)) (omega arith) e b both

  -- after the last resource
  pub tallied-all : {fs : List ℕ} {p : Part} {i : ℕ} → Tallied sets rows u fs p i → i ≡ n → n ≤ max_resources → (p ≡ leave_part sets (left_in rows u n)) × Few p
  tallied-all d e few = (d.counts ∙ ap (λ (k : ℕ). leave_part sets (left_in rows u k)) e, omega (arith, d.vertices≤, d.tokens≤, d.orders≤))

-- ---- the verdict

module _ (h : Head) (iv it ov ot rs : List ℕ) (ready : Ready h (tables iv it ov ot rs)) (u room : ℕ) where
  abbrev b : Book
  b = book_of h iv it ov ot rs

  -- the lists read in the table are the book's
  left-book : left_in (resources_in h.resources.0 rs) u h.resources.0 ≡ left_lists u b
  unfolding left_in left_lists naming book_in resource
  left-book =
      let xs = resources_in h.resources.0 rs in
      ap (λ (n : ℕ). map (left_of xs u) (keep (names_in xs u) (up_to n))) (sym (length-resources h.resources.0 rs))

  part_in : (ss : List ℕ) → leave_part (sets_only h.outer_vertices.0 ov) ss ≡ leave_part b.outer ss
  unfolding book_in
  part_in ss =
      let (v, t) = all-sets (sets_only h.outer_vertices.0 ov) b.outer ss refl in
      ap₂ (λ (x y : ℕ). part x y (x + y + length ss)) v t

  leave-leaves : Leaves (work (leaves u) b) (after_of h 0 0 (leave_part b.outer (left_lists u b)))
  unfolding work listed access
  leave-leaves =
      let ss = left_lists u b in
      let outer = leave-outer u b ready.sound' in
      record {
        users = sym (same-users (leaves u) b refl ∙ users-count h iv it ov ot rs);
        vertices = omega (arith, ap (λ (L : Layer). length L.sets) outer, with_all-vertices b.outer ss, outer-count h iv it ov ot rs);
        inner = omega (arith, ap (λ (L : Layer). length L.tokens) (leave-inner u b ready.sound'), inner-tokens-count h iv it ov ot rs);
        outer = omega (arith, ap (λ (L : Layer). length L.tokens) outer, with_all-tokens b.outer ss, outer-tokens-count h iv it ov ot rs);
        orders = omega (arith, leave-orders u b ready.sound');
      }

  pub leave-no-such : h.users.0 ≤ u → Err NoSuch ≡ judged (leaves u) b room
  unfolding own verdict
  leave-no-such l = judged-no (leaves u) b room (rw (users-count h iv it ov ot rs, le-ltb u h.users.0 l))

  module _ (l : u < h.users.0) where
    pub leave-left : has (set_in h.leavers) u ≡ true → Err HasLeft ≡ judged (leaves u) b room
    unfolding own verdict
    leave-left e = judged-no (leaves u) b room (rw (users-count h iv it ov ot rs, leavers-are h iv it ov ot rs, lt-ltb u h.users.0 l, e))

    leave-passed : has (set_in h.leavers) u ≡ false → verdict (own (leaves u) b) ≡ none
    unfolding own verdict
    leave-passed e = rw (users-count h iv it ov ot rs, leavers-are h iv it ov ot rs, lt-ltb u h.users.0 l, e)

    pub leave-judged : {s : Part} {a : After} {p : Plan} {j : Result Plan Refusal} → has (set_in h.leavers) u ≡ false
        → s ≡ leave_part (sets_only h.outer_vertices.0 ov) (left_in (resources_in h.resources.0 rs) u h.resources.0)
        → a ≡ after_of h 0 0 s → p ≡ plan false false 0 → j ≡ limited a room p → j ≡ judged (leaves u) b room
    unfolding plan_of
    leave-judged {s} {a} {p} e es ea ep ej =
        ej ∙ judged-limited (leaves u) b room a p (leave-passed e) (subst (Leaves (work (leaves u) b)) (sym after) leave-leaves) ep
      where
        after : a ≡ after_of h 0 0 (leave_part b.outer (left_lists u b))
        after = ea ∙ ap (after_of h 0 0) (es ∙ part_in (left_in (resources_in h.resources.0 rs) u h.resources.0) ∙ ap (leave_part b.outer) left-book)
