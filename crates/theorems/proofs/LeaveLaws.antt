-- A leave: the revokes one after the other, on unlimited tables. What it makes of the outer layer and of the orders, and that it keeps a sound book's rules.
-- Assumes nothing.
use Prim.Native.Nat.{ℕ, zero, suc, ◌+◌, ◌-◌, ◌*◌, ◌≤◌, ◌<◌}
use mathlib.Core.Path.{◌≡◌, refl, sym, ap, ap₂, ◌∙◌, subst}
use mathlib.Core.Bool.{Bool, true, false, not, cond}
use mathlib.Core.Logic.{◌≢◌}
use mathlib.Core.List.Memᴰ
use mathlib.Core.List.{List, [], ◌∷◌, ◌++◌, map, map-append, append_assoc, append-nil, Memᴰ}
use native.Mathlib.Nat.{le_refl, add-zero, add-suc, add-sub_of_le}
use native.Mathlib.Numerals.{add-one}
use native.Mathlib.Omega.{arith}
use lib.Dec.{eqb}
use lib.ListN.{length, get_or, set, length-append, length-set, length-map}
use lib.Seq.{get_or-set_same, get_or-set_other}
use borrow.Author.Tests.{eqb-false, ne_eqb, not-true}
use Rattle.sets.specs.Sets.{has, minus, single}
use Rattle.rows.specs.Number.{joined}
use Rattle.rules.specs.Lists.{keep, every, pairwise, tabulate_from, tabulate, up_to}
use Rattle.rules.specs.Layer.{Layer, found, vertex_for, cover, with_vertex}
use Rattle.rules.specs.declared.Order.{Order}
use Rattle.rules.specs.Book.{Book, none, resource, with_leavers}
use Rattle.rules.specs.Sound.{held, locked, locked_for, sound, unequal, max_tokens, max_resources}
use Rattle.rules.specs.Requests.{Done, done, ◌then◌, revoke, naming, revoke_all, gone, leave}
use Rattle.rules.specs.Refusals.{revokes, work}
use Rattle.rules.specs.Runs.{Access, access, listed}
use Rattle.rules.specs.Calls.{order_row, order_rows}
use Rattle.rules.specs.Numbers.{after, told}
use Rattle.rules.specs.Examples.{orders}
use Rattle.sets.proofs.Laws.{both}
use Rattle.theorems.proofs.ListLaws.{mem-get_or, length-tabulate_from, get_or-tabulate_from, keep-mem, mem-every, every-mem, up_to-mem, length-keep, length-up_to, pairwise-keep, keep_append, up_to-next}
use Rattle.theorems.proofs.LockLaws.{Kept}
use Rattle.theorems.proofs.RevokeLaws.{AllLocked, revoke-laws}
use Rattle.theorems.proofs.SoundLaws.{Counts, sound-counts, sound-kept, sound-locked}
use Rattle.theorems.proofs.AccessLaws.{list_at, list_count, users-of, work-access}
use Rattle.theorems.proofs.CountLaws.{with_vertex-vertices, with_vertex-tokens, new_vertices-one}
use Rattle.theorems.proofs.PlanLaws.{revoke-outer, revoke-inner, revoke-orders}
use Rattle.theorems.specs.Plan.{new_vertices, new_tokens, revoked_list, with_all, all_vertices, all_tokens, left_lists}

map_on : (xs : List ℕ) (f g : ℕ → ℕ) → ((x : ℕ) → Memᴰ x xs → f x ≡ g x) → map f xs ≡ map g xs
map_on [] f g h = refl
map_on (x ∷ xs) f g h = ap₂ ◌∷◌ (h x (Memᴰ.head refl)) (map_on xs f g (λ y m. h y (Memᴰ.tail m)))

-- ---- the rows of several vertices

pub with_all-vertices : (L : Layer) (ss : List ℕ) → length (with_all L ss).sets ≡ length L.sets + all_vertices L ss
unfolding with_all all_vertices
with_all-vertices L [] = omega arith
with_all-vertices L (s ∷ ss) = omega (arith, with_all-vertices (with_vertex L s) ss, with_vertex-vertices L s)

pub with_all-tokens : (L : Layer) (ss : List ℕ) → length (with_all L ss).tokens ≡ length L.tokens + all_tokens L ss
unfolding with_all all_tokens
with_all-tokens L [] = omega arith
with_all-tokens L (s ∷ ss) = omega (arith, with_all-tokens (with_vertex L s) ss, with_vertex-tokens L s)

-- one more, after the others
pub with_all-next : (L : Layer) (ss : List ℕ) (s : ℕ) → with_all L (ss ++ (s ∷ [])) ≡ with_vertex (with_all L ss) s
unfolding with_all
with_all-next L [] s = refl
with_all-next L (t ∷ ss) s = with_all-next (with_vertex L t) ss s

pub all_vertices-next : (L : Layer) (ss : List ℕ) (s : ℕ) → all_vertices L (ss ++ (s ∷ [])) ≡ all_vertices L ss + new_vertices (with_all L ss) s
unfolding with_all all_vertices
all_vertices-next L [] s = omega arith
all_vertices-next L (t ∷ ss) s = omega (arith, all_vertices-next (with_vertex L t) ss s)

pub all_tokens-next : (L : Layer) (ss : List ℕ) (s : ℕ) → all_tokens L (ss ++ (s ∷ [])) ≡ all_tokens L ss + new_tokens (with_all L ss) s
unfolding with_all all_tokens
all_tokens-next L [] s = omega arith
all_tokens-next L (t ∷ ss) s = omega (arith, all_tokens-next (with_vertex L t) ss s)

-- they go by the sets alone, whatever the tokens are
module _ (L K : Layer) (e : L.sets ≡ K.sets) where
  pub new_vertices-sets : (s : ℕ) → new_vertices L s ≡ new_vertices K s
  unfolding new_vertices found vertex_for
  new_vertices-sets s = rw e

  pub new_tokens-sets : (s : ℕ) → new_tokens L s ≡ new_tokens K s
  unfolding new_tokens found vertex_for cover
  new_tokens-sets s = rw e

  with_vertex-sets : (s : ℕ) → (with_vertex L s).sets ≡ (with_vertex K s).sets
  unfolding with_vertex found vertex_for
  with_vertex-sets s = sides L ∙ rw e (sym (sides K))
    where
      sides : (M : Layer) → (with_vertex M s).sets ≡ cond (found M s) M.sets (M.sets ++ (s ∷ []))
      sides M = go (found M s)
        where
          go : (z : Bool) → (cond z M (record { sets = M.sets ++ (s ∷ []); tokens = M.tokens ++ map (λ v. record { from = v; to = length M.sets; kind = 0 }) (cover M s) })).sets
              ≡ cond z M.sets (M.sets ++ (s ∷ []))
          go true = refl
          go false = refl

pub all-sets : (L K : Layer) (ss : List ℕ) → L.sets ≡ K.sets → (all_vertices L ss ≡ all_vertices K ss) × (all_tokens L ss ≡ all_tokens K ss)
unfolding all_vertices all_tokens
all-sets L K [] e = (refl, refl)
all-sets L K (s ∷ ss) e =
    let (v, t) = all-sets (with_vertex L s) (with_vertex K s) ss (with_vertex-sets L K e s) in
    (ap₂ ◌+◌ (new_vertices-sets L K e s) v, ap₂ ◌+◌ (new_tokens-sets L K e s) t)

pub all_vertices-few : (L : Layer) (ss : List ℕ) → all_vertices L ss ≤ length ss
unfolding all_vertices
all_vertices-few L [] = omega arith
all_vertices-few L (s ∷ ss) = omega (arith, all_vertices-few (with_vertex L s) ss, new_vertices-one L s)

-- ---- one revoke: the lists

module _ (b : Book) (r u : ℕ) where
  abbrev c : Book
  c = (revoke r u b).book

  lists-then : (access c).lists ≡ set (access b).lists r (minus (get_or (access b).lists r 0) (single u))
  unfolding work listed
  lists-then = ap (λ (a : Access). a.lists) (work-access (revokes r u) b)

  pub revoke-users : c.users ≡ b.users
  unfolding work listed access
  revoke-users = users-of c (listed (revokes r u) (access b)) (work-access (revokes r u) b)

  pub revoke-count : length c.resources ≡ length b.resources
  revoke-count =
      sym (list_count c) ∙ ap length lists-then ∙ length-set (access b).lists r (minus (get_or (access b).lists r 0) (single u)) ∙ list_count b

  pub revoke-other : (i : ℕ) → i ≢ r → (resource c i).list ≡ (resource b i).list
  revoke-other i n =
      sym (list_at c i) ∙ ap (λ (ls : List ℕ). get_or ls i 0) lists-then
      ∙ get_or-set_other (access b).lists r i (minus (get_or (access b).lists r 0) (single u)) 0 n ∙ list_at b i

  pub revoke-own : r < length b.resources → (resource c r).list ≡ revoked_list r u b
  revoke-own l =
      let there : r < length (access b).lists = rw (list_count b) l in
      sym (list_at c r) ∙ ap (λ (ls : List ℕ). get_or ls r 0) lists-then
      ∙ get_or-set_same (access b).lists r (minus (get_or (access b).lists r 0) (single u)) 0 there
      ∙ ap (λ (x : ℕ). minus x (single u)) (list_at b r)

-- ---- a run of revokes

-- what a run of revokes of u from the resources rs goes by: all rules but the limits, each of rs names u, none is there twice
pub record Run (u : ℕ) (rs : List ℕ) (b : Book) : Type 0 where
  pub kept : Kept b
  pub locks : AllLocked b
  pub apart : pairwise unequal rs ≡ true
  pub there : (r : ℕ) → Memᴰ r rs → r < length b.resources
  pub names : (r : ℕ) → Memᴰ r rs → has (resource b r).list u ≡ true
  pub small : length b.outer.sets + length rs < none

module _ (u r : ℕ) (rs : List ℕ) (b : Book) (k : Run u (r ∷ rs) b) where
  abbrev then' : Book
  then' = (revoke r u b).book

  pub here : r < length b.resources
  here = k.there r (Memᴰ.head refl)

  on : has (resource b r).list u ≡ true
  on = k.names r (Memᴰ.head refl)

  outer-then : then'.outer ≡ with_vertex b.outer (revoked_list r u b)
  outer-then = revoke-outer b r u (k.locks r here) here on

  inner-then : then'.inner ≡ b.inner
  inner-then = revoke-inner b r u (k.locks r here) here on

  orders-then : length (revoke r u b).orders ≡ new_vertices b.outer (revoked_list r u b) + new_tokens b.outer (revoked_list r u b) + 1
  orders-then = revoke-orders b r u (k.locks r here) here on

  parts : (every (unequal r) rs ≡ true) × (pairwise unequal rs ≡ true)
  unfolding pairwise
  parts = both (every (unequal r) rs) (pairwise unequal rs) k.apart

  pub other : (i : ℕ) → Memᴰ i rs → i ≢ r
  unfolding unequal
  other i m e = eqb-false r i (not-true (eqb r i) (every-mem (unequal r) rs parts.0 m)) (sym e)

  pub run-next : Run u rs (revoke r u b).book
  run-next =
      let (a, l) = revoke-laws b k.kept k.locks r u here on (omega (arith, k.small)) in
      record {
        kept = a;
        locks = l;
        apart = parts.1;
        there = λ i m. rw (revoke-count b r u) (k.there i (Memᴰ.tail m));
        names = λ i m. ap (λ (x : ℕ). has x u) (revoke-other b r u i (other i m)) ∙ k.names i (Memᴰ.tail m);
        small = omega (arith, k.small, ap (λ (L : Layer). length L.sets) outer-then, with_vertex-vertices b.outer (revoked_list r u b), new_vertices-one b.outer (revoked_list r u b));
      }

  same_lists : map (λ i. revoked_list i u then') rs ≡ map (λ i. revoked_list i u b) rs
  same_lists = map_on rs (λ i. revoked_list i u then') (λ i. revoked_list i u b) (λ i m. ap (λ (x : ℕ). minus x (single u)) (revoke-other b r u i (other i m)))

-- of one revoke
pub one-run : (u r : ℕ) (b : Book) → sound b ≡ true → r < length b.resources → has (resource b r).list u ≡ true → Run u (r ∷ []) b
unfolding pairwise every
one-run u r b h l on =
    let c : Counts b = sound-counts b h in
    record {
      kept = sound-kept b h;
      locks = sound-locked b h;
      apart = refl;
      there = λ i m. subst (λ (j : ℕ). j < length b.resources) (sym (Memᴰ.eq_of_singleton m)) l;
      names = λ i m. subst (λ (j : ℕ). has (resource b j).list u ≡ true) (sym (Memᴰ.eq_of_singleton m)) on;
      small = omega (arith, c.outer≤, c.users≤);
    }

pub run-laws : (u : ℕ) (rs : List ℕ) (b : Book) → Run u rs b → Kept (revoke_all u rs b).book × AllLocked (revoke_all u rs b).book
unfolding revoke_all ◌then◌ done
run-laws u [] b k = (k.kept, k.locks)
run-laws u (r ∷ rs) b k = run-laws u rs (revoke r u b).book (run-next u r rs b k)

-- the outer layer: a vertex for each list without u, in order
pub run-outer : (u : ℕ) (rs : List ℕ) (b : Book) → Run u rs b → (revoke_all u rs b).book.outer ≡ with_all b.outer (map (λ r. revoked_list r u b) rs)
unfolding revoke_all ◌then◌ done with_all
run-outer u [] b k = refl
run-outer u (r ∷ rs) b k =
    run-outer u rs (revoke r u b).book (run-next u r rs b k) ∙ ap₂ with_all (outer-then u r rs b k) (same_lists u r rs b k)

pub run-inner : (u : ℕ) (rs : List ℕ) (b : Book) → Run u rs b → (revoke_all u rs b).book.inner ≡ b.inner
unfolding revoke_all ◌then◌ done
run-inner u [] b k = refl
run-inner u (r ∷ rs) b k = run-inner u rs (revoke r u b).book (run-next u r rs b k) ∙ inner-then u r rs b k

pub run-users : (u : ℕ) (rs : List ℕ) (b : Book) → ((revoke_all u rs b).book.users ≡ b.users) × (length (revoke_all u rs b).book.resources ≡ length b.resources)
unfolding revoke_all ◌then◌ done
run-users u [] b = (refl, refl)
run-users u (r ∷ rs) b =
    let (x, y) = run-users u rs (revoke r u b).book in
    (x ∙ revoke-users b r u, y ∙ revoke-count b r u)

-- the orders: the vertices, their tokens, and a re-lock each
pub run-orders : (u : ℕ) (rs : List ℕ) (b : Book) → Run u rs b → let ss = map (λ r. revoked_list r u b) rs in
    length (revoke_all u rs b).orders ≡ all_vertices b.outer ss + all_tokens b.outer ss + length rs
unfolding revoke_all ◌then◌ done all_vertices all_tokens
run-orders u [] b k = refl
run-orders u (r ∷ rs) b k =
    let c = (revoke r u b).book in
    let n : ℕ = length (revoke_all u rs c).orders in
    omega (
      arith,
      length-append (revoke r u b).orders (revoke_all u rs c).orders,
      orders-then u r rs b k,
      run-orders u rs c (run-next u r rs b k),
      ap₂ all_vertices (outer-then u r rs b k) (same_lists u r rs b k),
      ap₂ all_tokens (outer-then u r rs b k) (same_lists u r rs b k),
    )

-- a folder that is not among them keeps its list
pub run-other : (u : ℕ) (rs : List ℕ) (b : Book) (i : ℕ) → ((r : ℕ) → Memᴰ r rs → i ≢ r) → (resource (revoke_all u rs b).book i).list ≡ (resource b i).list
unfolding revoke_all ◌then◌ done
run-other u [] b i n = refl
run-other u (r ∷ rs) b i n =
    run-other u rs (revoke r u b).book i (λ j m. n j (Memᴰ.tail m)) ∙ revoke-other b r u i (n r (Memᴰ.head refl))

-- the book and the orders are those of the requests one after the other
run-book : (u : ℕ) (rs : List ℕ) (b : Book) → (revoke_all u rs b).book ≡ after (map (λ r. revokes r u) rs) b
unfolding revoke_all ◌then◌ done after work
run-book u [] b = refl
run-book u (r ∷ rs) b = run-book u rs (revoke r u b).book

rows_append : (os ps : List Order) → order_rows (os ++ ps) ≡ order_rows os ++ order_rows ps
unfolding order_rows joined
rows_append [] ps = refl
rows_append (o ∷ os) ps = ap (λ (xs : List ℕ). order_row o ++ xs) (rows_append os ps) ∙ sym (append_assoc (order_row o) (order_rows os) (order_rows ps))

run-told : (u : ℕ) (rs : List ℕ) (b : Book) → told (revoke_all u rs b) ≡ orders (map (λ r. revokes r u) rs) b
unfolding revoke_all ◌then◌ done told orders work order_rows joined
run-told u [] b = refl
run-told u (r ∷ rs) b =
    rows_append (revoke r u b).orders (revoke_all u rs (revoke r u b).book).orders
    ∙ ap (λ (xs : List ℕ). order_rows (revoke r u b).orders ++ xs) (run-told u rs (revoke r u b).book)

-- ---- leave

-- each number once
numbers_apart : (i n : ℕ) → pairwise unequal (tabulate_from i n (λ j. j)) ≡ true
unfolding tabulate_from pairwise unequal
numbers_apart i zero = refl
numbers_apart i (suc n) = rw (mem-every (unequal i) (tabulate_from (suc i) n (λ j. j)) later) (numbers_apart (suc i) n)
  where
    later : (j : ℕ) → Memᴰ j (tabulate_from (suc i) n (λ j. j)) → not (eqb i j) ≡ true
    later j m =
        let (k, l, e) = mem-get_or (tabulate_from (suc i) n (λ j. j)) 0 m in
        let q : k < n = omega (arith, length-tabulate_from (suc i) n (λ j. j)) in
        ap not (ne_eqb i j (λ s. omega (arith, get_or-tabulate_from (suc i) n (λ j. j) k 0 q)))

module _ (u : ℕ) (b : Book) where
  -- of the first i resources, those that name u
  abbrev pub naming_to : ℕ → List ℕ
  naming_to i = keep (λ r. has (resource b r).list u) (up_to i)

  to_mem : (i r : ℕ) → Memᴰ r (naming_to i) → (r < i) × (has (resource b r).list u ≡ true)
  to_mem i r m = let (j, e) = keep-mem (λ r. has (resource b r).list u) (up_to i) m in (up_to-mem i j, e)

  to-few : (i : ℕ) → length (naming_to i) ≤ i
  to-few i = omega (arith, length-keep (λ r. has (resource b r).list u) (up_to i), length-up_to i)

  module _ (h : sound b ≡ true) (i : ℕ) (l : i ≤ length b.resources) where
    pub to-run : Run u (naming_to i) b
    unfolding up_to tabulate
    to-run =
        let c : Counts b = sound-counts b h in
        record {
          kept = sound-kept b h;
          locks = sound-locked b h;
          apart = pairwise-keep unequal (λ r. has (resource b r).list u) (up_to i) (numbers_apart 0 i);
          there = λ r m. omega (arith, (to_mem i r m).0);
          names = λ r m. (to_mem i r m).1;
          small = omega (arith, to-few i, c.outer≤, c.users≤, c.resources≤);
        }

module _ (u : ℕ) (b : Book) where
  naming-few : length (naming u b) ≤ length b.resources
  unfolding naming
  naming-few = to-few u b (length b.resources)

  -- the revokes one after the other: the book
  pub leave-run : (leave u b).book ≡ (gone u (after (map (λ r. revokes r u) (naming u b)) b)).book
  unfolding leave ◌then◌
  leave-run = ap (λ (c : Book). (gone u c).book) (run-book u (naming u b) b)

  -- and the orders
  pub leave-told : told (leave u b) ≡ orders (map (λ r. revokes r u) (naming u b)) b
  unfolding leave ◌then◌ gone done told
  leave-told = ap order_rows (append-nil (revoke_all u (naming u b) b).orders) ∙ run-told u (naming u b) b

  -- the last step gives no order
  pub leave-given : (leave u b).orders ≡ (revoke_all u (naming u b) b).orders
  unfolding leave ◌then◌ gone done
  leave-given = append-nil (revoke_all u (naming u b) b).orders

  module _ (h : sound b ≡ true) where
    pub naming-run : Run u (naming u b) b
    unfolding naming
    naming-run = to-run u b h (length b.resources) (le_refl (length b.resources))

    pub leave-outer : (leave u b).book.outer ≡ with_all b.outer (left_lists u b)
    unfolding leave ◌then◌ gone done with_leavers left_lists
    leave-outer = run-outer u (naming u b) b naming-run

    pub leave-inner : (leave u b).book.inner ≡ b.inner
    unfolding leave ◌then◌ gone done with_leavers
    leave-inner = run-inner u (naming u b) b naming-run

    pub leave-orders : length (leave u b).orders ≡ all_vertices b.outer (left_lists u b) + all_tokens b.outer (left_lists u b) + length (left_lists u b)
    unfolding left_lists
    leave-orders =
        ap length leave-given
        ∙ run-orders u (naming u b) b naming-run
        ∙ ap (λ (n : ℕ). all_vertices b.outer (left_lists u b) + all_tokens b.outer (left_lists u b) + n) (sym (length-map (naming u b) (λ r. revoked_list r u b)))

    pub leave-laws : Kept (leave u b).book × AllLocked (leave u b).book
    unfolding leave ◌then◌ gone done with_leavers held locked locked_for resource
    leave-laws =
        let (k, a) = run-laws u (naming u b) b naming-run in (
          record {
            mode≤ = k.mode≤;
            inner = k.inner;
            outer = k.outer;
            plain = k.plain;
            full = k.full;
            few = k.few;
            list< = k.list<;
            inner< = k.inner<;
            place = k.place;
            holds = k.holds;
          },
          a,
        )

    -- how many orders: with room for the tokens, 4,096 of these, and for each folder a vertex and a re-lock at most
    pub leave-rows : length (leave u b).book.outer.tokens ≤ max_tokens → length (leave u b).orders ≤ max_tokens + 2 * max_resources
    unfolding left_lists
    leave-rows t =
        omega (
          arith,
          leave-orders,
          all_vertices-few b.outer (left_lists u b),
          length-map (naming u b) (λ r. revoked_list r u b),
          naming-few,
          (sound-counts b h).resources≤,
          with_all-tokens b.outer (left_lists u b),
          ap (λ (L : Layer). length L.tokens) leave-outer,
        )

-- with a vertex for s: its sets, by whether it was there
pub with_vertex-old : (L : Layer) (s : ℕ) → found L s ≡ true → ((with_vertex L s).sets ≡ L.sets) × (new_vertices L s ≡ 0)
unfolding with_vertex new_vertices
with_vertex-old L s e = (rw e, rw e)

pub with_vertex-new : (L : Layer) (s : ℕ) → found L s ≡ false → ((with_vertex L s).sets ≡ L.sets ++ (s ∷ [])) × (new_vertices L s ≡ 1)
unfolding with_vertex new_vertices
with_vertex-new L s e = (rw e, rw e)

-- ---- the first revokes of a run, and the rest

pub with_all-append : (L : Layer) (ss ts : List ℕ) → with_all L (ss ++ ts) ≡ with_all (with_all L ss) ts
unfolding with_all
with_all-append L [] ts = refl
with_all-append L (s ∷ ss) ts = with_all-append (with_vertex L s) ss ts

pub revoke_all-append : (u : ℕ) (rs qs : List ℕ) (b : Book) → revoke_all u (rs ++ qs) b ≡ revoke_all u rs b then revoke_all u qs
unfolding revoke_all ◌then◌ done
revoke_all-append u [] qs b = refl
revoke_all-append u (r ∷ rs) qs b =
    let c = (revoke r u b).book in
    ap (λ (d : Done). record { book = d.book; orders = (revoke r u b).orders ++ d.orders }) (revoke_all-append u rs qs c)
    ∙ ap (λ (os : List Order). record { book = (revoke_all u qs (revoke_all u rs c).book).book; orders = os })
    (sym (append_assoc (revoke r u b).orders (revoke_all u rs c).orders (revoke_all u qs (revoke_all u rs c).book).orders))

pub revoke_all-next : (u : ℕ) (rs : List ℕ) (r : ℕ) (b : Book) → revoke_all u (rs ++ (r ∷ [])) b ≡ revoke_all u rs b then revoke r u
unfolding revoke_all ◌then◌ done
revoke_all-next u rs r b =
    let c = (revoke_all u rs b).book in
    revoke_all-append u rs (r ∷ []) b
    ∙ ap (λ (os : List Order). record { book = (revoke r u c).book; orders = (revoke_all u rs b).orders ++ os }) (append-nil (revoke r u c).orders)

module _ (u : ℕ) (b : Book) where
  -- their revokes
  abbrev pub leave_to : ℕ → Done
  leave_to i = revoke_all u (naming_to u b i) b

  pub leave-to-all : leave u b ≡ leave_to (length b.resources) then gone u
  unfolding leave naming
  leave-to-all = refl

  to-more : (i k : ℕ) → (qs : List ℕ) × (naming_to u b (i + k) ≡ naming_to u b i ++ qs)
  to-more i zero = ([], rw add-zero (sym (append-nil (naming_to u b i))))
  to-more i (suc k) =
      let p : ℕ → Bool = λ r. has (resource b r).list u in
      let (qs, e) = to-more i k in (
        qs ++ keep p ((i + k) ∷ []),
        ap (naming_to u b) (add-suc i k ∙ sym (add-one (i + k)))
            ∙ ap (keep p) (up_to-next (i + k))
            ∙ keep_append p (up_to (i + k)) ((i + k) ∷ [])
            ∙ ap (λ (xs : List ℕ). xs ++ keep p ((i + k) ∷ [])) e
            ∙ append_assoc (naming_to u b i) qs (keep p ((i + k) ∷ [])),
      )

  module _ (h : sound b ≡ true) (i : ℕ) (l : i ≤ length b.resources) where
    -- the next resource's list still is as it was
    pub to-names : (resource (leave_to i).book i).list ≡ (resource b i).list
    to-names = run-other u (naming_to u b i) b i (λ r m e. omega (arith, (to_mem u b i r m).0))

    -- what they leave is within what the whole leaves
    pub to-fits : (length (leave_to i).book.outer.sets ≤ length (leave u b).book.outer.sets)
        × (length (leave_to i).book.outer.tokens ≤ length (leave u b).book.outer.tokens) × (length (leave_to i).orders ≤ length (leave u b).orders)
    unfolding left_lists naming ◌then◌
    to-fits =
        let n = length b.resources in
        let (qs, e) = to-more i (n - i) in
        let all : naming_to u b n ≡ naming_to u b i ++ qs = ap (naming_to u b) (sym (add-sub_of_le l)) ∙ e in
        let f : ℕ → ℕ = λ r. revoked_list r u b in
        let some' = (leave_to i).book.outer in
        let whole : (leave u b).book.outer ≡ with_all some' (map f qs)
        = leave-outer u b h ∙ ap (λ (rs : List ℕ). with_all b.outer (map f rs)) all
        ∙ ap (with_all b.outer) (map-append f (naming_to u b i) qs)
        ∙ with_all-append b.outer (map f (naming_to u b i)) (map f qs)
        ∙ ap (λ (L : Layer). with_all L (map f qs)) (sym (run-outer u (naming_to u b i) b (to-run u b h i l))) in
        let told' : (leave u b).orders ≡ (leave_to i then revoke_all u qs).orders
        = leave-given u b ∙ ap (λ (rs : List ℕ). (revoke_all u rs b).orders) all ∙ ap (λ (d : Done). d.orders) (revoke_all-append u (naming_to u b i) qs b) in (
          omega (arith, ap (λ (L : Layer). length L.sets) whole, with_all-vertices some' (map f qs)),
          omega (arith, ap (λ (L : Layer). length L.tokens) whole, with_all-tokens some' (map f qs)),
          omega (arith, ap length told', length-append (leave_to i).orders (revoke_all u qs (leave_to i).book).orders),
        )
