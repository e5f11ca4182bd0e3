-- Demand 3 for the storage itself: from what a host has made, published and handed out by obeying the orders, and with no book, a person derives what opens
-- a folder exactly if the folder's present list names that person.
-- Assumes nothing.
use Prim.Native.Nat.{ℕ, ◌^◌, ◌≤◌, ◌<◌}
use mathlib.Core.Path.{◌≡◌, refl, sym, ap, ◌∙◌, subst}
use mathlib.Core.Bool.{true, not}
use mathlib.Core.Logic.{◌↔◌}
use mathlib.Core.List.{List}
use lib.ListN.{length, get_or, length-map, get_or-map}
use borrow.Author.Tests.{eq-eqb}
use Rattle.sets.specs.Sets.{has, single}
use Rattle.sets.proofs.Laws.{has-below, has-own}
use Rattle.rules.specs.Lists.{every, tabulate, tabulate_from, up_to}
use Rattle.rules.specs.Layer.{Layer, set_of, vertex_for}
use Rattle.rules.specs.Book.{Book, Resource, none, resource, empty_book, empty_layer}
use Rattle.rules.specs.Derivation.{Key, main, Knows, Opens}
use Rattle.rules.specs.Derivation as book
use Rattle.rules.specs.Sound.{sound, unequal}
use Rattle.rules.specs.Bytes.{Tables}
use Rattle.rules.specs.Runs.{Kept, book_of, Call, run, Access, access, told, history}
use Rattle.rules.specs.Host.{Store, graph_of, store_of, nothing_made, empty_store, HostKnows, start, hash, step, given, HostOpens, obey_run, not_read}
use Rattle.theorems.proofs.ListLaws.{get_or-mem, get_or-tabulate, length-tabulate, pairwise-one}
use Rattle.theorems.proofs.LayerLaws.{Layered}
use Rattle.theorems.proofs.LetInLaws.{own-there}
use Rattle.theorems.proofs.SoundLaws.{sound-kept}
use Rattle.theorems.proofs.OpensLaws.{opens-list}
use Rattle.theorems.proofs.AccessLaws.{list_at, resources-of}
use Rattle.theorems.proofs.RunLaws.{run_sound, run-access, fresh, fresh-book, fresh-access, fresh-sound, nobody}
use Rattle.theorems.proofs.HostCallLaws.{obeyed-calls}

-- ---- one layer: who was handed a key starts where the layer's rules let them start

module _ {n : ℕ} {L : Layer} (g : Layered n L) (u : ℕ) where
  -- the own vertex, and no other, has the set that is u alone
  own-one : (v : ℕ) → v < length L.sets → set_of L v ≡ single u → (u < n) × (v ≡ vertex_for L (single u))
  unfolding set_of unequal
  own-one v l e =
      let un : u < n = has-below n (single u) u (subst (λ (s : ℕ). s < 2 ^ n) e (g.sets< (get_or L.sets v 0) (get_or-mem L.sets v 0 l))) (has-own u) in
      let (m, o) = own-there n L g u un in (
        un,
        pairwise-one unequal L.sets 0 v (vertex_for L (single u)) g.apart l m
            (ap not (eq-eqb (set_of L v) (set_of L (vertex_for L (single u))) (e ∙ sym o)))
            (ap not (eq-eqb (set_of L (vertex_for L (single u))) (set_of L v) (o ∙ sym e))),
      )

  handed-own : u < n → get_or (graph_of n L).handed u 0 ≡ vertex_for L (single u)
  unfolding graph_of
  handed-own un = get_or-tabulate n (λ u. vertex_for L (single u)) u 0 un

  to-knows : {k : Key} → HostKnows (graph_of n L) u k → Knows L u k
  unfolding graph_of
  to-knows (start l) =
      let un : u < n = subst (λ (m : ℕ). u < m) (length-tabulate n (λ u. vertex_for L (single u))) l in
      let (m, o) = own-there n L g u un in
      subst (λ (v : ℕ). Knows L u (main v)) (sym (handed-own un)) (book.own m o)
  to-knows (hash d) = book.hash (to-knows d)
  to-knows (step m k d) = book.step m k (to-knows d)
  to-knows (given m k d) = book.given m k (to-knows d)

  from-knows : {k : Key} → Knows L u k → HostKnows (graph_of n L) u k
  unfolding graph_of
  from-knows (book.own {v = v} l e) =
      let (un, p) = own-one v l e in
      subst (λ (w : ℕ). HostKnows (graph_of n L) u (main w)) (handed-own un ∙ sym p)
      (start (subst (λ (m : ℕ). u < m) (sym (length-tabulate n (λ u. vertex_for L (single u)))) un))
  from-knows (book.hash d) = hash (from-knows d)
  from-knows (book.step m k d) = step m k (from-knows d)
  from-knows (book.given m k d) = given m k (from-knows d)

  -- what the host's state gives is what the layer gives
  pub host-knows : (k : Key) → HostKnows (graph_of n L) u k ↔ Knows L u k
  host-knows k = (to-knows, from-knows)

-- ---- a host that is in step with a sound book

module _ (b : Book) (h : sound b ≡ true) (r u : ℕ) where
  abbrev bare : Resource
  bare = record { list = 0; inner = 0; outer = none }

  -- the inner vertex that the host encrypted r with
  key_of : get_or (store_of b).keys r 0 ≡ (resource b r).inner
  unfolding store_of resource
  key_of = get_or-map (λ (x : Resource). x.inner) b.resources r bare

  inner-knows : (k : Key) → HostKnows (store_of b).inner u k ↔ Knows b.inner u k
  unfolding store_of
  inner-knows k = host-knows (sound-kept b h).inner u k

  outer-knows : (k : Key) → HostKnows (store_of b).outer u k ↔ Knows b.outer u k
  unfolding store_of
  outer-knows k = host-knows (sound-kept b h).outer u k

  to-opens : HostOpens (store_of b) u r → Opens b u r
  unfolding store_of
  to-opens o =
      record {
        bel = subst (λ (v : ℕ). Knows b.inner u (book.access v)) key_of ((inner-knows (book.access (get_or (store_of b).keys r 0))).0 o.bel);
        sel = λ n. (outer-knows (main (resource b r).outer)).0 (o.sel n);
      }

  from-opens : Opens b u r → HostOpens (store_of b) u r
  unfolding store_of
  from-opens o =
      record {
        bel = (inner-knows (book.access (get_or (store_of b).keys r 0))).1 (subst (λ (v : ℕ). Knows b.inner u (book.access v)) (sym key_of) o.bel);
        sel = λ n. (outer-knows (main (resource b r).outer)).1 (o.sel n);
      }

-- what the host has opens a folder for exactly its list
pub host-opens : (b : Book) → sound b ≡ true → (r : ℕ) → r < length b.resources → (u : ℕ) → HostOpens (store_of b) u r ↔ (has (resource b r).list u ≡ true)
host-opens b h r l u =
    let (to, from) = opens-list b h r l u in
    (λ o. to (to-opens b h r u o), λ k. from-opens b h r u (from k))

-- as many folders are encrypted as the book has
pub keys-count : (b : Book) → length (store_of b).keys ≡ length b.resources
unfolding store_of
keys-count b = length-map b.resources (λ (x : Resource). x.inner)

-- ---- after any run of calls but reads, for a host that was in step with its book

module _ (cs : List Call) (k : Kept) (e : every not_read cs ≡ true) where
  -- what the host has then
  abbrev has-then : Store
  has-then = obey_run cs k (store_of (book_of k))

  -- every folder that there is, is encrypted
  pub run-keys : length has-then.keys ≡ length (book_of (run cs k)).resources
  run-keys = ap (λ (s : Store). length s.keys) (obeyed-calls cs k e) ∙ keys-count (book_of (run cs k))

  -- demand 3 for the storage itself
  pub run-host-opens : sound (book_of k) ≡ true → (r : ℕ) → r < length has-then.keys → (u : ℕ)
      → HostOpens has-then u r ↔ (has (resource (book_of (run cs k)) r).list u ≡ true)
  run-host-opens h r l u =
      subst (λ (s : Store). HostOpens s u r ↔ (has (resource (book_of (run cs k)) r).list u ≡ true)) (sym (obeyed-calls cs k e))
      (host-opens (book_of (run cs k)) (run_sound cs k h) r (subst (λ (n : ℕ). r < n) run-keys l) u)

  -- and from the requests: the accepted ones alone decide
  pub run-host-told : sound (book_of k) ≡ true → (r : ℕ) → r < length has-then.keys → (u : ℕ)
      → HostOpens has-then u r ↔ (has (get_or (told (history cs k) (access (book_of k))).lists r 0) u ≡ true)
  run-host-told h r l u =
      subst (λ (x : ℕ). HostOpens has-then u r ↔ (has x u ≡ true))
      (sym (list_at (book_of (run cs k)) r) ∙ ap (λ (a : Access). get_or a.lists r 0) (run-access cs k)) (run-host-opens h r l u)

-- ---- from nothing

pub empty-store : (m : ℕ) → store_of (empty_book m) ≡ empty_store
unfolding store_of graph_of empty_book empty_layer empty_store nothing_made resource up_to tabulate tabulate_from
empty-store m = refl

-- a host that starts has nothing, and so has its book
pub fresh-store : (m : ℕ) (t : Tables) → store_of (book_of (fresh m t)) ≡ empty_store
fresh-store m t = ap store_of (fresh-book m t) ∙ empty-store m

module _ (m : ℕ) (t : Tables) (cs : List Call) (e : every not_read cs ≡ true) where
  pub fresh-obeyed : obey_run cs (fresh m t) empty_store ≡ store_of (book_of (run cs (fresh m t)))
  fresh-obeyed = ap (obey_run cs (fresh m t)) (sym (fresh-store m t)) ∙ obeyed-calls cs (fresh m t) e

  -- every folder that was inserted is encrypted
  pub fresh-keys : length (obey_run cs (fresh m t) empty_store).keys ≡ length (told (history cs (fresh m t)) nobody).lists
  fresh-keys =
      ap (λ (s : Store). length s.keys) fresh-obeyed ∙ keys-count (book_of (run cs (fresh m t)))
      ∙ resources-of (book_of (run cs (fresh m t))) (told (history cs (fresh m t)) (access (book_of (fresh m t)))) (run-access cs (fresh m t))
      ∙ ap (λ (a : Access). length (told (history cs (fresh m t)) a).lists) (fresh-access m t)

  -- and the requests alone decide who opens it
  pub fresh-host-opens : m ≤ 1 → (r : ℕ) → r < length (obey_run cs (fresh m t) empty_store).keys → (u : ℕ)
      → HostOpens (obey_run cs (fresh m t) empty_store) u r ↔ (has (get_or (told (history cs (fresh m t)) nobody).lists r 0) u ≡ true)
  fresh-host-opens h =
      rw (fresh-store m t, fresh-access m t) at (run-host-told cs (fresh m t) e (fresh-sound m h t))
