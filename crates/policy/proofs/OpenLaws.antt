-- View and open, by the answers of what they call: the two layers, the view, the lengths of the chains, the rows in the list, and the refusals.
-- Assumes nothing.
use Rattle.std.specs.Prelude.{Result, Ok, Err}
use Prim.Native.Nat.{ℕ, ◌+◌, ◌-◌, ◌≤◌, ◌<◌}
use mathlib.Core.Path.{◌≡◌, refl, sym, ap, ap₂, ◌∙◌}
use mathlib.Core.Bool.{Bool, true, false, ◌&&◌, not, cond}
use mathlib.Core.Logic.{◌⊎◌, inl, inr, ◌≢◌}
use mathlib.Core.List.{List, [], ◌∷◌}
use mathlib.Core.Option.{Option, some, none}
use native.Mathlib.Omega.{arith}
use lib.Dec.{eqb, ltb}
use lib.ListN.{length, take, drop, set, get_or, length-append, length-take, length-drop}
use borrow.Author.Tests.{lt-ltb, le-ltb}
use borrow.Rule.Slice.PartMut.{put_mid}
use Rattle.sets.specs.Sets.{has}
use Rattle.sets.specs.Words.{people}
use Rattle.rows.specs.Number.{stored}
use Rattle.rows.proofs.Part.{stored-part}
use Rattle.rows.proofs.Laws.{stored-add, stored-sets, length-stored}
use Rattle.rules.specs.Layer.{Layer, set_of}
use Rattle.rules.specs.Book.{Book, Resource, resource, has_outer}
use Rattle.rules.specs.Book as book
use Rattle.rules.specs.Holders.{holders, holders_of, inner_known, outer_known, view_by, view}
use Rattle.rules.specs.Derivation.{Opens}
use Rattle.rules.specs.Open.{direct, inner_chain, outer_chain}
use Rattle.rules.specs.Bytes.{Tables, book_in, resources_in}
use Rattle.rules.specs.Sound.{sound}
use Rattle.rules.specs.Refusals.{verdict, no_such, opened, view_number, own_open, refusal_view, refusal_open}
use Rattle.rules.specs.Calls.{view_call, view_call_by, showing, open_by, open_call}
use Rattle.rules.specs.declared.Chains.{Chains}
use Rattle.rules.specs.declared.Head.{Head}
use Rattle.rules.specs.declared.View.{View}
use Rattle.rules.specs.declared.View.TheVariants.{Open, SelLocked, BelLocked, Locked}
use Rattle.rules.specs.declared.Refusal.{Refusal}
use Rattle.rules.specs.declared.Refusal.TheVariants.{NoSuch, Closed, ShortList}
use Rattle.theorems.proofs.LayerLaws.{Layered}
use Rattle.theorems.proofs.RuleLaws.{Rules, layered-rules}
use Rattle.theorems.proofs.SoundLaws.{sound-kept}
use Rattle.theorems.proofs.LockLaws.{Place}
use Rattle.theorems.proofs.RevokeLaws.{member}
use Rattle.theorems.proofs.KnowsLaws.{inner-access, outer-main}
use Rattle.theorems.proofs.ChainLaws.{direct-row}
use Rattle.theorems.proofs.ViewLaws.{view-open}
use Rattle.theorems.proofs.ShownLaws.{inner-few, outer-few}
use Rattle.layer.specs.declared.laid.Layer.{Layer as Lent}
use Rattle.layer.specs.Laid.{Laid, layer_of, outer_shape, no_resource}
use Rattle.layer.specs.Lent.{layer_in, Keeps}
use Rattle.layer.proofs.Read.{layer-sets, layer-tokens}
use Rattle.sound.specs.Check.{checked}
use Rattle.plan.specs.Judge.{Ready}
use Rattle.plan.proofs.ReadyLaws.{layered-laid, Sizes, sizes, resources-count, none-such, some-such}
use Rattle.policy.specs.Open.{lengths_of, openable_by, openable, Opening, KeysOf, inner_rows, outer_rows, known_in, OuterNames, LetIn}
use Rattle.policy.specs.declared.open.Keys.{Keys}
use Rattle.policy.proofs.CheckLaws.{unsound, rest-decides}

-- the one row of a user who is not in the set, at the front of the list
pub direct_written : (L : Layer) (u v k : ℕ) (list : List ℕ) → has (set_of L v) u ≡ false → direct L u v ≡ k → length (inner_rows L u v) ≤ length list
    → set list 0 k ≡ stored 0 (inner_rows L u v) list
direct_written L u v k list lacks is l = rw (lacks, is) (stored-sets 0 (k ∷ []) list (rw lacks at l))

pub length_opened : (b : Book) (u r : ℕ) → length (opened b u r) ≡ length (inner_chain b u r) + length (outer_chain b u r)
unfolding opened
length_opened b u r = length-append (inner_chain b u r) (outer_chain b u r)

-- ---- a resource's keys

-- a lent layer that is one of a sound book's
keeps-rules : {n : ℕ} {L : Layer} (l : Lent) → Layered n L → layer_in l ≡ L → Laid l.shape l.tokens.now l.vertices.now → Keeps l
keeps-rules {n} {L} l g e laid =
    let rules : Rules n (layer_in l) = layered-rules n (layer_in l) (rw e g) in
    record { laid = laid; s4 = rules.rising'; s5 = rules.united' }

module _ (h : Head) (t : Tables) (ready : Ready h t) where
  abbrev b : Book
  b = book_in h t

  pub counts : Sizes h t
  counts = sizes h t.inner_vertices t.inner_tokens t.outer_vertices t.outer_tokens t.resources ready

  pub outer-laid : Laid (outer_shape h) t.outer_tokens t.outer_vertices
  unfolding book_in layer_of
  outer-laid =
      layered-laid (outer_shape h) t.outer_tokens t.outer_vertices (sound-kept b ready.sound').outer (omega arith, omega arith) counts.room.outer_tokens counts.room.outer_vertices
      (omega (arith, counts.outer_tokens≤))

  -- x is the row of resource r
  module _ {r : ℕ} (here : r < h.resources.0) {x : Resource} (ex : x ≡ get_or (resources_in h.resources.0 t.resources) r no_resource) where
    row : x ≡ resource b r
    unfolding book_in resource
    row = ex

    inside : r < length b.resources
    inside = omega (arith, here, resources-count h t.inner_vertices t.inner_tokens t.outer_vertices t.outer_tokens t.resources)

    outer-in : (resource b r).outer ≢ book.none → (resource b r).outer < length b.outer.sets
    outer-in n = go ((sound-kept b ready.sound').place (resource b r) (member b r inside))
      where
        go : Place (length b.outer.sets) (resource b r) → (resource b r).outer < length b.outer.sets
        go (inl e) = absurd (n e)
        go (inr l) = l

    pub keys-are : {k : Keys} → layer_in k.inner ≡ b.inner → Laid k.inner.shape k.inner.tokens.now k.inner.vertices.now
        → layer_in k.outer ≡ b.outer → Laid k.outer.shape k.outer.tokens.now k.outer.vertices.now
        → k.inner_vertex.0 ≡ x.inner → k.outer_vertex.0 ≡ x.outer → KeysOf h t r k
    keys-are {k} ei li eo lo vi vo =
        let iv : k.inner_vertex.0 ≡ (resource b r).inner = vi ∙ ap (λ (y : Resource). y.inner) row in
        let ov : k.outer_vertex.0 ≡ (resource b r).outer = vo ∙ ap (λ (y : Resource). y.outer) row in
        record {
          users≤ = omega (arith, counts.users≤);
          inner = ei;
          outer = eo;
          inner-keeps = keeps-rules k.inner (sound-kept b ready.sound').inner ei li;
          outer-keeps = keeps-rules k.outer (sound-kept b ready.sound').outer eo lo;
          inner-vertex = iv;
          outer-vertex = ov;
          inner-there = omega (
            arith,
            iv,
            (sound-kept b ready.sound').inner< (resource b r) (member b r inside),
            ap (λ (L : Layer). length L.sets) ei,
            layer-sets k.inner.shape k.inner.tokens.now k.inner.vertices.now,
          );
          outer-there = λ n. omega (
            arith,
            ov,
            outer-in (λ e. n (ov ∙ e)),
            ap (λ (L : Layer). length L.sets) eo,
            layer-sets k.outer.shape k.outer.tokens.now k.outer.vertices.now,
          );
        }

module _ {h : Head} {t : Tables} {r : ℕ} {k : Keys} (f : KeysOf h t r k) where
  abbrev B : Book
  B = book_in h t

  -- ---- the view

  -- s the holders of the inner vertex
  pub view-is : (u : ℕ) {s : ℕ} {z y : Bool} {w : View} → s ≡ holders (layer_in k.inner) k.inner_vertex.0 → z ≡ has s u
      → y ≡ known_in (layer_in k.outer) u k.outer_vertex.0 → w ≡ view_by z y → w ≡ view B u r
  unfolding view inner_known outer_known holders_of has_outer
  view-is u es ez ey ew = rw (ew, ez, es, ey, f.inner, f.outer, f.inner-vertex, f.outer-vertex)

  -- ---- where the view is open

  module _ {u : ℕ} (o : Opening h t u r) where
    safe : sound B ≡ true
    safe = o.ready.sound'

    opened-by : Opens B u r
    opened-by = (view-open B safe u r).0 o.opens

    inside' : r < length B.resources
    inside' = omega (arith, o.there, resources-count h t.inner_vertices t.inner_tokens t.outer_vertices t.outer_tokens t.resources)

    -- RULES 5.10 b: a user who is not in the inner vertex's set has the one kind 1 row
    pub let_in : LetIn k.inner.shape (layer_in k.inner) u k.inner_vertex.0
    let_in = rw (f.inner, f.inner-vertex) (λ lacks.
        omega (
          arith,
          ap (λ (L : Layer). length L.tokens) f.inner,
          layer-tokens k.inner.shape k.inner.tokens.now k.inner.vertices.now,
          (direct-row (sound-kept B safe).inner u (resource B r).inner ((inner-access B safe u (resource B r).inner).0 opened-by.bel) lacks).there,
        ))

    pub outer_names : OuterNames k.outer.shape (layer_in k.outer) u k.outer_vertex.0
    outer_names n = (
      f.outer-there n,
      rw (f.outer, f.outer-vertex) ((outer-main B safe u (resource B r).outer).0 (opened-by.sel (λ e. n (f.outer-vertex ∙ e)))),
    )

    -- each chain in its own layer is the book's, and has fewer rows than there can be users
    pub inner-shown : inner_rows (layer_in k.inner) u k.inner_vertex.0 ≡ inner_chain B u r
    unfolding inner_chain
    inner-shown = rw (f.inner, f.inner-vertex)

    pub outer-shown : outer_rows (layer_in k.outer) u k.outer_vertex.0 ≡ outer_chain B u r
    unfolding outer_chain has_outer
    outer-shown = rw (f.outer, f.outer-vertex)

    pub inner_short : length (inner_rows (layer_in k.inner) u k.inner_vertex.0) < people
    inner_short = rw inner-shown (inner-few B safe u r opened-by inside')

    pub outer_short : length (outer_rows (layer_in k.outer) u k.outer_vertex.0) < people
    outer_short = rw outer-shown (outer-few B safe u r opened-by inside')

    pub lengths_are : {m n : ℕ} → m ≡ length (inner_rows (layer_in k.inner) u k.inner_vertex.0) → n ≡ length (outer_rows (layer_in k.outer) u k.outer_vertex.0)
        → record { inner = m; outer = n } ≡ lengths_of B u r
    lengths_are {m} {n} em en = ap₂ lengths (em ∙ ap length inner-shown) (en ∙ ap length outer-shown)
      where
        lengths : ℕ → ℕ → Chains
        lengths m n = record { inner = m; outer = n }

    -- the list after the inner rows, and with the rows `ys` put into its part behind them
    module _ (list : List ℕ) (room : length (opened B u r) ≤ length list) where
      both : length (inner_chain B u r) + length (outer_chain B u r) ≤ length list
      both = omega (arith, length_opened B u r)

      pub inner_room : length (inner_rows (layer_in k.inner) u k.inner_vertex.0) ≤ length list
      inner_room = rw inner-shown (omega (arith, both))

      module _ {at : ℕ} (ea : at ≡ length (inner_chain B u r)) {list' : List ℕ} (e : list' ≡ stored 0 (inner_rows (layer_in k.inner) u k.inner_vertex.0) list) where
        longer : length list' ≡ length list
        longer = ap length e ∙ length-stored 0 (inner_rows (layer_in k.inner) u k.inner_vertex.0) list (omega (arith, inner_room))

        pub starts-within : (at ≤ length list') × (at < people)
        starts-within = (omega (arith, both, longer), omega (arith, ap length inner-shown, inner_short))

        pub outer-room : length (outer_rows (layer_in k.outer) u k.outer_vertex.0) ≤ length (take (length list' - at) (drop at list'))
        outer-room = rw outer-shown (simp (length-take, length-drop) (omega (arith, both, longer)))

        pub both_stored : {ys : List ℕ} → ys ≡ stored 0 (outer_rows (layer_in k.outer) u k.outer_vertex.0) (take (length list' - at) (drop at list'))
            → put_mid at (length list' - at) list' ys ≡ stored 0 (opened B u r) list
        unfolding opened
        both_stored {ys} q =
            stored-part at (outer_chain B u r) list' ys starts-within.0 (rw outer-shown at q)
            ∙ ap (stored at (outer_chain B u r)) (rw inner-shown at e)
            ∙ stored-add 0 (inner_chain B u r) (outer_chain B u r) list at (omega arith) (omega (arith, both))

-- ---- the refusals of open: 1, 11 and 10

-- a view by its number among the cases, where it is not the first
pub not-open : (number : View → ℕ) {v : View} → number Open ≡ 0 → (number v ≡ 1) ⊎ ((number v ≡ 2) ⊎ (number v ≡ 3)) → v ≢ Open
not-open number {v} z (inl e) q = let a : number v ≡ 0 = ap number q ∙ z in omega arith
not-open number {v} z (inr (inl e)) q = let a : number v ≡ 0 = ap number q ∙ z in omega arith
not-open number {v} z (inr (inr e)) q = let a : number v ≡ 0 = ap number q ∙ z in omega arith

closed : (v : View) → v ≢ Open → not (eqb (view_number v) 0) ≡ true
closed Open n = absurd (n refl)
closed SelLocked n = refl
closed BelLocked n = refl
closed Locked n = refl

-- z is the code's test for 1
module _ (h : Head) (t : Tables) (u r : ℕ) {z : Result Unit Refusal} (ez : z ≡ cond (ltb u h.users.0 && ltb r h.resources.0) (Ok tt) (Err NoSuch)) where
  abbrev A : Book
  A = book_in h t

  pub missing : {e : Refusal} → z ≡ Err e → (no_such A u r ≡ true) × (e ≡ NoSuch)
  missing = none-such h t.inner_vertices t.inner_tokens t.outer_vertices t.outer_tokens t.resources r u ez

  pub present : {x : Unit} → z ≡ Ok x → no_such A u r ≡ false
  present = some-such h t.inner_vertices t.inner_tokens t.outer_vertices t.outer_tokens t.resources r u ez

  module _ (room : ℕ) where
    pub open-no-such : {e : Refusal} → z ≡ Err e → Err e ≡ openable A u r room
    unfolding openable openable_by verdict
    open-no-such q = let (n, e) = missing q in rw (n, e)

    module _ {x : Unit} (ok : z ≡ Ok x) {v : View} (ev : v ≡ view A u r) where
      pub open-closed : v ≢ Open → Err (Closed v) ≡ openable A u r room
      unfolding openable openable_by verdict
      open-closed n = rw (present ok, ← ev, closed v n)

      module _ (eo : v ≡ Open) {k : Chains} (ek : k ≡ lengths_of A u r) where
        count : k.inner + k.outer ≡ length (opened A u r)
        count = rw ek (sym (length_opened A u r))

        pub open-short : room < k.inner + k.outer → Err ShortList ≡ openable A u r room
        unfolding openable openable_by verdict
        open-short l = rw (present ok, ← ev, eo, lt-ltb room (length (opened A u r)) (omega (arith, count)))

        pub open-go : k.inner + k.outer ≤ room → Ok k ≡ openable A u r room
        unfolding openable openable_by verdict
        open-go l = rw (ek, present ok, ← ev, eo, le-ltb room (length (opened A u r)) (omega (arith, count)))

-- ---- the calls

module _ (h : Head) (t : Tables) (u r : ℕ) where
  abbrev C : Book
  C = book_in h t

  -- 13 or 12
  module _ {k : Result Unit Refusal} {n : Refusal} (ek : k ≡ checked h t) (e : k ≡ Err n) where
    pub view-unsound : Err n ≡ view_call u r h t
    unfolding view_call view_call_by refusal_view
    view-unsound = rw (unsound h t ek e _)

    pub open-unsound : (list : List ℕ) → showing (Err n) list ≡ open_call u r h t list
    unfolding open_call open_by refusal_open
    open-unsound list = rw (unsound h t ek e _)

  module _ (ready : Ready h t) where
    module _ {z : Result Unit Refusal} (ez : z ≡ cond (ltb u h.users.0 && ltb r h.resources.0) (Ok tt) (Err NoSuch)) where
      pub view-no-such : {n : Refusal} → z ≡ Err n → Err n ≡ view_call u r h t
      unfolding view_call view_call_by refusal_view verdict
      view-no-such q = let (n, e) = missing h t u r ez q in rw (rest-decides h t ready _, n, e)

      pub view-told : {x : Unit} {w : View} → z ≡ Ok x → w ≡ view C u r → Ok w ≡ view_call u r h t
      unfolding view_call view_call_by refusal_view verdict
      view-told q e = rw (rest-decides h t ready _, present h t u r ez q, e)

    -- an open as it is judged
    module _ (room : ℕ) {j : Result Chains Refusal} (ej : j ≡ openable C u r room) where
      past : refusal_open t C room u r ≡ verdict (own_open C u r room)
      unfolding refusal_open
      past = rest-decides h t ready _

      pub judged-no : {n : Refusal} → j ≡ Err n → refusal_open t C room u r ≡ some n
      unfolding openable openable_by
      judged-no {n} e = past ∙ go (verdict (own_open C u r room)) (sym ej ∙ e)
        where
          go : (o : Option Refusal) → openable_by o (lengths_of C u r) ≡ Err n → o ≡ some n
          go (some x) q = cc
          go none q = cc

      pub judged-go : {k : Chains} → j ≡ Ok k → (refusal_open t C room u r ≡ none) × (k ≡ lengths_of C u r)
      unfolding openable openable_by
      judged-go {k} e = let (v, l) = go (verdict (own_open C u r room)) (sym ej ∙ e) in (past ∙ v, l)
        where
          go : (o : Option Refusal) → openable_by o (lengths_of C u r) ≡ Ok k → (o ≡ none) × (k ≡ lengths_of C u r)
          go (some x) q = (cc, cc)
          go none q = (refl, cc)

    module _ (list : List ℕ) {j : Result Chains Refusal} (ej : j ≡ openable C u r (length list)) where
      pub open_no : {n : Refusal} → j ≡ Err n → showing (Err n) list ≡ open_call u r h t list
      unfolding open_call open_by
      open_no e = rw (judged-no _ ej e)

      pub open-shown : {k : Chains} {list' : List ℕ} → j ≡ Ok k → list' ≡ stored 0 (opened C u r) list → showing (Ok k) list' ≡ open_call u r h t list
      unfolding open_call open_by
      open-shown e q = let (v, l) = judged-go _ ej e in rw (v, l, q)
