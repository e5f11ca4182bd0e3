-- S1 to S8 of the book in five tables: where each is broken first, by the searches that the check makes.
-- Assumes nothing.
use Prim.Native.Nat.{ℕ, ◌^◌, ◌<◌}
use Rattle.std.specs.Prelude.{Option, Result, Ok}
use mathlib.Core.Path.{◌≡◌, refl, sym, ap, ap₂, ◌∙◌, subst}
use mathlib.Core.Bool.{Bool, true, false, ◌&&◌, ◌||◌, not, true≢false, and-true, not-not}
use mathlib.Core.Logic.{◌⊎◌, inl, inr}
use mathlib.Core.List.{List, [], ◌∷◌, Memᴰ}
use lib.Dec.{eqb, ltb, leb}
use lib.ListN.{length, get_or, take}
use lib.Seq.{get_or-take}
use borrow.Author.Tests.{eqb-true, eq-eqb, leb-true, not-true, not-false}
use native.Mathlib.Omega.{arith}
use lib.ListN.{length-take}
use Rattle.sets.specs.Sets.{within, inside, size}
use Rattle.sets.proofs.Laws.{both, inside-within}
use Rattle.rules.specs.Lists as lists
use Rattle.rules.specs.Lists.{every, first, numbered, up_to}
use Rattle.rules.specs.Tests.{thing, rows, things, unlike_earlier, broken, first_rule}
use Rattle.rules.specs.Layer.{Layer, token, set_of}
use Rattle.rules.specs.Book.{Book}
use Rattle.rules.specs.Holders.{holders}
use Rattle.rules.specs.Bytes.{Tables, book_in, sets_in, tokens_in, resources_in}
use Rattle.rules.specs.Sound.{joined_set, placed_row, plain_row, has_own, not_empty, enters_group, unequal, rising_row, united_vertex, lateral_row, other_row, new_row, counts, placed, held, locked_for, locked, rows1, rows2, rows3, rows4, rows5, rows6, rows7, rows8, rules, S1, S4}
use Rattle.rules.specs.declared.Head.{Head}
use Rattle.rules.specs.declared.Token.{Token}
use Rattle.theorems.specs.Layers.{named, rising}
use Rattle.theorems.proofs.ListLaws.{every-mem, get_or-mem, mem-get_or, length-numbered, length-up_to}
use Rattle.theorems.proofs.TestedLaws.{s1-is, s4-is}
use Rattle.theorems.proofs.FaultLaws.{counts-head}
use Rattle.theorems.proofs.RuleLaws.{kind-cases}
use Rattle.theorems.proofs.RowLaws.{outer-plain}
use Rattle.theorems.proofs.ByteLaws.{head-in}
use Rattle.layer.specs.Laid.{layer_of, found_in, is_set}
use Rattle.layer.specs.Lent.{layer_in}
use Rattle.layer.specs.declared.laid.Layer.{Layer as Lent}
use Rattle.layer.specs.declared.walk.Shape.{Shape}
use Rattle.layer.proofs.Read.{length-sets, length-tokens, length-resources, layer-tokens}
use Rattle.sound.specs.Check.{counts_of, row_of, missing_of, lower, unless}
use Rattle.sound.specs.Faults.{placed_in, has_own_in, repeated, same_ends, again, placed_at, locked_by}
use Rattle.rules.specs.declared.Letter.TheVariants as letter
use Rattle.rules.specs.declared.Spot.{Spot}
use Rattle.rules.specs.declared.Spot.TheVariants.{Leavers}
use Rattle.sound.proofs.Spots.{row-told, thing-told, Rest, none_found, first-agree, first_either, first-numbered, first-at-number, some-not, nowhere-kept, Left}

-- ---- what the searches find

abbrev pub strange_sets : ℕ → ℕ → List ℕ → Option ℕ
strange_sets u n vs = found_in n (first (λ s. not (joined_set u s)) (sets_in n vs))

abbrev pub strange_tokens : ℕ → ℕ → ℕ → List ℕ → Option ℕ
strange_tokens w n m ts = found_in n (first (λ t. not (placed_in m t)) (tokens_in w n ts))

abbrev pub ownless_users : ℕ → ℕ → List ℕ → Option ℕ
ownless_users u n vs = found_in u (first (λ v. not (has_own_in (sets_in n vs) v)) (up_to u))

abbrev pub empty_sets : ℕ → List ℕ → Option ℕ
empty_sets n vs = found_in n (first (is_set 0) (sets_in n vs))

-- the answer r of the search for the set s, which is empty
pub empty-sought : (n : ℕ) (vs : List ℕ) {s : ℕ} {r : Option ℕ} → r ≡ found_in n (first (is_set s) (sets_in n vs)) → s ≡ 0 → r ≡ empty_sets n vs
empty-sought n vs e z = e ∙ ap (λ (x : ℕ). found_in n (first (is_set x) (sets_in n vs))) z

abbrev pub equal_sets : ℕ → List ℕ → Option ℕ
equal_sets n vs = found_in n (first (repeated (sets_in n vs)) (up_to n))

plain-row : (b c : Bool) → c ≡ true → not b ≡ not (b && c)
plain-row b c e = ap not (sym (ap (λ (z : Bool). b && z) e ∙ and-true b))

-- ---- a search in one layer, whose vertices are section k and whose tokens are section k + 1

module _ (l : Shape) (ts vs : List ℕ) where
  abbrev L : Layer
  L = layer_of l ts vs

  -- the answer r of a search, and what x says of it
  module _ (k : ℕ) {r : Option ℕ} {x : Result (Unit {0}) Spot} (a : x ≡ row_of k r) where
    pub sets-told : (u : ℕ) → r ≡ strange_sets u l.vertices vs → x ≡ unless (broken (rows k (joined_set u) L.sets ∷ []))
    unfolding layer_of
    sets-told u e = row-told (joined_set u) (λ s. not (joined_set u s)) (sets_in l.vertices vs) (length-sets l.vertices vs) (λ s m. refl) k a e

    pub tokens-told : r ≡ strange_tokens l.width l.tokens l.vertices ts → x ≡ unless (broken (rows k (placed_row L) L.tokens ∷ []))
    unfolding layer_of placed_row
    tokens-told e =
        row-told (placed_row L) (λ t. not (placed_in l.vertices t)) (tokens_in l.width l.tokens ts) (length-tokens l.width l.tokens ts)
        (λ t m. rw (length-sets l.vertices vs)) k a e

    -- where the rows have no kind
    pub plain-told : l.width ≡ 4 → r ≡ strange_tokens l.width l.tokens l.vertices ts → x ≡ unless (broken (rows k (plain_row L) L.tokens ∷ []))
    unfolding layer_of placed_row plain_row
    plain-told w e =
        row-told (plain_row L) (λ t. not (placed_in l.vertices t)) (tokens_in l.width l.tokens ts) (length-tokens l.width l.tokens ts)
        (λ t m. rw (length-sets l.vertices vs) (plain-row (placed_in l.vertices t) (eqb t.kind 0) (eq-eqb t.kind 0 (plain t m)))) k a e
      where
        plain : (t : Token) → Memᴰ t (tokens_in l.width l.tokens ts) → t.kind ≡ 0
        plain t m = outer-plain l.tokens ts (rw w at m)

    pub empty-told : r ≡ empty_sets l.vertices vs → x ≡ unless (broken (rows k not_empty L.sets ∷ []))
    unfolding layer_of not_empty
    empty-told e =
        row-told not_empty (is_set 0) (sets_in l.vertices vs) (length-sets l.vertices vs) (λ s m. sym (not-not (eqb s 0))) k a e

    pub equal-told : r ≡ equal_sets l.vertices vs → x ≡ unless (broken (rows k (unlike_earlier unequal L.sets) (numbered 0 L.sets) ∷ []))
    unfolding layer_of unlike_earlier unequal repeated
    equal-told e =
        row-told (unlike_earlier unequal sets) (λ v. not (unlike_earlier unequal sets v)) (numbered 0 sets)
        (length-numbered 0 sets ∙ length-sets l.vertices vs) (λ v m. refl) k a
        (e ∙ ap (found_in l.vertices) (sym (first-numbered (λ v. not (unlike_earlier unequal sets v)) (repeated sets) sets 0 (length-sets l.vertices vs) agree)))
      where
        sets : List ℕ
        sets = sets_in l.vertices vs

        agree : (i : ℕ) → i < length (sets_in l.vertices vs)
            → not (every (λ s. not (eqb s (get_or (sets_in l.vertices vs) i 0))) (take i (sets_in l.vertices vs)))
            ≡ lists.some (λ s. eqb s (get_or (sets_in l.vertices vs) i 0)) (take i (sets_in l.vertices vs))
        agree i m =
            sym (some-not (λ s. not (eqb s (get_or (sets_in l.vertices vs) i 0))) (λ s. eqb s (get_or (sets_in l.vertices vs) i 0)) (take i (sets_in l.vertices vs))
            (λ s n. sym (not-not (eqb s (get_or (sets_in l.vertices vs) i 0)))))

  pub own-told : (u : ℕ) {r : Option ℕ} {x : Result (Unit {0}) Spot} → x ≡ missing_of r → r ≡ ownless_users u l.vertices vs
      → x ≡ unless (broken (things (has_own L) (up_to u) ∷ []))
  unfolding layer_of has_own
  own-told u a e = thing-told (has_own L) (λ v. not (has_own_in (sets_in l.vertices vs) v)) (up_to u) (length-up_to u) (λ v m. refl) a e

-- ---- a search in a lent layer

module _ (l : Lent) {L : Layer} (e : layer_in l ≡ L) (k : ℕ) where
  -- the answer r of a search, and what x says of it
  module _ {r : Option ℕ} {x : Result (Unit {0}) Spot} (a : x ≡ row_of k r) where
    pub faults-told : (f : Layer → Token → Bool) → r ≡ found_in l.shape.tokens (first (λ t. not (f (layer_in l) t)) (layer_in l).tokens)
        → x ≡ unless (broken (rows k (f L) L.tokens ∷ []))
    faults-told f q =
        subst (λ (M : Layer). x ≡ unless (broken (rows k (f M) M.tokens ∷ []))) e
        (row-told (f (layer_in l)) (λ t. not (f (layer_in l) t)) (layer_in l).tokens (layer-tokens l.shape l.tokens.now l.vertices.now) (λ t m. refl) k a q)

    pub united-told : r ≡ found_in l.shape.vertices (first (λ v. not (united_vertex (layer_in l) v)) (numbered 0 (layer_in l).sets))
        → x ≡ unless (broken (rows k (united_vertex L) (numbered 0 L.sets) ∷ []))
    unfolding layer_of
    united-told q =
        subst (λ (M : Layer). x ≡ unless (broken (rows k (united_vertex M) (numbered 0 M.sets) ∷ []))) e
        (row-told (united_vertex (layer_in l)) (λ v. not (united_vertex (layer_in l) v)) (numbered 0 (layer_in l).sets)
        (length-numbered 0 (sets_in l.shape.vertices l.vertices.now) ∙ length-sets l.shape.vertices l.vertices.now) (λ v m. refl) k a q)

-- ---- S6: tokens with the same ends are the same row, since a kind 0 token leads to a set that contains its source's, and a kind 1 token does not. So up
-- to the first kind 1 token that lets in nobody new, the ends tell equal rows.

module _ (L : Layer) where
  abbrev leads-in : Token → Bool
  leads-in t = within (set_of L t.from) (set_of L t.to)

  abbrev Kind : Token → Type 0
  Kind t = ((t.kind ≡ 0) × (leads-in t ≡ true)) ⊎ ((t.kind ≡ 1) × (leads-in t ≡ false))

  kind : (t : Token) → placed_row L t ≡ true → rising_row L t ≡ true → lateral_row L t ≡ true → Kind t
  unfolding placed_row rising_row lateral_row
  kind t p r s = go (kind-cases t.kind (leb-true t.kind 1 low))
    where
      low : leb t.kind 1 ≡ true
      low =
          (both (leb t.kind 1) (ltb t.from (length L.sets))
          (both (leb t.kind 1 && ltb t.from (length L.sets)) (ltb t.to (length L.sets)) p).0).0

      go : (t.kind ≡ 0) ⊎ (t.kind ≡ 1) → Kind t
      go (inl k) =
          let row : (not (eqb (set_of L t.from) 0) && inside (set_of L t.from) (set_of L t.to)) ≡ true = rw k at r in
          inl (k, inside-within (set_of L t.from) (set_of L t.to) (both (not (eqb (set_of L t.from) 0)) (inside (set_of L t.from) (set_of L t.to)) row).1)
      go (inr k) =
          let row : (eqb (size (set_of L t.from)) 1 && not (leads-in t)) ≡ true = rw k at s in
          inr (k, not-true (leads-in t) (both (eqb (size (set_of L t.from)) 1) (not (leads-in t)) row).1)

  same_kind : (x y : Token) → Kind x → Kind y → same_ends x y ≡ true → x.kind ≡ y.kind
  same_kind x y m n e = go m n
    where
      alike : leads-in x ≡ leads-in y
      alike =
          let (f, g) = both (eqb x.from y.from) (eqb x.to y.to) e in
          ap₂ (λ (a b : ℕ). within (set_of L a) (set_of L b)) (eqb-true x.from y.from f) (eqb-true x.to y.to g)

      go : Kind x → Kind y → x.kind ≡ y.kind
      go (inl (k, a)) (inl (j, b)) = k ∙ sym j
      go (inl (k, a)) (inr (j, b)) = absurd (true≢false (sym a ∙ alike ∙ b))
      go (inr (k, a)) (inl (j, b)) = absurd (true≢false (sym b ∙ sym alike ∙ a))
      go (inr (k, a)) (inr (j, b)) = k ∙ sym j

  same_row : (x y : Token) → Kind x → Kind y → same_ends x y ≡ not (other_row x y)
  unfolding other_row
  same_row x y m n = go (same_ends x y) refl ∙ sym (not-not (same_ends x y && eqb x.kind y.kind))
    where
      go : (b : Bool) → same_ends x y ≡ b → b ≡ (b && eqb x.kind y.kind)
      go true e = sym (eq-eqb x.kind y.kind (same_kind x y m n e))
      go false e = refl

  module _ (p : every (placed_row L) L.tokens ≡ true) (r : rising L ≡ true) where
    abbrev at : ℕ → Token
    at i = get_or L.tokens i (token 0 0 0)

    kind_at : (i : ℕ) → i < length L.tokens → lateral_row L (at i) ≡ true → Kind (at i)
    unfolding rising
    kind_at i l s =
        let m = get_or-mem L.tokens i (token 0 0 0) l in
        kind (at i) (every-mem (placed_row L) L.tokens p m) (every-mem (rising_row L) L.tokens r m) s

    -- a row offends: it lets in nobody new, or it stands above too
    offends : (i : ℕ) → i < length L.tokens → ((j : ℕ) → j < i → not (new_row L (j, at j)) ≡ false)
        → (not (lateral_row L (at i)) || again L.tokens i) ≡ not (new_row L (i, at i))
    unfolding new_row unlike_earlier again
    offends i l below = go (lateral_row L (at i)) refl
      where
        before : (x : Token) → Memᴰ x (take i L.tokens) → Kind x
        before x m =
            let (j, k, e) = mem-get_or (take i L.tokens) (token 0 0 0) m in
            let lt : j < i = omega (arith, simp length-take at k) in
            let row : at j ≡ x = sym (get_or-take i L.tokens j (token 0 0 0) lt) ∙ e in
            let new : (lateral_row L (at j) && every (λ x. other_row x (at j)) (take j L.tokens)) ≡ true = not-false _ (below j lt) in
            subst Kind row (kind_at j (omega arith) (both (lateral_row L (at j)) (every (λ x. other_row x (at j)) (take j L.tokens)) new).0)

        go : (b : Bool) → lateral_row L (at i) ≡ b
            → (not b || lists.some (λ s. same_ends s (at i)) (take i L.tokens)) ≡ not (b && every (λ x. other_row x (at i)) (take i L.tokens))
        go false e = refl
        go true e =
            some-not (λ x. other_row x (at i)) (λ s. same_ends s (at i)) (take i L.tokens)
            (λ x m. same_row x (at i) (before x m) (kind_at i l e))

    pub new-rows : {n : ℕ} → length L.tokens ≡ n
        → lower (found_in n (first (λ t. not (lateral_row L t)) L.tokens)) (found_in n (first (again L.tokens) (up_to n)))
        ≡ found_in n (first (λ v. not (new_row L v)) (numbered 0 L.tokens))
    new-rows {n} l =
        ap (λ (i : ℕ). lower (found_in n i) (found_in n (first (again L.tokens) (up_to n)))) (first-at-number (λ t. not (lateral_row L t)) L.tokens (token 0 0 0) l)
        ∙ first_either (λ i. not (lateral_row L (at i))) (again L.tokens) (up_to n) n
        ∙ ap (found_in n)
        (first-agree (λ i. not (lateral_row L (at i)) || again L.tokens i) (λ i. not (new_row L (i, at i))) n (λ i k. offends i (rw l k))
        ∙ sym (first-numbered (λ v. not (new_row L v)) (λ i. not (new_row L (i, at i))) L.tokens (token 0 0 0) l (λ i k. refl)))

-- of a lent layer, by the answer of the search for equal ends
module _ (l : Lent) {L : Layer} (e : layer_in l ≡ L) (p : every (placed_row L) L.tokens ≡ true) (r : rising L ≡ true) (k : ℕ) {b : Option ℕ}
    (f : b ≡ found_in l.shape.tokens (first (again (tokens_in l.shape.width l.shape.tokens l.tokens.now)) (up_to l.shape.tokens))) where
  many : length L.tokens ≡ l.shape.tokens
  many = subst (λ (M : Layer). length M.tokens ≡ l.shape.tokens) e (layer-tokens l.shape l.tokens.now l.vertices.now)

  told : row_of k (lower (found_in l.shape.tokens (first (λ t. not (lateral_row L t)) L.tokens)) b) ≡ unless (broken (rows k (new_row L) (numbered 0 L.tokens) ∷ []))
  unfolding layer_of
  told =
      row-told (new_row L) (λ v. not (new_row L v)) (numbered 0 L.tokens) (length-numbered 0 L.tokens ∙ many) (λ v m. refl) k refl
      (ap (lower (found_in l.shape.tokens (first (λ t. not (lateral_row L t)) L.tokens)))
      (f ∙ ap (λ (M : Layer). found_in l.shape.tokens (first (again M.tokens) (up_to l.shape.tokens))) e)
      ∙ new-rows L p r many)

  -- the lower of that and the first that lets in nobody new
  pub new-told : {a m : Option ℕ} {x : Result (Unit {0}) Spot} → x ≡ row_of k m → m ≡ lower a b → a ≡ found_in l.shape.tokens (first (λ t. not (lateral_row (layer_in l) t)) (layer_in l).tokens)
      → x ≡ unless (broken (rows k (new_row L) (numbered 0 L.tokens) ∷ []))
  new-told y m a =
      y
      ∙ ap (row_of k)
      (m ∙ ap (λ (f : Option ℕ). lower f b) (a ∙ ap (λ (M : Layer). found_in l.shape.tokens (first (λ t. not (lateral_row M t)) M.tokens)) e))
      ∙ told

  -- no token is of kind 1
  pub new-plain : {x : Result (Unit {0}) Spot} → ((t : Token) → Memᴰ t L.tokens → t.kind ≡ 0) → x ≡ row_of k b → x ≡ unless (broken (rows k (new_row L) (numbered 0 L.tokens) ∷ []))
  unfolding lateral_row
  new-plain h y =
      y ∙ ap (λ (f : Option ℕ). row_of k (lower f b)) (sym (none_found (lateral_row L) L.tokens many (λ t m. rw (h t m)))) ∙ told

-- ---- the rules of the book in the tables

module _ (h : Head) (t : Tables) where
  abbrev B : Book
  B = book_in h t

  pub counts-of : counts (book_in h t) ≡ counts_of h
  unfolding counts_of
  counts-of = counts-head (book_in h t) ∙ ap counts_of (head-in h t)

  -- what the searches among the resources find
  abbrev pub misplaced_resources : ℕ → ℕ → Option ℕ
  misplaced_resources n m = found_in h.resources.0 (first (λ x. not (placed_at h.users.0 h.leavers.0 n m x)) (resources_in h.resources.0 t.resources))

  abbrev pub unheld_resources : Lent → Option ℕ
  unheld_resources l =
      found_in h.resources.0 (first (λ x. not (within x.list (holders (layer_in l) x.inner))) (resources_in h.resources.0 t.resources))

  abbrev pub unlocked_resources : Lent → Option ℕ
  unlocked_resources l =
      found_in h.resources.0
      (first (λ x. not (locked_by h.mode.0 (holders (layer_in l) x.inner) (sets_in h.outer_vertices.0 t.outer_vertices) x)) (resources_in h.resources.0 t.resources))

  -- what S1 to S6 test, one search after the other
  pub s1-rest : Rest (broken (rows1 (book_in h t)))
      (thing Leavers (ltb h.leavers.0 (2 ^ h.users.0))
      ∷ rows 0 (joined_set h.users.0) B.inner.sets ∷ rows 1 (placed_row B.inner) B.inner.tokens ∷ rows 2 (joined_set h.users.0) B.outer.sets
      ∷ rows 3 (plain_row B.outer) B.outer.tokens ∷ rows 4 (placed B) (resources_in h.resources.0 t.resources) ∷ [])
  unfolding rows1 joined_set book_in
  s1-rest = record { is = refl }

  pub s2-rest : Rest (broken (rows2 (book_in h t)))
      (things (has_own B.inner) (up_to h.users.0) ∷ things (has_own B.outer) (up_to h.users.0) ∷ rows 0 not_empty B.inner.sets
      ∷ rows 1 (enters_group B.inner) B.inner.tokens ∷ rows 3 (enters_group B.outer) B.outer.tokens ∷ [])
  unfolding rows2 book_in
  s2-rest = record { is = refl }

  pub s3-rest : Rest (broken (rows3 (book_in h t)))
      (rows 0 (unlike_earlier unequal B.inner.sets) (numbered 0 B.inner.sets) ∷ rows 2 (unlike_earlier unequal B.outer.sets) (numbered 0 B.outer.sets) ∷ [])
  unfolding rows3
  s3-rest = record { is = refl }

  pub s4-rest : Rest (broken (rows4 (book_in h t))) (rows 1 (rising_row B.inner) B.inner.tokens ∷ rows 3 (rising_row B.outer) B.outer.tokens ∷ [])
  unfolding rows4
  s4-rest = record { is = refl }

  pub s5-rest : Rest (broken (rows5 (book_in h t)))
      (rows 0 (united_vertex B.inner) (numbered 0 B.inner.sets) ∷ rows 2 (united_vertex B.outer) (numbered 0 B.outer.sets) ∷ [])
  unfolding rows5
  s5-rest = record { is = refl }

  pub s6-rest : Rest (broken (rows6 (book_in h t)))
      (rows 1 (new_row B.inner) (numbered 0 B.inner.tokens) ∷ rows 3 (new_row B.outer) (numbered 0 B.outer.tokens) ∷ [])
  unfolding rows6
  s6-rest = record { is = refl }

  -- the answer r of the search among the resources, and what x says of it
  module _ {r : Option ℕ} {x : Result (Unit {0}) Spot} (y : x ≡ row_of 4 r) where
    pub placed-told : r ≡ misplaced_resources h.inner_vertices.0 h.outer_vertices.0 → x ≡ unless (broken (rows 4 (placed B) (resources_in h.resources.0 t.resources) ∷ []))
    unfolding book_in placed
    placed-told e =
        row-told (placed B) (λ x. not (placed_at h.users.0 h.leavers.0 h.inner_vertices.0 h.outer_vertices.0 x)) (resources_in h.resources.0 t.resources)
        (length-resources h.resources.0 t.resources)
        (λ x m. rw (length-sets h.inner_vertices.0 t.inner_vertices, length-sets h.outer_vertices.0 t.outer_vertices)) 4 y e

    module _ (l : Lent) (e : layer_in l ≡ B.inner) where
      pub s7-told : r ≡ unheld_resources l → x ≡ unless (broken (rows7 (book_in h t)))
      unfolding rows7 held book_in
      s7-told a =
          row-told (held B) (λ x. not (held B x)) (resources_in h.resources.0 t.resources) (length-resources h.resources.0 t.resources) (λ y m. refl) 4 y
          (rw e at a)

      pub s8-told : r ≡ unlocked_resources l → x ≡ unless (broken (rows8 (book_in h t)))
      unfolding rows8 locked locked_for set_of book_in
      s8-told a =
          row-told (locked B) (λ x. not (locked B x)) (resources_in h.resources.0 t.resources) (length-resources h.resources.0 t.resources) (λ y m. refl) 4 y
          (rw e at a)

  -- what S1 says of the counts and of the rows that others speak of
  module _ (s1 : S1 B ≡ true) where
    abbrev Parts1 : Type 0
    Parts1 = (counts B ≡ true) × (every (placed_row B.inner) B.inner.tokens ≡ true) × (every (placed_row B.outer) B.outer.tokens ≡ true) × (every (placed B) B.resources ≡ true)

    parts1 : Parts1
    unfolding named
    parts1 =
        let (x, d) = both (counts B && joined_set B.users B.leavers && (every (joined_set B.users) B.inner.sets && every (placed_row B.inner) B.inner.tokens) && (every (joined_set B.users) B.outer.sets && every (placed_row B.outer) B.outer.tokens) && every (λ t. eqb t.kind 0) B.outer.tokens) (every (placed B) B.resources) (sym (s1-is B) ∙ s1) in
        let (y, k) = both (counts B && joined_set B.users B.leavers && (every (joined_set B.users) B.inner.sets && every (placed_row B.inner) B.inner.tokens) && (every (joined_set B.users) B.outer.sets && every (placed_row B.outer) B.outer.tokens)) (every (λ t. eqb t.kind 0) B.outer.tokens) x in
        let (z, c) = both (counts B && joined_set B.users B.leavers && (every (joined_set B.users) B.inner.sets && every (placed_row B.inner) B.inner.tokens)) (every (joined_set B.users) B.outer.sets && every (placed_row B.outer) B.outer.tokens) y in
        let (n, b) = both (counts B && joined_set B.users B.leavers) (every (joined_set B.users) B.inner.sets && every (placed_row B.inner) B.inner.tokens) z in
        ((both (counts B) (joined_set B.users B.leavers) n).0, (both (every (joined_set B.users) B.inner.sets) (every (placed_row B.inner) B.inner.tokens) b).1, (both (every (joined_set B.users) B.outer.sets) (every (placed_row B.outer) B.outer.tokens) c).1, d)

    pub s1-counts : counts_of h ≡ true
    s1-counts = sym counts-of ∙ parts1.0

    pub s1-inner : every (placed_in h.inner_vertices.0) (tokens_in 5 h.inner_tokens.0 t.inner_tokens) ≡ true
    unfolding book_in placed_row
    s1-inner = subst (λ (n : ℕ). every (placed_in n) (tokens_in 5 h.inner_tokens.0 t.inner_tokens) ≡ true) (length-sets h.inner_vertices.0 t.inner_vertices) parts1.1

    pub s1-outer : every (placed_in h.outer_vertices.0) (tokens_in 4 h.outer_tokens.0 t.outer_tokens) ≡ true
    unfolding book_in placed_row
    s1-outer = subst (λ (n : ℕ). every (placed_in n) (tokens_in 4 h.outer_tokens.0 t.outer_tokens) ≡ true) (length-sets h.outer_vertices.0 t.outer_vertices) parts1.2

    pub s1-resources : every (placed_at h.users.0 h.leavers.0 h.inner_vertices.0 h.outer_vertices.0) (resources_in h.resources.0 t.resources) ≡ true
    unfolding book_in placed
    s1-resources =
        subst (λ (n : ℕ). every (placed_at h.users.0 h.leavers.0 n h.outer_vertices.0) (resources_in h.resources.0 t.resources) ≡ true) (length-sets h.inner_vertices.0 t.inner_vertices)
        (subst (λ (m : ℕ). every (placed_at h.users.0 h.leavers.0 (length (sets_in h.inner_vertices.0 t.inner_vertices)) m) (resources_in h.resources.0 t.resources) ≡ true) (length-sets h.outer_vertices.0 t.outer_vertices) parts1.3)

    -- S6's rows, where S4 holds too
    module _ (s4 : S4 B ≡ true) where
      risen : (rising B.inner ≡ true) × (rising B.outer ≡ true)
      risen = both (rising B.inner) (rising B.outer) (sym (s4-is B) ∙ s4)

      pub new-inner : (l : Lent) {a b m : Option ℕ} {x : Result (Unit {0}) Spot} → layer_in l ≡ B.inner → x ≡ row_of 1 m → m ≡ lower a b
          → a ≡ found_in l.shape.tokens (first (λ t. not (lateral_row (layer_in l) t)) (layer_in l).tokens)
          → b ≡ found_in l.shape.tokens (first (again (tokens_in l.shape.width l.shape.tokens l.tokens.now)) (up_to l.shape.tokens))
          → x ≡ unless (broken (rows 1 (new_row B.inner) (numbered 0 B.inner.tokens) ∷ []))
      new-inner l e x m a b = new-told l e parts1.1 risen.0 1 b x m a

      -- an outer token is never of kind 1
      pub new-outer : (l : Lent) {b : Option ℕ} {x : Result (Unit {0}) Spot} → layer_in l ≡ B.outer → x ≡ row_of 3 b
          → b ≡ found_in l.shape.tokens (first (again (tokens_in l.shape.width l.shape.tokens l.tokens.now)) (up_to l.shape.tokens))
          → x ≡ unless (broken (rows 3 (new_row B.outer) (numbered 0 B.outer.tokens) ∷ []))
      unfolding book_in
      new-outer l e x b = new-plain l e parts1.2 risen.1 3 b (λ s m. outer-plain h.outer_tokens.0 t.outer_tokens m) x

-- ---- the rules one after the other

-- a rule that is broken nowhere holds
module _ (h : Head) (t : Tables) {x : Result (Unit {0}) Spot} where
  pub s1-holds : counts_of h ≡ true → x ≡ unless (broken (rows1 (book_in h t))) → x ≡ Ok tt → S1 (book_in h t) ≡ true
  unfolding S1
  s1-holds c a e = rw (counts-of h t ∙ c) (nowhere-kept (rows1 (book_in h t)) a e)

  pub s4-holds : x ≡ unless (broken (rows4 (book_in h t))) → x ≡ Ok tt → S4 (book_in h t) ≡ true
  unfolding S4
  s4-holds a e = nowhere-kept (rows4 (book_in h t)) a e

pub whole : (b : Book)
    → Left (first_rule (rules b))
    ((letter.S1, rows1 b) ∷ (letter.S2, rows2 b) ∷ (letter.S3, rows3 b) ∷ (letter.S4, rows4 b) ∷ (letter.S5, rows5 b) ∷ (letter.S6, rows6 b) ∷ (letter.S7, rows7 b)
    ∷ (letter.S8, rows8 b) ∷ [])
unfolding rules
whole b = record { is = refl }
