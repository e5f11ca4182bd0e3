-- What the searches require of the head and the tables, from S1 and the room: the layers are laid, and the vertices that rows name exist.
-- Assumes nothing.
use Prim.Native.Nat.{ℕ, ◌+◌, ◌*◌, ◌^◌, ◌≤◌, ◌<◌}
use mathlib.Core.Path.{◌≡◌, sym, ap, ◌∙◌}
use mathlib.Core.Bool.{Bool, true, false, ◌&&◌, ◌||◌, not, not-not}
use mathlib.Core.Logic.{◌⊎◌, inl, inr}
use mathlib.Core.List.{List, [], Memᴰ}
use native.Mathlib.Omega.{arith}
use lib.Dec.{eqb, ltb, leb, lit≤}
use lib.ListN.{length, get_or}
use borrow.Author.Tests.{eqb-true, ltb-true, not-true, not-false}
use Rattle.sets.specs.Sets.{apart}
use Rattle.sets.specs.Words.{bytes}
use Rattle.sets.proofs.Laws.{both, either}
use Rattle.rules.specs.Lists.{every}
use Rattle.rules.specs.Book.{Resource, none, has_outer}
use Rattle.rules.specs.Open.{token_at}
use Rattle.rules.specs.Layer.{token}
use Rattle.rules.specs.Bytes.{Tables, tables, Room, book_in, head_of, tokens_in, resources_in}
use Rattle.rules.specs.Sound.{S1, max_users, max_resources, max_tokens, max_groups}
use Rattle.rules.specs.Refusals.{short}
use Rattle.rules.specs.declared.Head.{Head}
use Rattle.rules.specs.declared.Token.{Token}
use Rattle.theorems.proofs.ListLaws.{every-mem, get_or-mem, mem-get_or}
use Rattle.theorems.proofs.SoundLaws.{Counts, counts-are}
use Rattle.theorems.proofs.ByteLaws.{Long, short-long, head-in}
use Rattle.layer.specs.Laid.{Laid, inner_shape, outer_shape, layer_of, max_vertices}
use Rattle.layer.specs.declared.walk.Shape.{Shape}
use Rattle.layer.specs.declared.laid.Layer.{Layer as Lent}
use Rattle.layer.proofs.Read.{length-tokens}
use Rattle.sound.specs.Check.{counts_of}
use Rattle.sound.specs.Faults.{placed_in, placed_at, Ends, Inners, OuterIs, Outers}
use Rattle.sound.proofs.RulePlaces.{counts-of, s1-counts, s1-inner, s1-outer, s1-resources}

-- ---- the counts

pub record Within (h : Head) : Type 0 where
  pub users≤ : h.users.0 ≤ max_users
  pub resources≤ : h.resources.0 ≤ max_resources
  pub inner≤ : h.inner_vertices.0 ≤ max_users + max_resources
  pub outer≤ : h.outer_vertices.0 ≤ max_users + max_groups
  pub inner_tokens≤ : h.inner_tokens.0 ≤ max_tokens
  pub outer_tokens≤ : h.outer_tokens.0 ≤ max_tokens

pub counts-within : (h : Head) → counts_of h ≡ true → Within h
unfolding head_of book_in
counts-within h b =
    let t : Tables = tables [] [] [] [] [] in
    let c : Counts (book_in h t) = counts-are (book_in h t) (counts-of h t ∙ b) in
    let is = head-in h t in
    let rs : length (book_in h t).resources ≡ h.resources.0 = ap (λ h. h.resources.0) is in
    let iv : length (book_in h t).inner.sets ≡ h.inner_vertices.0 = ap (λ h. h.inner_vertices.0) is in
    let it : length (book_in h t).inner.tokens ≡ h.inner_tokens.0 = ap (λ h. h.inner_tokens.0) is in
    let ov : length (book_in h t).outer.sets ≡ h.outer_vertices.0 = ap (λ h. h.outer_vertices.0) is in
    let ot : length (book_in h t).outer.tokens ≡ h.outer_tokens.0 = ap (λ h. h.outer_tokens.0) is in
    record {
      users≤ = c.users≤;
      resources≤ = omega arith;
      inner≤ = omega arith;
      outer≤ = omega arith;
      inner_tokens≤ = omega arith;
      outer_tokens≤ = omega arith;
    }

-- tables that are as long as their limits have room
pub counts-room : (h : Head) (t : Tables) {x : Bool} → x ≡ not (short t) → not x ≡ false → counts_of h ≡ true → Room h t
counts-room h t {x} a p b =
    let l : Long t = short-long t (not-true (short t) (sym a ∙ not-false x p)) in
    let c : Within h = counts-within h b in
    record {
      inner_vertices = omega arith;
      inner_tokens = omega arith;
      outer_vertices = omega arith;
      outer_tokens = omega arith;
      resources = omega arith;
    }

-- ---- the rows

-- the tables hold a layer's rows
pub record Held (l : Shape) (ts vs : List ℕ) : Type 0 where
  pub low : 4 ≤ l.width
  pub high : l.width ≤ 5
  pub rows : l.tokens * l.width ≤ length ts
  pub sets : l.vertices * bytes ≤ length vs

module _ (h : Head) (t : Tables) (r : Room h t) {l : Shape} where
  pub inner-held : l ≡ inner_shape h → Held l t.inner_tokens t.inner_vertices
  inner-held e = rw e (record { low = lit≤ tt; high = lit≤ tt; rows = r.inner_tokens; sets = r.inner_vertices })

  pub outer-held : l ≡ outer_shape h → Held l t.outer_tokens t.outer_vertices
  outer-held e = rw e (record { low = lit≤ tt; high = lit≤ tt; rows = r.outer_tokens; sets = r.outer_vertices })

token-ends : (w n m : ℕ) (ts : List ℕ) → every (placed_in m) (tokens_in w n ts) ≡ true → Ends m (tokens_in w n ts)
token-ends w n m ts e x i =
    let row = every-mem (placed_in m) (tokens_in w n ts) e i in
    let (front, to) = both (leb x.kind 1 && ltb x.from m) (ltb x.to m) row in
    (ltb-true x.from m (both (leb x.kind 1) (ltb x.from m) front).1, ltb-true x.to m to)

pub ends-among : {m n : ℕ} {ts : List Token} → m ≤ n → Ends m ts → Ends n ts
ends-among l e t m = (omega (arith, (e t m).0), omega (arith, (e t m).1))

-- the ends of a lent layer's tokens
pub laid-ends : (l : Lent) {n : ℕ} → l.shape.vertices ≤ n → Ends n (tokens_in l.shape.width l.shape.tokens l.tokens.now)
unfolding layer_of token_at
laid-ends l {n} v t m =
    let ts = tokens_in l.shape.width l.shape.tokens l.tokens.now in
    let (k, lt, e) = mem-get_or ts (token 0 0 0) m in
    let there : k < l.shape.tokens = omega (arith, length-tokens l.shape.width l.shape.tokens l.tokens.now) in
    rw (← e) (omega (arith, l.laid.from< k there), omega (arith, l.laid.to< k there))

layer-laid : (l : Shape) (ts vs : List ℕ) → Held l ts vs → l.tokens < 65536 → Ends l.vertices (tokens_in l.width l.tokens ts) → Laid l ts vs
unfolding layer_of token_at
layer-laid l ts vs h few e =
    record {
      low = h.low;
      high = h.high;
      rows = h.rows;
      sets = h.sets;
      few = few;
      from< = λ k lt. (e _ (there k lt)).0;
      to< = λ k lt. (e _ (there k lt)).1;
    }
  where
    there : (k : ℕ) → k < l.tokens → Memᴰ (get_or (tokens_in l.width l.tokens ts) k (token 0 0 0)) (tokens_in l.width l.tokens ts)
    there k lt = get_or-mem (tokens_in l.width l.tokens ts) k (token 0 0 0) (rw length-tokens lt)

resource-placed : (u g n m k : ℕ) (rs : List ℕ) → every (placed_at u g n m) (resources_in k rs) ≡ true
    → (x : Resource) → Memᴰ x (resources_in k rs) → (x.inner < n) × OuterIs m x
unfolding has_outer
resource-placed u g n m k rs e x i =
    let row = every-mem (placed_at u g n m) (resources_in k rs) e i in
    let there = (both (ltb x.list (2 ^ u) && ltb x.inner n && (not (has_outer x) || ltb x.outer m)) (apart x.list g) row).0 in
    let (front, outer) = both (ltb x.list (2 ^ u) && ltb x.inner n) (not (has_outer x) || ltb x.outer m) there in
    (ltb-true x.inner n (both (ltb x.list (2 ^ u)) (ltb x.inner n) front).1, go (either (not (has_outer x)) (ltb x.outer m) outer))
  where
    go : (not (has_outer x) ≡ true) ⊎ (ltb x.outer m ≡ true) → OuterIs m x
    go (inl e) = λ no. absurd (no (eqb-true x.outer none (sym (not-not (eqb x.outer none)) ∙ e)))
    go (inr e) = λ no. ltb-true x.outer m e

module _ (h : Head) (t : Tables) (s1 : S1 (book_in h t) ≡ true) where
  pub s1-within : Within h
  s1-within = counts-within h (s1-counts h t s1)

  module _ {l : Shape} (e : l ≡ inner_shape h) where
    pub inner-ends : Ends l.vertices (tokens_in l.width l.tokens t.inner_tokens)
    inner-ends = rw e (token-ends 5 h.inner_tokens.0 h.inner_vertices.0 t.inner_tokens (s1-inner h t s1))

    pub inner-few : l.vertices ≤ max_vertices
    inner-few = let w = s1-within in rw e (omega arith)

    pub inner-laid : Room h t → Laid l t.inner_tokens t.inner_vertices
    inner-laid r = let w = s1-within in layer-laid l t.inner_tokens t.inner_vertices (inner-held h t r e) (rw e (omega arith)) inner-ends

    pub inner-vertices : Inners l.vertices (resources_in h.resources.0 t.resources)
    inner-vertices = rw e (λ x m. (resource-placed h.users.0 h.leavers.0 h.inner_vertices.0 h.outer_vertices.0 h.resources.0 t.resources (s1-resources h t s1) x m).0)

  module _ {l : Shape} (e : l ≡ outer_shape h) where
    pub outer-ends : Ends l.vertices (tokens_in l.width l.tokens t.outer_tokens)
    outer-ends = rw e (token-ends 4 h.outer_tokens.0 h.outer_vertices.0 t.outer_tokens (s1-outer h t s1))

    pub outer-few : l.vertices ≤ max_vertices
    outer-few = let w = s1-within in rw e (omega arith)

    pub outer-laid : Room h t → Laid l t.outer_tokens t.outer_vertices
    outer-laid r = let w = s1-within in layer-laid l t.outer_tokens t.outer_vertices (outer-held h t r e) (rw e (omega arith)) outer-ends

  pub outer-vertices : Outers h.outer_vertices.0 (resources_in h.resources.0 t.resources)
  outer-vertices x m =
      (resource-placed h.users.0 h.leavers.0 h.inner_vertices.0 h.outer_vertices.0 h.resources.0 t.resources (s1-resources h t s1) x m).1
