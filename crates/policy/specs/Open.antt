-- What open is judged by, and the rows of each chain by its own layer. RULES 5.10.
-- Assumes nothing.
use Rattle.std.specs.Prelude.{ℕ, ◌+◌, ◌<◌, ◌≤◌, ◌≡◌, Bool, true, false, ◌||◌, not, cond, List, [], ◌∷◌, eqb, length, Result, Ok, Err}
use Rattle.std.proofs.Math.Option.{Option, some, none}
use Rattle.sets.specs.Sets.{has}
use Rattle.sets.specs.Words.{people}
use Rattle.rules.specs.Layer.{Layer, set_of}
use Rattle.rules.specs.Book.{Book}
use Rattle.rules.specs.Book as book
use Rattle.rules.specs.Holders.{view}
use Rattle.rules.specs.Open.{chain, direct, inner_chain, outer_chain}
use Rattle.rules.specs.Bytes.{Tables, book_in}
use Rattle.rules.specs.Refusals.{verdict, own_open}
use Rattle.rules.specs.declared.Head.{Head}
use Rattle.rules.specs.declared.View.TheVariants.{Open}
use Rattle.rules.specs.declared.Refusal.{Refusal}
use Rattle.rules.specs.declared.Chains.{Chains}
use Rattle.layer.specs.declared.walk.Shape.{Shape}
use Rattle.layer.specs.Lent.{layer_in, Keeps}
use Rattle.plan.specs.Judge.{Ready}
use Rattle.policy.specs.declared.open.Keys.{Keys}

abbrev pub lengths_of : Book → ℕ → ℕ → Chains
lengths_of b u r = record { inner = length (inner_chain b u r); outer = length (outer_chain b u r) }

unfoldable pub openable_by : Option Refusal → Chains → Result Chains Refusal
openable_by none k = Ok k
openable_by (some r) k = Err r

-- the first of 1, 11 and 10 that holds, where 13 and 12 are excluded and `room` numbers or rows are lent for the chains; else the chains' lengths
unfoldable pub openable : Book → ℕ → ℕ → ℕ → Result Chains Refusal
openable b u r room = openable_by (verdict (own_open b u r room)) (lengths_of b u r)

-- u opens r, in tables that hold a sound book
pub record Opening (h : Head) (t : Tables) (u r : ℕ) : Type 0 where
  pub ready : Ready h t
  pub user : u < h.users.0
  pub there : r < h.resources.0
  pub opens : view (book_in h t) u r ≡ Open

-- and by k rows, of which `room` are lent
pub record Passed (h : Head) (t : Tables) (u r room : ℕ) (k : Chains) : Type 0 where
  pub opening : Opening h t u r
  pub lengths : k ≡ lengths_of (book_in h t) u r
  pub rows : k.inner + k.outer ≤ room
  pub few : (k.inner < people) × (k.outer < people)

-- the rows to inner vertex v (`inner_chain`), and to outer vertex v or none (`outer_chain`)
abbrev pub inner_rows : Layer → ℕ → ℕ → List ℕ
inner_rows L u v = cond (has (set_of L v) u) (chain L u v) (direct L u v ∷ [])

abbrev pub outer_rows : Layer → ℕ → ℕ → List ℕ
outer_rows L u v = cond (not (eqb v book.none)) (chain L u v) []

-- RULES 3.8 "the outer key counts as derived, by everybody"
abbrev pub known_in : Layer → ℕ → ℕ → Bool
known_in L u v = not (not (eqb v book.none)) || has (set_of L v) u

-- outer vertex v, if any, is one of n
abbrev pub OuterThere : ℕ → ℕ → Type 0
OuterThere n v = (v ≡ book.none → ⊥) → v < n

-- the keys of resource r, in tables that hold a sound book
pub record KeysOf (h : Head) (t : Tables) (r : ℕ) (k : Keys) : Type 0 where
  pub users≤ : h.users.0 ≤ people
  pub inner : layer_in k.inner ≡ (book_in h t).inner
  pub outer : layer_in k.outer ≡ (book_in h t).outer
  pub inner-keeps : Keeps k.inner
  pub outer-keeps : Keeps k.outer
  pub inner-vertex : k.inner_vertex.0 ≡ (book.resource (book_in h t) r).inner
  pub outer-vertex : k.outer_vertex.0 ≡ (book.resource (book_in h t) r).outer
  pub inner-there : k.inner_vertex.0 < k.inner.shape.vertices
  pub outer-there : OuterThere k.outer.shape.vertices k.outer_vertex.0

-- the set of outer vertex v, if any, names u
abbrev pub OuterNames : Shape → Layer → ℕ → ℕ → Type 0
OuterNames o L u v = (v ≡ book.none → ⊥) → (v < o.vertices) × (has (set_of L v) u ≡ true)

-- a user who is not in the set of inner vertex v has a kind 1 row to it
abbrev pub LetIn : Shape → Layer → ℕ → ℕ → Type 0
LetIn i L u v = has (set_of L v) u ≡ false → direct L u v < i.tokens
