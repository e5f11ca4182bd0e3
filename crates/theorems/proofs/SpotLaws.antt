-- Where a rule is broken at a row, the row is there: its section and its number are those of a row of the book.
-- Assumes nothing.
use Prim.Native.Nat.{ℕ, ◌<◌}
use mathlib.Core.Path.{◌≡◌, refl, ap, ◌∙◌, subst}
use mathlib.Core.Bool.{Bool, true, false, not, cond}
use mathlib.Core.List.{List, [], ◌∷◌}
use mathlib.Core.Option
use mathlib.Core.Option.{Option, some, none}
use native.Mathlib.Omega.{arith}
use lib.Dec.{ltb, lit<}
use lib.ListN.{length, get_or}
use borrow.Author.Tests.{ltb-true}
use Rattle.rules.specs.Lists.{first, numbered}
use Rattle.rules.specs.Tests.{Tested, rows, unlike_earlier, broken, or_rule, first_rule}
use Rattle.rules.specs.Book.{Book}
use Rattle.rules.specs.Sound.{joined_set, placed_row, plain_row, placed, not_empty, enters_group, unequal, rising_row, united_vertex, new_row, held, locked, rows1, rows2, rows3, rows4, rows5, rows6, rows7, rows8, rules}
use Rattle.rules.specs.declared.Letter.{Letter}
use Rattle.rules.specs.declared.Spot.{Spot}
use Rattle.rules.specs.declared.Spot.TheVariants.{Row, Leavers, Missing}
use Rattle.theorems.proofs.ListLaws.{length-numbered}
use Rattle.theorems.proofs.TestedLaws.{length-pass}

-- how many rows the sections have
abbrev pub sizes_of : Book → List ℕ
sizes_of b = length b.inner.sets ∷ length b.inner.tokens ∷ length b.outer.sets ∷ length b.outer.tokens ∷ length b.resources ∷ []

-- a row that is there, where the sections have ns rows
abbrev pub There : List ℕ → Spot → Type 0
There ns (Row k i) = (k < 5) × (i < get_or ns k 0)
There ns Leavers = Unit {0}
There ns Missing = Unit {0}

abbrev Fits : List ℕ → Tested → Type 0
Fits ns t = (i : ℕ) → i < length t.passes → There ns (t.spot i)

abbrev AllFit : List ℕ → List Tested → Type 0
AllFit ns [] = Unit {0}
AllFit ns (t ∷ ts) = Fits ns t × AllFit ns ts

abbrev RulesFit : List ℕ → List (Letter × List Tested) → Type 0
RulesFit ns [] = Unit {0}
RulesFit ns (r ∷ rs) = AllFit ns r.1 × RulesFit ns rs

broken-there : (ns : List ℕ) (ts : List Tested) → AllFit ns ts → (s : Spot) → broken ts ≡ some s → There ns s
unfolding broken
broken-there ns [] f s e = absurd (none-some e)
  where
    none-some : {s : Spot} → none ≡ some s → ⊥
    none-some e = let z : ◌≡◌ {A = ℕ} 0 1 = cc in omega arith
broken-there ns (t ∷ ts) f s e = go (ltb (first not t.passes) (length t.passes)) refl e (broken-there ns ts f.1 s)
  where
    go : (b : Bool) → ltb (first not t.passes) (length t.passes) ≡ b → cond b (some (t.spot (first not t.passes))) (broken ts) ≡ some s
        → (broken ts ≡ some s → There ns s) → There ns s
    go true l e ih =
        subst (There ns) (ap (λ (o : Option Spot). Option.get_or o Missing) e) (f.0 (first not t.passes) (ltb-true (first not t.passes) (length t.passes) l))
    go false l e ih = ih e

rule-there : (ns : List ℕ) (rs : List (Letter × List Tested)) → RulesFit ns rs → (l : Letter) (s : Spot) → first_rule rs ≡ some (l, s) → There ns s
unfolding first_rule or_rule
rule-there ns [] f l s e = absurd (none-some e)
  where
    none-some : {r : Letter × Spot} → none ≡ some r → ⊥
    none-some e = let z : ◌≡◌ {A = ℕ} 0 1 = cc in omega arith
rule-there ns (r ∷ rs) f l s e = go (broken r.1) refl e (rule-there ns rs f.1 l s)
  where
    go : (o : Option Spot) → broken r.1 ≡ o → or_rule r.0 o (first_rule rs) ≡ some (l, s) → (first_rule rs ≡ some (l, s) → There ns s) → There ns s
    go none q e ih = ih e
    go (some z) q e ih =
        broken-there ns r.1 f.0 s (q ∙ ap (λ (x : Spot). some x) (ap (λ (o : Option (Letter × Spot)). (Option.get_or o (l, Missing)).1) e))

-- a search among all rows of section k
all-rows : {A : Type 0} (ns : List ℕ) (k : ℕ) (p : A → Bool) (xs : List A) → k < 5 → length xs ≡ get_or ns k 0 → Fits ns (rows k p xs)
all-rows ns k p xs l e i m = (l, omega (arith, length-pass p xs, e))

all-numbered : {A : Type 0} (ns : List ℕ) (k : ℕ) (p : ℕ × A → Bool) (xs : List A) → k < 5 → length xs ≡ get_or ns k 0 → Fits ns (rows k p (numbered 0 xs))
all-numbered ns k p xs l e = all-rows ns k p (numbered 0 xs) l (length-numbered 0 xs ∙ e)

book-fits : (b : Book) → RulesFit (sizes_of b) (rules b)
unfolding rules rows1 rows2 rows3 rows4 rows5 rows6 rows7 rows8
book-fits b =
    let ns = sizes_of b in (
      (
        (λ i m. tt),
        (
          all-rows ns 0 (joined_set b.users) b.inner.sets (lit< tt) refl,
          (
            all-rows ns 1 (placed_row b.inner) b.inner.tokens (lit< tt) refl,
            (
              all-rows ns 2 (joined_set b.users) b.outer.sets (lit< tt) refl,
              (
                all-rows ns 3 (plain_row b.outer) b.outer.tokens (lit< tt) refl,
                (all-rows ns 4 (placed b) b.resources (lit< tt) refl, tt),
              ),
            ),
          ),
        ),
      ),
      (
        (
          (λ i m. tt),
          (
            (λ i m. tt),
            (
              all-rows ns 0 not_empty b.inner.sets (lit< tt) refl,
              (
                all-rows ns 1 (enters_group b.inner) b.inner.tokens (lit< tt) refl,
                (all-rows ns 3 (enters_group b.outer) b.outer.tokens (lit< tt) refl, tt),
              ),
            ),
          ),
        ),
        (
          (
            all-numbered ns 0 (unlike_earlier unequal b.inner.sets) b.inner.sets (lit< tt) refl,
            (all-numbered ns 2 (unlike_earlier unequal b.outer.sets) b.outer.sets (lit< tt) refl, tt),
          ),
          (
            (all-rows ns 1 (rising_row b.inner) b.inner.tokens (lit< tt) refl, (all-rows ns 3 (rising_row b.outer) b.outer.tokens (lit< tt) refl, tt)),
            (
              (
                all-numbered ns 0 (united_vertex b.inner) b.inner.sets (lit< tt) refl,
                (all-numbered ns 2 (united_vertex b.outer) b.outer.sets (lit< tt) refl, tt),
              ),
              (
                (
                  all-numbered ns 1 (new_row b.inner) b.inner.tokens (lit< tt) refl,
                  (all-numbered ns 3 (new_row b.outer) b.outer.tokens (lit< tt) refl, tt),
                ),
                (
                  (all-rows ns 4 (held b) b.resources (lit< tt) refl, tt),
                  ((all-rows ns 4 (locked b) b.resources (lit< tt) refl, tt), tt),
                ),
              ),
            ),
          ),
        ),
      ),
    )

-- so a place can be computed without a sum that is too large
pub spot-there : (b : Book) {l : Letter} {s : Spot} → first_rule (rules b) ≡ some (l, s) → There (sizes_of b) s
spot-there b {l} {s} e = rule-there (sizes_of b) (rules b) (book-fits b) l s e
