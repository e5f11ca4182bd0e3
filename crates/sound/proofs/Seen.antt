-- S3 and S6, no two equal, as the code looks for them: a pass over the rows, with a mark for each row that was met.
-- Assumes nothing.
use Rattle.std.specs.Prelude.{Some}
use Prim.Native.Nat.{ℕ, ◌+◌, ◌*◌, ◌/◌, ◌%◌, ◌<◌}
use mathlib.Core.Path.{◌≡◌, refl, sym, ap, ap₂, ◌∙◌}
use mathlib.Core.Bool.{Bool, true, false, ◌||◌, or-false, true≢false}
use mathlib.Core.List.{List, Memᴰ}
use native.Mathlib.Nat.{div-add-mod'}
use native.Mathlib.Numerals.{add-one}
use native.Mathlib.Decide.{ℕ_discrete}
use native.Mathlib.Omega.{arith}
use lib.Dec.{eqb}
use lib.ListN.{length, take, get_or, set, replicate, length-set, length-replicate, get_or-replicate}
use lib.Seq.{take-suc, get_or-set_same, get_or-set_other}
use borrow.Author.Tests.{eqb-true, eq-eqb, ne_eqb}
use Rattle.sets.specs.Sets.{has, single, union}
use Rattle.sets.proofs.Laws.{both, has-union, has-single, has-empty}
use Rattle.rules.specs.Lists.{first, some, up_to}
use Rattle.rules.specs.Layer.{token}
use Rattle.rules.specs.declared.Token.{Token}
use Rattle.theorems.proofs.ListLaws.{some-append, some_more, take-mem}
use Rattle.layer.specs.Laid.{max_vertices, found_in}
use Rattle.layer.proofs.Search.{Passed, number-here, number-on}
use Rattle.sound.specs.Faults.{repeated, same_ends, again, Ends}
use Rattle.sound.specs.Marks.{marked, with_mark, mark_of}
use Rattle.theorems.proofs.TestedLaws.{same}
use Rattle.sound.proofs.Reading.{row-mem}

-- a test that can't hold
is_false : (b : Bool) → (b ≡ true → ⊥) → b ≡ false
is_false true n = absurd (n refl)
is_false false n = refl

-- ---- a mark more

marked_more : (words : List ℕ) (k j : ℕ) → k / 64 < length words → marked (with_mark words k) j ≡ (marked words j || eqb k j)
unfolding marked with_mark
marked_more words k j l = go (ℕ_discrete (j / 64) (k / 64))
  where
    word : ℕ
    word = union (get_or words (k / 64) 0) (single (k % 64))

    bit : j / 64 ≡ k / 64 → eqb (j % 64) (k % 64) ≡ eqb k j
    bit e =
        same (eqb (j % 64) (k % 64)) (eqb k j)
        (λ q. eq-eqb k j (omega (arith, eqb-true (j % 64) (k % 64) q, div-add-mod' j 64, div-add-mod' k 64)))
        (λ q. eq-eqb (j % 64) (k % 64) (ap (λ (x : ℕ). x % 64) (sym (eqb-true k j q))))

    go : Dec (j / 64 ≡ k / 64) → has (get_or (set words (k / 64) word) (j / 64) 0) (j % 64) ≡ (has (get_or words (j / 64) 0) (j % 64) || eqb k j)
    go (yes e) =
        ap (λ (x : ℕ). has (get_or (set words (k / 64) word) x 0) (j % 64)) e
        ∙ ap (λ (x : ℕ). has x (j % 64)) (get_or-set_same words (k / 64) word 0 l)
        ∙ has-union (get_or words (k / 64) 0) (single (k % 64)) (j % 64)
        ∙ ap₂ ◌||◌ (ap (λ (x : ℕ). has (get_or words x 0) (j % 64)) (sym e)) (has-single (k % 64) (j % 64) ∙ bit e)
    go (no d) =
        ap (λ (x : ℕ). has x (j % 64)) (get_or-set_other words (k / 64) (j / 64) word 0 d)
        ∙ sym (rw (ne_eqb k j (λ q. d (ap (λ (x : ℕ). x / 64) (sym q)))) (or-false _))

-- as the code stores it: the word x of k with its bit
pub with-mark : (words : List ℕ) (k : ℕ) {x : ℕ} → x ≡ union (get_or words (k / 64) 0) (single (k % 64)) → set words (k / 64) x ≡ with_mark words k
unfolding with_mark
with-mark words k e = ap (set words (k / 64)) e

-- ---- the rows xs, each with its mark f

-- one of the first i has the mark j
abbrev pub met : {A : Type 0} → (A → ℕ) → List A → ℕ → ℕ → Bool
met f xs i j = some (λ x. eqb (f x) j) (take i xs)

module _ {A : Type 0} (f : A → ℕ) (xs : List A) (c : ℕ) where
  -- the marks in c words say so
  pub record Met (i : ℕ) (words : List ℕ) : Type 0 where
    pub all : length words ≡ c
    pub marks : (j : ℕ) → j < c * 64 → marked words j ≡ met f xs i j

  pub met-none : Met 0 (replicate c 0)
  unfolding some marked
  met-none =
      record {
        all = length-replicate c 0;
        marks = λ j h. ap (λ (x : ℕ). has x (j % 64)) (get_or-replicate c (j / 64) 0 0 (omega arith)) ∙ has-empty (j % 64);
      }

  -- the next row, x, whose mark is k
  module _ (d : A) {x : A} {i k : ℕ} {words : List ℕ} (m : Met i words) (l : i < length xs) (e : x ≡ get_or xs i d) (q : k ≡ f x) (w : k < c * 64) where
    pub met-more : {after : List ℕ} → after ≡ with_mark words k → Met (i + 1) after
    unfolding some with_mark
    met-more a =
        rw a
        (record {
          all = simp length-set m.all;
          marks = λ j h. marked_more words k j (omega (arith, m.all)) ∙ ap (λ (b : Bool). b || eqb k j) (m.marks j h) ∙ sym (more j);
        })
      where
        more : (j : ℕ) → met f xs (i + 1) j ≡ (met f xs i j || eqb k j)
        more j = rw (q, e, add-one, take-suc xs i d, some-append) (ap (λ (b : Bool). met f xs i j || b) (or-false _))

    -- the answer r whether it was marked: an earlier row has its mark
    pub met-before : {r : Bool} → r ≡ marked words k → r ≡ met f xs i (f x)
    met-before a = a ∙ m.marks k w ∙ ap (met f xs i) q

-- ---- S3: equal sets have one mark

module _ (sets : List ℕ) (n : ℕ) where
  -- none of the first i sets repeats an earlier one, and their marks are set
  abbrev pub Distinct : ℕ → List ℕ → Type 0
  Distinct i words = Passed (repeated sets) (up_to n) n i × Met mark_of sets 256 i words

  pub distinct_none : Distinct 0 (replicate 256 0)
  distinct_none = (omega arith, met-none mark_of sets 256)

  -- the next set, x, with its mark k, and whether it was set, r
  module _ (s : length sets ≡ n) {x i k : ℕ} {words : List ℕ} {r : Bool} (h : Distinct i words) (l : i < n) (e : x ≡ get_or sets i 0)
      (q : (k ≡ mark_of x) × (k < 16384)) (b : r ≡ marked words k) where
    pub set_new : r ≡ false → repeated sets i ≡ false
    unfolding repeated
    set_new z =
        let none : met mark_of sets i (mark_of x) ≡ false = sym (met-before mark_of sets 256 0 h.1 (omega arith) e q.0 q.1 b) ∙ z in
        is_false (repeated sets i)
        (λ t. true≢false
        (sym
        (some_more (λ s. eqb s (get_or sets i 0)) (λ s. eqb (mark_of s) (mark_of x)) (take i sets)
        (λ s m p. eq-eqb (mark_of s) (mark_of x) (ap mark_of (eqb-true s (get_or sets i 0) p ∙ sym e))) t)
        ∙ none))

    pub distinct-on : repeated sets i ≡ false → {after : List ℕ} → after ≡ with_mark words k → Distinct (i + 1) after
    distinct-on z a = (number-on (repeated sets) n h.0 l z, met-more mark_of sets 256 0 h.1 (omega arith) e q.0 q.1 a)

-- ---- S6: tokens have one mark exactly if they have the same ends

abbrev pub ends_of : Token → ℕ
ends_of t = t.to * max_vertices + t.from

module _ (ts : List Token) (n : ℕ) where
  -- none of the first i tokens repeats an earlier one, and their marks are set
  abbrev pub Apart : ℕ → List ℕ → Type 0
  Apart i words = Passed (again ts) (up_to n) n i × Met ends_of ts 4096 i words

  pub apart_none : Apart 0 (replicate 4096 0)
  apart_none = (omega arith, met-none ends_of ts 4096)

  module _ (ends : Ends max_vertices ts) where
    same-mark : (s t : Token) → Memᴰ s ts → Memᴰ t ts → same_ends s t ≡ eqb (ends_of s) (ends_of t)
    same-mark s t m k =
        same (same_ends s t) (eqb (ends_of s) (ends_of t))
        (λ e. let (f, g) = both (eqb s.from t.from) (eqb s.to t.to) e in
        eq-eqb (ends_of s) (ends_of t) (omega (arith, eqb-true s.from t.from f, eqb-true s.to t.to g)))
        (λ e. let q : ends_of s ≡ ends_of t = eqb-true (ends_of s) (ends_of t) e in
        rw (
          eq-eqb s.from t.from (omega (arith, (ends s m).0, (ends t k).0)),
          eq-eqb s.to t.to (omega (arith, (ends s m).0, (ends t k).0)),
        ))

    -- the next token, t, and whether its mark k was set, r
    module _ (s : length ts ≡ n) {t : Token} {i k : ℕ} {words : List ℕ} {r : Bool} (h : Apart i words) (l : i < n) (e : t ≡ get_or ts i (token 0 0 0))
        (q : k ≡ ends_of t) (w : k < 4096 * 64) (b : r ≡ marked words k) where
      again-is : again ts i ≡ r
      unfolding again
      again-is =
          let m : Memᴰ t ts = row-mem ts (token 0 0 0) s l e in
          rw (← e)
          (same (some (λ x. same_ends x t) (take i ts)) (some (λ x. eqb (ends_of x) (ends_of t)) (take i ts))
          (some_more (λ x. same_ends x t) (λ x. eqb (ends_of x) (ends_of t)) (take i ts) (λ x y p. sym (same-mark x t (take-mem i ts y) m) ∙ p))
          (some_more (λ x. eqb (ends_of x) (ends_of t)) (λ x. same_ends x t) (take i ts) (λ x y p. same-mark x t (take-mem i ts y) m ∙ p))
          ∙ sym (met-before ends_of ts 4096 (token 0 0 0) h.1 (omega arith) e q w b))

      pub apart-here : r ≡ true → Some i ≡ found_in n (first (again ts) (up_to n))
      apart-here z = number-here (again ts) n h.0 l (again-is ∙ z)

      pub apart-on : r ≡ false → {after : List ℕ} → after ≡ with_mark words k → Apart (i + 1) after
      apart-on z a = (number-on (again ts) n h.0 l (again-is ∙ z), met-more ends_of ts 4096 (token 0 0 0) h.1 (omega arith) e q w a)
