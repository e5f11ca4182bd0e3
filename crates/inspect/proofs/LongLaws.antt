-- What is wrong with an input that is longer than any book is told by its front, but for its length. Assumes nothing.
use Prim.Native.Nat.{ℕ, ◌+◌, ◌≤◌, ◌<◌}
use mathlib.Core.Bool.{Bool, true, false, not}
use mathlib.Core.Logic.{◌⊎◌, inl, inr, ⊎_elim}
use mathlib.Core.List.{List, [], ◌∷◌, ◌++◌}
use mathlib.Core.Option.{Option, some, none}
use mathlib.Core.Path.{◌≡◌, refl, sym, ap, ◌∙◌}
use native.Mathlib.Omega.{arith}
use lib.Dec.{eqb, ltb, leb}
use lib.ListN.{length, drop, get_or, length-append, length-drop, take-append-drop}
use lib.Seq.{take_all, take-append-le, drop-append-le, length-take-le}
use borrow.Author.Tests.{ne_eqb, leb-true, leb-false, le-ltb}
use Rattle.sets.specs.Words.{bytes}
use Rattle.sets.proofs.Laws.{both}
use Rattle.rows.specs.Number.{cell}
use Rattle.rules.specs.Lists.{every, first}
use Rattle.rules.specs.Tests.{first_rule, when, first_some, is_none}
use Rattle.rules.specs.Sound.{count_limits, in_limit, rules, max_users, max_resources, max_tokens, max_groups}
use Rattle.rules.specs.Bytes.{version_in, leavers_in, head_in, counts, total, start, read, limits_of, count_places, bad_count, rule_fault, fault, known}
use Rattle.rules.specs.declared.Head.{Head}
use Rattle.rules.specs.declared.Letter.{Letter}
use Rattle.rules.specs.declared.Spot.{Spot}
use Rattle.rules.specs.declared.Fault.{Fault}
use Rattle.rules.specs.declared.Fault.TheVariants.{Mark, Version, Mode, Count, Length}
use Rattle.theorems.proofs.FaultLaws.{count_none}
use Rattle.book.proofs.Laws.{fore-within}
use Rattle.inspect.specs.Input.{longest, FrontOf}
use Rattle.inspect.specs.Text.{grown_by}

-- ---- the header is in the front

pub cell-front : (w at : ℕ) (p q : List ℕ) → at + w ≤ length p → cell w at (p ++ q) ≡ cell w at p
unfolding cell
cell-front w at p q h = rw (drop-append-le at p q (omega arith), take-append-le w (drop at p) q (simp length-drop (omega arith)))

pub version-front : (p q : List ℕ) → 17 ≤ length p → version_in (p ++ q) ≡ version_in p
unfolding version_in
version-front p q h = cell-front 2 3 p q (omega arith)

pub head-front : (p q : List ℕ) → 17 + bytes ≤ length p → head_in (p ++ q) ≡ head_in p
unfolding head_in leavers_in
head-front p q h =
    rw (
      version-front p q (omega arith),
      cell-front 1 5 p q (omega arith),
      cell-front 1 6 p q (omega arith),
      cell-front 2 7 p q (omega arith),
      cell-front 2 9 p q (omega arith),
      cell-front 2 11 p q (omega arith),
      cell-front 2 13 p q (omega arith),
      cell-front 2 15 p q (omega arith),
      cell-front bytes 17 p q (omega arith),
    )

-- ---- RULES 9.4: no book is longer

pub no_longer : (v : ℕ) (h : Head) → bad_count h ≡ none → start v h 5 ≤ longest
unfolding start total counts limits_of count_limits in_limit every is_none
no_longer v h e =
    let all : every in_limit (limits_of h) ≡ true = sym (count_none h) ∙ ap is_none e in
    let u = h.users.0 in
    let r = h.resources.0 in
    let iv = h.inner_vertices.0 in
    let it = h.inner_tokens.0 in
    let ov = h.outer_vertices.0 in
    let ot = h.outer_tokens.0 in
    let (x1, h1) = both (leb u max_users) _ all in
    let (x2, h2) = both (leb r max_resources) _ h1 in
    let (x3, h3) = both (leb iv (u + r)) _ h2 in
    let (x4, h4) = both (leb it max_tokens) _ h3 in
    let (x5, h5) = both (leb ov (u + max_groups)) _ h4 in
    let (x6, h6) = both (leb ot max_tokens) _ h5 in
    omega (
      arith,
      fore-within v,
      leb-true u max_users x1,
      leb-true r max_resources x2,
      leb-true iv (u + r) x3,
      leb-true it max_tokens x4,
      leb-true ov (u + max_groups) x5,
      leb-true ot max_tokens x6,
    )

-- ---- the first fault, of the front and of the whole

-- what comes before the counts
steps : (a b c d : Bool) (m n : ℕ) (xs ys : List (Option Fault)) → first_some ys ≡ grown_by n (first_some xs)
    → first_some (when a (Length n) ∷ when b Mark ∷ when c Version ∷ when d Mode ∷ ys) ≡ grown_by n (first_some (when a (Length m) ∷ when b Mark ∷ when c Version ∷ when d Mode ∷ xs))
unfolding first_some when
steps true b c d m n xs ys e = refl
steps false true c d m n xs ys e = refl
steps false false true d m n xs ys e = refl
steps false false false true m n xs ys e = refl
steps false false false false m n xs ys e = e

count_same : (h : Head) (n : ℕ) → bad_count h ≡ grown_by n (bad_count h)
unfolding bad_count when
count_same h n = let i = first (λ c. not (in_limit c)) (limits_of h) in go (ltb i (length (limits_of h))) (get_or count_places i 0)
  where
    go : (b : Bool) (place : ℕ) → when b (Count place) ≡ grown_by n (when b (Count place))
    go true place = refl
    go false place = refl

-- of an input longer than any book the rules are never judged
longer : (v : ℕ) (h : Head) (m n : ℕ) (x y : Option Fault) → longest < m → longest < n
    → first_some (bad_count h ∷ when (not (eqb n (start v h 5))) (Length n) ∷ y ∷ []) ≡ grown_by n (first_some (bad_count h ∷ when (not (eqb m (start v h 5))) (Length m) ∷ x ∷ []))
unfolding first_some when
longer v h m n x y lm ln = go (bad_count h) refl (count_same h n)
  where
    go : (o : Option Fault) → bad_count h ≡ o → o ≡ grown_by n o
        → first_some (o ∷ when (not (eqb n (start v h 5))) (Length n) ∷ y ∷ []) ≡ grown_by n (first_some (o ∷ when (not (eqb m (start v h 5))) (Length m) ∷ x ∷ []))
    go none e g =
        let short = no_longer v h e in
        rw (ne_eqb n (start v h 5) (λ k. omega arith), ne_eqb m (start v h 5) (λ k. omega arith))
    go (some f) e g = g

-- of any other there is nothing behind the front
rule-same : (v : ℕ) (h : Head) (n : ℕ) (r : Option (Letter × Spot)) → rule_fault v h r ≡ grown_by n (rule_fault v h r)
unfolding rule_fault
rule-same v h n none = refl
rule-same v h n (some r) = refl

same : (h : Head) (n : ℕ) (b : Bool) (x : Option Fault) → x ≡ grown_by n x
    → first_some (bad_count h ∷ when b (Length n) ∷ x ∷ []) ≡ grown_by n (first_some (bad_count h ∷ when b (Length n) ∷ x ∷ []))
unfolding first_some when
same h n b x e = go (bad_count h) b x (count_same h n) e
  where
    go : (o : Option Fault) (b : Bool) (x : Option Fault) → o ≡ grown_by n o → x ≡ grown_by n x
        → first_some (o ∷ when b (Length n) ∷ x ∷ []) ≡ grown_by n (first_some (o ∷ when b (Length n) ∷ x ∷ []))
    go (some f) b x g e = g
    go none true x g e = refl
    go none false none g e = refl
    go none false (some f) g e = e

pub fault-longer : (p q : List ℕ) → longest < length p → fault (p ++ q) ≡ grown_by (length (p ++ q)) (fault p)
unfolding fault
fault-longer p q h =
    let long : longest < length (p ++ q) = omega (arith, length-append p q) in
    rw (
      le-ltb (length (p ++ q)) 17 (omega arith),
      le-ltb (length p) 17 (omega arith),
      cell-front 3 0 p q (omega arith),
      version-front p q (omega arith),
      cell-front 1 5 p q (omega arith),
      head-front p q (omega arith),
    )
    (steps false (not (eqb (cell 3 0 p) 0x424B54)) (not (known (version_in p))) (ltb 1 (cell 1 5 p)) (length p) (length (p ++ q)) _ _
    (longer (version_in p) (head_in p) (length p) (length (p ++ q)) _ _ h long))

pub fault-same : (p : List ℕ) → fault p ≡ grown_by (length p) (fault p)
unfolding fault
fault-same p =
    let v = version_in p in
    steps (ltb (length p) 17) (not (eqb (cell 3 0 p) 0x424B54)) (not (known v)) (ltb 1 (cell 1 5 p)) (length p) (length p) _ _
    (same (head_in p) (length p) (not (eqb (length p) (start v (head_in p) 5))) _ (rule-same v (head_in p) (length p) (first_rule (rules (read p)))))

-- ---- the whole input, by its front

module _ {front : List ℕ} {total : ℕ} {came : List ℕ} (f : FrontOf front total came) where
  -- the front is all of the input, or longer than any book
  apart : (came ≡ front) ⊎ (longest < length front)
  apart = go (leb (length came) (longest + 1)) refl
    where
      go : (b : Bool) → leb (length came) (longest + 1) ≡ b → (came ≡ front) ⊎ (longest < length front)
      go true e = inl (sym (f.front≡ ∙ take_all (longest + 1) came (leb-true (length came) (longest + 1) e)))
      go false e = inr (omega (arith, ap length f.front≡, length-take-le (longest + 1) came (omega (arith, leb-false (length came) (longest + 1) e))))

  parts : came ≡ front ++ drop (longest + 1) came
  parts = sym (ap (λ (l : List ℕ). l ++ drop (longest + 1) came) f.front≡ ∙ take-append-drop (longest + 1) came)

  pub fault-whole : fault came ≡ grown_by total (fault front)
  fault-whole = ⊎_elim one two apart
    where
      one : came ≡ front → fault came ≡ grown_by total (fault front)
      one e = rw (f.whole, e) (fault-same front)

      two : longest < length front → fault came ≡ grown_by total (fault front)
      two h = rw (f.whole, parts) (fault-longer front (drop (longest + 1) came) h)

  pub version-whole : version_in came ≡ version_in front
  version-whole = ⊎_elim (ap version_in) (λ (h : longest < length front). ap version_in parts ∙ version-front front (drop (longest + 1) came) (omega arith)) apart

  pub head-whole : head_in came ≡ head_in front
  head-whole = ⊎_elim (ap head_in) (λ (h : longest < length front). ap head_in parts ∙ head-front front (drop (longest + 1) came) (omega arith)) apart

  -- fewer than 17 bytes are all there are
  pub short-whole : length front < 17 → (came ≡ front) × (total ≡ length front)
  short-whole h = go apart
    where
      go : (came ≡ front) ⊎ (longest < length front) → (came ≡ front) × (total ≡ length front)
      go (inl e) = (e, f.whole ∙ ap length e)
      go (inr l) = absurd (omega arith)
