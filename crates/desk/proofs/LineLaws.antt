-- The lines that a block takes: one after the other, the first newline of what is left ends the next.
-- Assumes nothing.
use Prim.Native.Nat.{ℕ, zero, suc, ◌+◌, ◌*◌, ◌-◌, ◌≤◌, ◌<◌}
use mathlib.Core.Path.{◌≡◌, refl, sym, ap, ap₂, subst, ◌∙◌}
use mathlib.Core.Bool.{Bool, true, false, cond}
use mathlib.Core.List.{List, [], ◌∷◌, ◌++◌, append_assoc, append-nil}
use native.Mathlib.Omega.{arith}
use lib.Dec.{eqb, leb, ltb}
use lib.ListN.{length, take, drop, length-drop}
use lib.Seq.{take-nil, take-take, drop-drop, length-take-le}
use borrow.Author.Tests.{le-leb, lt-leb, ne_eqb, ltb-true, ltb-false}
use Rattle.rows.specs.Number.{stored}
use Rattle.rows.proofs.Laws.{stored-first}
use Rattle.rules.specs.Lists.{first}
use Rattle.lines.specs.Request.{longer, line_asks, first_line}
use Rattle.std.specs.Prelude.{Option, Some, None, position}
use Rattle.std.specs.List.{copy_within}
use Rattle.rules.specs.declared.Mode.{Mode}
use Rattle.lines.specs.declared.request.Asked.{Asked}
use Rattle.lines.specs.Program.{newline, lines_in, span}
use Rattle.desk.specs.Input.{between, Within, too_long, Keeps, taking, mode_taken}
use Rattle.desk.specs.declared.input.Unread.{Unread}
use Rattle.desk.specs.Block.{row_for, numbers_of, most_of, rows_of, line_count, Takes}
use Rattle.std.specs.List.{position_or_len}
use Rattle.std.proofs.lemmas.List.Recursion.{is_position_or_len}
use Rattle.desk.proofs.Laws.{some≢none}
use Rattle.desk.proofs.PrintLaws.{taken-stored}

-- ---- the next line of a text

lines_next : (xs : List ℕ) → first newline xs < length xs → lines_in xs ≡ take (first newline xs) xs ∷ lines_in (drop (first newline xs + 1) xs)
unfolding lines_in first longer
lines_next [] h = absurd (omega arith)
lines_next (c ∷ cs) h = go (newline c) (lines_next cs) h
  where
    go : (z : Bool) → (first newline cs < length cs → lines_in cs ≡ take (first newline cs) cs ∷ lines_in (drop (first newline cs + 1) cs))
        → cond z zero (suc (first newline cs)) < suc (length cs)
        → cond z ([] ∷ lines_in cs) (longer c (lines_in cs))
        ≡ take (cond z zero (suc (first newline cs))) (c ∷ cs) ∷ lines_in (drop (cond z zero (suc (first newline cs)) + 1) (c ∷ cs))
    go true r l = refl
    go false r l = let e : suc (first newline cs) + 1 ≡ suc (first newline cs + 1) = omega arith in rw (e, r (omega arith))

lines_none : (xs : List ℕ) → length xs ≤ first newline xs → lines_in xs ≡ []
unfolding lines_in first longer
lines_none [] h = refl
lines_none (c ∷ cs) h = go (newline c) (lines_none cs) h
  where
    go : (z : Bool) → (length cs ≤ first newline cs → lines_in cs ≡ []) → suc (length cs) ≤ cond z zero (suc (first newline cs))
        → cond z ([] ∷ lines_in cs) (longer c (lines_in cs)) ≡ []
    go true r l = absurd (omega arith)
    go false r l = rw (r (omega arith))

pub drop-take : (m n : ℕ) (xs : List ℕ) → drop m (take n xs) ≡ take (n - m) (drop m xs)
drop-take zero n xs = let e : n - 0 ≡ n = omega arith in rw e
drop-take (suc m) zero xs = let e : 0 - suc m ≡ 0 = omega arith in rw e
drop-take (suc m) (suc n) [] = sym (take-nil (suc n - suc m))
drop-take (suc m) (suc n) (x ∷ xs) = let e : suc n - suc m ≡ n - m = omega arith in rw e (drop-take m n xs)

-- of a part of the input; k bytes stand before its first newline
module _ (input : List ℕ) (from to k : ℕ) (o : from ≤ to) (i : to ≤ length input) (e : k ≡ first newline (between from to input)) where
  pub part-long : length (between from to input) ≡ to - from
  part-long = length-take-le (to - from) (drop from input) (omega (arith, length-drop from input))

  pub part-next : k < to - from → lines_in (between from to input) ≡ between from (from + k) input ∷ lines_in (between (from + k + 1) to input)
  part-next l =
      let part : List ℕ = between from to input in
      let width : from + k - from ≡ k = omega arith in
      let left : to - (from + k + 1) ≡ to - from - (k + 1) = omega arith in
      let here : take k part ≡ between from (from + k) input = take-take k (to - from) (drop from input) (omega arith) ∙ ap (λ (n : ℕ). take n (drop from input)) (sym width) in
      let behind : from + (k + 1) ≡ from + k + 1 = omega arith in
      let rest : drop (k + 1) part ≡ between (from + k + 1) to input =
      drop-take (k + 1) (to - from) (drop from input) ∙ ap₂ (λ (n : ℕ) (x : List ℕ). take n x) (sym left) (drop-drop (k + 1) from input ∙ ap (λ (n : ℕ). drop n input) behind) in
      lines_next part (omega (arith, part-long))
      ∙ ap₂ (λ (x y : List ℕ). x ∷ lines_in y)
      (ap (λ (n : ℕ). take n part) (sym e) ∙ here) (ap (λ (n : ℕ). drop (n + 1) part) (sym e) ∙ rest)

  pub part_none : to - from ≤ k → lines_in (between from to input) ≡ []
  part_none l = lines_none (between from to input) (omega (arith, part-long))

  pub line-long : k < to - from → length (between from (from + k) input) ≡ k
  line-long l = length-take-le (from + k - from) (drop from input) (omega (arith, length-drop from input)) ∙ omega arith

-- ---- the lines taken

-- it stops where no row is left, where the order rows may not be enough for the next line, or where no line is left
module _ (room : ℕ) (cut : Bool) (from : ℕ) where
  pub stop-full : {n : ℕ} → n ≡ 0 → (ls : List (List ℕ)) → Takes n room cut from ls 0 [] from cut
  unfolding line_count rows_of span
  stop-full e ls = rw e (record { count≡ = refl; rows≡ = refl; from≡ = omega arith; cut≡ = refl })

  pub stop-room : (n : ℕ) {l : List ℕ} {ls ls' : List (List ℕ)} {q : Asked} {most : ℕ} → ls ≡ l ∷ ls' → q ≡ row_for cut (line_asks l) → most ≡ most_of q.kind → room < most
      → Takes n room cut from ls 0 [] from cut
  unfolding line_count rows_of span
  stop-room n {l} {ls} {ls'} {q} {most} e asks m h = rw e (record { count≡ = go n; rows≡ = refl; from≡ = omega arith; cut≡ = refl })
    where
      less : room < most_of (row_for cut (line_asks l)).kind
      less = subst (λ (x : ℕ). room < x) (m ∙ ap (λ (x : Asked). most_of x.kind) asks) h

      go : (n : ℕ) → 0 ≡ line_count n room cut (l ∷ ls')
      go zero = refl
      go (suc n) = rw (lt-leb (most_of (row_for cut (line_asks l)).kind) room less)

  pub stop-lines : (n : ℕ) {ls : List (List ℕ)} → ls ≡ [] → Takes n room cut from ls 0 [] from cut
  unfolding line_count rows_of span
  stop-lines n e = rw e (record { count≡ = go n; rows≡ = refl; from≡ = omega arith; cut≡ = refl })
    where
      go : (n : ℕ) → 0 ≡ line_count n room cut []
      go zero = refl
      go (suc n) = refl

-- one line more, in front of those that follow
takes-more : (m room : ℕ) (cut : Bool) (from : ℕ) (l : List ℕ) (ls : List (List ℕ)) (q : Asked) → most_of q.kind ≤ room → q ≡ row_for cut (line_asks l)
    → {k f : ℕ} {rows : List ℕ} {c : Bool} → Takes m (room - most_of q.kind) false (from + length l + 1) ls k rows f c
    → Takes (suc m) room cut from (l ∷ ls) (suc k) (numbers_of q ++ rows) f c
unfolding line_count rows_of span
takes-more m room cut from l ls q h e {k} {f} {rows} {c} t =
    record {
      count≡ = ap suc t.count≡ ∙ (sym (ap (λ (z : Bool). cond z (suc (line_count m (room - most_of q.kind) false ls)) 0) (le-leb (most_of q.kind) room h))
          ∙ ap (λ (x : Asked). cond (leb (most_of x.kind) room) (suc (line_count m (room - most_of x.kind) false ls)) 0) e);
      rows≡ = ap₂ (λ (x : Asked) (r : List ℕ). numbers_of x ++ r) e t.rows≡;
      from≡ = omega (arith, t.from≡);
      cut≡ = rw (ne_eqb (suc k) 0 (λ z. omega arith)) (t.cut≡ ∙ same (eqb k 0));
    }
  where
    same : (z : Bool) → cond z false false ≡ false
    same true = refl
    same false = refl

-- what follows from here completes the block: the rows so far, and those of the lines left
abbrev pub Goes : Bool → ℕ → List (List ℕ) → ℕ → ℕ → Bool → ℕ → List (List ℕ) → List ℕ → Type 0
Goes cut₀ from₀ ls₀ rows room cut from ls requests =
    (k : ℕ) (more : List ℕ) (f : ℕ) (c : Bool) → Takes (128 - rows) room cut from ls k more f c
    → Takes 128 6144 cut₀ from₀ ls₀ (rows + k) (take (rows * 3) requests ++ more) f c

pub goes-start : (cut : Bool) (from : ℕ) (ls : List (List ℕ)) (requests : List ℕ) → Goes cut from ls 0 6144 cut from ls requests
goes-start cut from ls requests k more f c t =
    let n : k ≡ 0 + k = omega arith in
    subst (λ (x : ℕ). Takes 128 6144 cut from ls x more f c) n t

module _ (cut₀ : Bool) (from₀ : ℕ) (ls₀ : List (List ℕ)) (rows room : ℕ) (cut : Bool) (from : ℕ) {ls : List (List ℕ)} (requests : List ℕ)
    (g : Goes cut₀ from₀ ls₀ rows room cut from ls requests) where
  -- nothing follows
  pub goes_end : Takes (128 - rows) room cut from ls 0 [] from cut → Takes 128 6144 cut₀ from₀ ls₀ rows (take (rows * 3) requests) from cut
  goes_end t =
      let n : rows + 0 ≡ rows = omega arith in
      subst (λ (x : List ℕ). Takes 128 6144 cut₀ from₀ ls₀ rows x from cut) (append-nil (take (rows * 3) requests))
      (subst (λ (x : ℕ). Takes 128 6144 cut₀ from₀ ls₀ x (take (rows * 3) requests ++ []) from cut) n (g 0 [] from cut t))

  -- one line more
  pub goes-more : rows < 128 → rows * 3 + 3 ≤ length requests → {l : List ℕ} {ls' : List (List ℕ)} {q : Asked} {now : List ℕ} {width end : ℕ}
      → ls ≡ l ∷ ls' → q ≡ row_for cut (line_asks l) → now ≡ stored (rows * 3) (numbers_of q) requests → width ≡ most_of q.kind → width ≤ room → end ≡ from + length l + 1
      → Goes cut₀ from₀ ls₀ (rows + 1) (room - width) false end ls' now
  goes-more a r {l} {ls'} {q} {now} {width} {end} e asks n w b d k more f c t =
      let left : 128 - rows ≡ suc (128 - (rows + 1)) = omega arith in
      let t' : Takes (128 - (rows + 1)) (room - most_of q.kind) false (from + length l + 1) ls' k more f c =
      subst (λ (x : ℕ). Takes (128 - (rows + 1)) (room - x) false (from + length l + 1) ls' k more f c) w
      (subst (λ (x : ℕ). Takes (128 - (rows + 1)) (room - width) false x ls' k more f c) d t) in
      let next : Takes (128 - rows) room cut from ls (suc k) (numbers_of q ++ more) f c = rw (left, e) (takes-more (128 - (rows + 1)) room cut from l ls' q (subst (λ (x : ℕ). x ≤ room) w b) asks t') in
      let whole = g (suc k) (numbers_of q ++ more) f c next in
      let count : rows + suc k ≡ rows + 1 + k = omega arith in
      let width' : (rows + 1) * 3 ≡ rows * 3 + 3 = omega arith in
      let list : take (rows * 3) requests ++ (numbers_of q ++ more) ≡ take ((rows + 1) * 3) now ++ more =
      sym (append_assoc (take (rows * 3) requests) (numbers_of q) more)
      ∙ ap (λ (x : List ℕ). x ++ more) (sym (ap₂ (λ (x : ℕ) (y : List ℕ). take x y) width' n ∙ taken-stored (rows * 3) (numbers_of q) requests (omega arith))) in
      subst (λ (x : List ℕ). Takes 128 6144 cut₀ from₀ ls₀ (rows + 1 + k) x f c) list
      (subst (λ (x : ℕ). Takes 128 6144 cut₀ from₀ ls₀ x (take (rows * 3) requests ++ (numbers_of q ++ more)) f c) count whole)

-- ---- a part to the front

pub to-front : (input : List ℕ) (from to : ℕ) (now : List ℕ) → from ≤ to → to ≤ length input → now ≡ copy_within input from to 0 → now ≡ stored 0 (between from to input) input
unfolding stored
to-front input from to now o i e =
    let part : List ℕ = between from to input in
    let long : length part ≡ to - from = length-take-le (to - from) (drop from input) (omega (arith, length-drop from input)) in
    e ∙ ap (λ (n : ℕ). part ++ drop (0 + n) input) (sym long)

-- ---- where the next line ends

first_is : (xs : List ℕ) → first newline xs ≡ position_or_len newline xs
unfolding first
first_is xs = is_position_or_len (first newline) newline refl (λ x ys. ap (λ (n : ℕ). cond (newline x) 0 n) (omega arith)) xs

module _ (xs : List ℕ) where
  found : position newline xs ≡ cond (ltb (first newline xs) (length xs)) (Some (first newline xs)) None
  found = ap (λ (n : ℕ). cond (ltb n (length xs)) (Some n) None) (sym (first_is xs))

  pub end-found : {k : ℕ} → Some k ≡ position newline xs → (k ≡ first newline xs) × (k < length xs)
  end-found {k} e = go (ltb (first newline xs) (length xs)) refl (e ∙ found)
    where
      go : (z : Bool) → ltb (first newline xs) (length xs) ≡ z → Some k ≡ cond z (Some (first newline xs)) None → (k ≡ first newline xs) × (k < length xs)
      go true l f = let s : k ≡ first newline xs = cc in (s, omega (arith, s, ltb-true (first newline xs) (length xs) l))
      go false l f = absurd (some≢none f)

  pub end-none : None ≡ position newline xs → length xs ≤ first newline xs
  end-none e = go (ltb (first newline xs) (length xs)) refl (e ∙ found)
    where
      go : (z : Bool) → ltb (first newline xs) (length xs) ≡ z → None ≡ cond z (Some (first newline xs)) None → length xs ≤ first newline xs
      go true l f = absurd (some≢none (sym f))
      go false l f = ltb-false (first newline xs) (length xs) l

-- of a part of the input
module _ (input : List ℕ) (from to : ℕ) (o : from ≤ to) (i : to ≤ length input) where
  pub no-line : None ≡ position newline (between from to input) → lines_in (between from to input) ≡ []
  no-line e =
      part_none input from to (first newline (between from to input)) o i refl
      (omega (arith, end-none (between from to input) e, part-long input from to (first newline (between from to input)) o i refl))

  module _ {k : ℕ} (e : Some k ≡ position newline (between from to input)) where
    stands : k ≡ first newline (between from to input)
    stands = (end-found (between from to input) e).0

    pub line-inside : k < to - from
    line-inside = omega (arith, (end-found (between from to input) e).1, part-long input from to k o i stands)

    pub line-next : lines_in (between from to input) ≡ between from (from + k) input ∷ lines_in (between (from + k + 1) to input)
    line-next = part-next input from to k o i stands line-inside

    pub line-length : length (between from (from + k) input) ≡ k
    line-length = line-long input from to k o i stands line-inside

-- ---- what is kept of it

module _ (u : Unread) where
  pub long-cut : u.cut ≡ true → too_long u ≡ true
  unfolding too_long
  long-cut e = rw e

  pub long-by : {z : Bool} → u.cut ≡ false → ltb 512 (u.to - u.from) ≡ z → too_long u ≡ z
  unfolding too_long
  long-by e f = rw e f

module _ (u : Unread) (input : List ℕ) where
  pub keeps-none : too_long u ≡ true → (now : List ℕ) → Keeps u input (record { from = 0; to = 0; cut = true; ended = false }) now
  keeps-none e now = record { marked = rw e; bytes = rw e }

  pub keeps-all : too_long u ≡ false → Within u input → {n : ℕ} {now : List ℕ} → n ≡ u.to - u.from → now ≡ stored 0 (between u.from u.to input) input
      → Keeps u input (record { from = 0; to = n; cut = false; ended = false }) now
  keeps-all e w {n} {now} k f =
      let part : List ℕ = between u.from u.to input in
      let long : n ≡ length part = k ∙ sym (part-long input u.from u.to (first newline part) w.ordered w.inside refl) in
      record {
        marked = rw (e, k);
        bytes = rw e (ap₂ (λ (x : ℕ) (y : List ℕ). take x y) long f ∙ stored-first part input);
      }

-- ---- the first line

module _ (u : Unread) where
  pub mode-cut : u.cut ≡ true → (ls : List (List ℕ)) → None ≡ mode_taken u u.cut ls
  mode-cut e ls = ap (λ (z : Bool). mode_taken u z ls) (sym e)

  pub mode-none : {ls : List (List ℕ)} → u.cut ≡ false → ls ≡ [] → None ≡ mode_taken u u.cut ls
  mode-none e p = ap₂ (λ (z : Bool) (x : List (List ℕ)). mode_taken u z x) (sym e) (sym p)

  pub mode_of : {l : List ℕ} {ls ls' : List (List ℕ)} {o : Option Mode} {end : ℕ} → u.cut ≡ false → ls ≡ l ∷ ls' → o ≡ first_line l → end ≡ u.from + length l + 1
      → taking u end o ≡ mode_taken u u.cut ls
  mode_of {l} {ls} {ls'} {o} {end} e p q d =
      ap₂ (λ (x : Option Mode) (n : ℕ). taking u n x) q d ∙ ap₂ (λ (z : Bool) (x : List (List ℕ)). mode_taken u z x) (sym e) (sym p)
