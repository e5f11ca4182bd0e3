-- The input that was read and is not yet taken: what is kept of it, and what is left of it behind lines.
-- Assumes nothing.
use Prim.Native.Nat.{ℕ, zero, suc, ◌+◌, ◌-◌, ◌≤◌, ◌<◌}
use mathlib.Core.Path.{◌≡◌, refl, sym, ap, ap₂, ◌∙◌}
use mathlib.Core.Bool.{Bool, true, false, cond, ◌&&◌, ◌||◌, not, true≢false}
use mathlib.Core.List.{List, [], ◌∷◌, ◌++◌, append_assoc, append-nil}
use mathlib.Core.Logic.{◌⊎◌, inl, inr}
use native.Mathlib.Numerals.{add-one}
use native.Mathlib.Omega.{arith}
use lib.Dec.{eqb, ltb}
use lib.ListN.{length, replicate, take, drop, set, length-append, length-drop}
use lib.Seq.{drop-drop, drop_at, take-add, take-suc-set, length-take-le}
use borrow.Author.Tests.{ltb-true, ltb-false, lt-ltb, le-ltb, ne_eqb}
use Rattle.std.specs.Prelude.{Option, Some, None, position}
use Rattle.std.specs.Option.{is_none}
use Rattle.rules.specs.Book.{Book}
use Rattle.lines.specs.Request.{longer}
use Rattle.lines.specs.Program.{newline, lines_in, closed, span, answers, answered, program}
use Rattle.lines.proofs.ProgramLaws.{behind, start-lines, start-closed, closed-left, closed-twice, long-start, long-first}
use Rattle.desk.specs.Input.{between, Within, start, pending, Whole, Comes, no_line, lacks_line, kept, Got, ReadSoFar, too_long, Kept, Keeps, Ends}
use Rattle.desk.specs.declared.input.Unread.{Unread}
use Rattle.desk.proofs.LineLaws.{drop-take, no-line, line-next}

-- ---- a start that was dropped

zeros-long : (n : ℕ) → length {A = ℕ} (replicate n 0) ≡ n
zeros-long zero = refl
zeros-long (suc n) = ap suc (zeros-long n)

zeros-none : (n : ℕ) → lines_in (replicate n 0) ≡ []
unfolding lines_in longer
zeros-none zero = refl
zeros-none (suc n) = ap (longer 0) (zeros-none n)

pub start-long : length (start true) ≡ 513
unfolding start
start-long = zeros-long 513

pub start_none : (cut : Bool) → lines_in (start cut) ≡ []
unfolding start lines_in
start_none true = zeros-none 513
start_none false = refl

pub start-off : start false ≡ []
unfolding start
start-off = refl

-- what is kept of an unfinished line asks the same
module _ (w : List ℕ) (e : lines_in w ≡ []) where
  pub kept-none : lines_in (kept w) ≡ []
  unfolding kept
  kept-none = go (ltb 512 (length w))
    where
      go : (z : Bool) → lines_in (cond z (start true) w) ≡ []
      go true = start_none true
      go false = e

  module _ (z : List ℕ) where
    pub kept-answers : (b : Book) → answers (lines_in (closed (w ++ z))) b ≡ answers (lines_in (closed (kept w ++ z))) b
    unfolding kept
    kept-answers b = go (ltb 512 (length w)) refl
      where
        go : (x : Bool) → ltb 512 (length w) ≡ x → answers (lines_in (closed (w ++ z))) b ≡ answers (lines_in (closed (cond x (start true) w ++ z))) b
        go true h = long-start w z (ltb-true 512 (length w) h) e b ∙ sym (long-start (start true) z (omega (arith, start-long)) (start_none true) b)
        go false h = refl

    pub kept-answered : answered (lines_in (closed (w ++ z))) ≡ answered (lines_in (closed (kept w ++ z)))
    unfolding kept
    kept-answered = go (ltb 512 (length w)) refl
      where
        go : (x : Bool) → ltb 512 (length w) ≡ x → answered (lines_in (closed (w ++ z))) ≡ answered (lines_in (closed (cond x (start true) w ++ z)))
        go true h = long-first w z (ltb-true 512 (length w) h) e ∙ sym (long-first (start true) z (omega (arith, start-long)) (start_none true))
        go false h = refl

-- ---- behind the lines taken

pub take_behind : (k : ℕ) (w : List ℕ) (ls : List (List ℕ)) → take k (behind w ls) ≡ behind w (take k ls)
take_behind zero w [] = refl
take_behind zero w (l ∷ ls) = refl
take_behind (suc k) w [] = refl
take_behind (suc k) w (l ∷ ls) = refl

module _ (u : Unread) (input : List ℕ) where
  abbrev part : List ℕ
  part = between u.from u.to input

  pub pending-lines : lines_in (pending u input) ≡ behind (start u.cut) (lines_in part)
  unfolding pending
  pending-lines = start-lines (start u.cut) part (start_none u.cut)

  pub drop-part : (n : ℕ) → drop n part ≡ between (u.from + n) u.to input
  drop-part n =
      let left : u.to - u.from - n ≡ u.to - (u.from + n) = omega arith in
      drop-take n (u.to - u.from) (drop u.from input) ∙ ap₂ (λ (m : ℕ) (x : List ℕ). take m x) left (drop-drop n u.from input)

  pub pending-taken : (k : ℕ) → (lines_in part ≡ [] → k ≡ 0) → (v : Unread) → v.from ≡ u.from + span (take k (lines_in part)) → v.to ≡ u.to
      → v.cut ≡ cond (eqb k 0) u.cut false → pending v input ≡ drop (span (take k (lines_in (pending u input)))) (pending u input)
  unfolding pending start span
  pending-taken k h v f t c = rw pending-lines (go k (lines_in part) h f c)
    where
      go : (k : ℕ) (ls : List (List ℕ)) → (ls ≡ [] → k ≡ 0) → v.from ≡ u.from + span (take k ls) → v.cut ≡ cond (eqb k 0) u.cut false
          → start v.cut ++ between v.from v.to input ≡ drop (span (take k (behind (start u.cut) ls))) (start u.cut ++ part)
      go zero ls h f c =
          let here : v.from ≡ u.from = f ∙ omega arith in
          rw (c, here, t)
      go (suc k) [] h f c = absurd (omega (arith, h refl))
      go (suc k) (l ∷ ls) h f c =
          let st : List ℕ = start u.cut in
          let n : ℕ = length l + 1 + span (take k ls) in
          let far : length st + n ≡ length (st ++ l) + 1 + span (take k ls) = omega (arith, length-append st l) in
          let uncut : v.cut ≡ false = c ∙ ap (λ (z : Bool). cond z u.cut false) (ne_eqb (suc k) 0 (λ e. omega arith)) in
          rw (uncut, f, t)
          (sym
          (ap (λ (m : ℕ). drop m (st ++ part)) (sym far)
          ∙ (sym (drop-drop n (length st) (st ++ part)) ∙ (ap (λ (x : List ℕ). drop n x) (drop_at st part (length st) refl) ∙ drop-part n))))

  -- the last line keeps its newline
  pub whole-taken : (k : ℕ) {ended : Bool} → Whole (pending u input) ended → Whole (drop (span (take k (lines_in (pending u input)))) (pending u input)) ended
  whole-taken k h e = sym (closed-left k (pending u input)) ∙ ap (λ (x : List ℕ). drop (span (take k (lines_in (pending u input)))) x) (h e)

-- ---- an unfinished line

-- the whole of a part that starts at the front
front-part : (n : ℕ) (input : List ℕ) → between 0 n input ≡ take n input
front-part n input = let e : n - 0 ≡ n = omega arith in rw e

unfinished-closed : (w : List ℕ) → 0 < length w → lines_in w ≡ [] → closed w ≡ w ++ (10 ∷ [])
unfinished-closed w h e = ap closed (sym (append-nil w)) ∙ start-closed w [] h e

module _ (u : Unread) (input : List ℕ) where
  -- to the front, or dropped
  pub keeps-pending : {r : Unread} {now : List ℕ} → Within u input → Keeps u input r now → pending r now ≡ kept (pending u input)
  unfolding pending kept too_long
  keeps-pending {r} {now} w k = go (too_long u) refl k.marked k.bytes
    where
      mine : List ℕ
      mine = between u.from u.to input

      long : length (start u.cut ++ mine) ≡ length (start u.cut) + (u.to - u.from)
      long = omega (arith, length-append (start u.cut) mine, length-take-le (u.to - u.from) (drop u.from input) (omega (arith, w.ordered, w.inside, length-drop u.from input)))

      too-long : (z : Bool) → u.cut ≡ z → (z || ltb 512 (u.to - u.from)) ≡ true → ltb 512 (length (start u.cut ++ mine)) ≡ true
      too-long true e h = lt-ltb 512 (length (start u.cut ++ mine)) (omega (arith, long, ap (λ (z : Bool). length (start z)) e, start-long))
      too-long false e h = lt-ltb 512 (length (start u.cut ++ mine)) (omega (arith, long, ltb-true 512 (u.to - u.from) h))

      short : (z : Bool) → u.cut ≡ z → (z || ltb 512 (u.to - u.from)) ≡ false → (u.cut ≡ false) × (ltb 512 (length (start u.cut ++ mine)) ≡ false)
      short true e h = absurd (true≢false h)
      short false e h = (e, le-ltb 512 (length (start u.cut ++ mine)) (omega (arith, long, ap (λ (z : Bool). length (start z)) e, ap length start-off, ltb-false 512 (u.to - u.from) h)))

      go : (z : Bool) → too_long u ≡ z
          → r ≡ cond z (record { from = 0; to = 0; cut = true; ended = false }) (record { from = 0; to = u.to - u.from; cut = false; ended = false })
          → take r.to now ≡ cond z [] mine
          → start r.cut ++ between r.from r.to now ≡ cond (ltb 512 (length (start u.cut ++ mine))) (start true) (start u.cut ++ mine)
      go true e m bs = rw (m, too-long u.cut refl e) (append-nil (start true))
      go false e m bs =
          let (c, s) = short u.cut refl e in
          let here : between 0 (u.to - u.from) now ≡ mine = front-part (u.to - u.from) now ∙ (ap (λ (x : Unread). take x.to now) (sym m) ∙ bs) in
          rw (m, s, c, here)

  module _ (k : Kept u) where
    front : u.from ≡ 0
    front = omega (arith, k.front)

    -- nothing is left
    pub end_empty : u.to ≡ 0 → u.cut ≡ false → pending (record { from = 0; to = 0; cut = false; ended = true }) input ≡ closed (pending u input)
    unfolding pending start closed
    end_empty t c = rw (front, t, c)

    pub end-some : 512 < length input → (0 < u.to) ⊎ (u.cut ≡ true) → 0 < length (pending u input)
    unfolding pending
    end-some l h = omega (arith, length-append (start u.cut) (between u.from u.to input), length-take-le (u.to - u.from) (drop u.from input) (omega (arith, k.short, length-drop u.from input)), go h)
      where
        go : (0 < u.to) ⊎ (u.cut ≡ true) → 0 < length (start u.cut) + (u.to - u.from)
        go (inl p) = omega (arith, front)
        go (inr e) = omega (arith, ap (λ (z : Bool). length (start z)) e, start-long)

    -- the newline that the last line lacks
    pub end_line : 0 < length (pending u input) → u.to < length input → lines_in (pending u input) ≡ []
        → pending (record { from = 0; to = u.to + 1; cut = u.cut; ended = true }) (set input u.to 10) ≡ closed (pending u input)
    unfolding pending
    end_line h l n =
        let here : between u.from u.to input ≡ take u.to input = ap (λ (m : ℕ). between m u.to input) front ∙ front-part u.to input in
        let there : between 0 (u.to + 1) (set input u.to 10) ≡ take u.to input ++ (10 ∷ []) =
        front-part (u.to + 1) (set input u.to 10) ∙ (ap (λ (m : ℕ). take m (set input u.to 10)) (add-one u.to) ∙ take-suc-set input u.to 10 l) in
        ap (λ (x : List ℕ). start u.cut ++ x) (there ∙ ap (λ (x : List ℕ). x ++ (10 ∷ [])) (sym here))
        ∙ (sym (append_assoc (start u.cut) (between u.from u.to input) (10 ∷ [])) ∙ sym (unfinished-closed (pending u input) h n))

-- ---- a read

-- what came and what may still come behind what is kept, with the last line's newline
pub read-closed : (left came after more : List ℕ) (ended : Bool) → Comes ended more → Comes ended came → after ≡ cond ended (closed (kept left)) (kept left ++ came)
    → closed (kept left ++ (came ++ more)) ≡ closed (after ++ more)
read-closed left came after more true h c w =
    ap₂ (λ (x y : List ℕ). closed (kept left ++ (x ++ y))) (c refl) (h refl)
    ∙ (ap closed (append-nil (kept left))
    ∙ (sym (closed-twice (kept left)) ∙ (ap closed (sym (append-nil (closed (kept left)))) ∙ ap₂ (λ (x y : List ℕ). closed (x ++ y)) (sym w) (sym (h refl)))))
read-closed left came after more false h c w = ap closed (sym (append_assoc (kept left) came more)) ∙ ap (λ (x : List ℕ). closed (x ++ more)) (sym w)

-- after `keep_start` and the read; the bytes before those that came are as they were
module _ (u : Unread) (input : List ℕ) (w : Within u input) (n : lines_in (pending u input) ≡ []) (k : Unread) (mid : List ℕ) (p : Kept k) (q : Keeps u input k mid)
    (now : List ℕ) (same : take k.to now ≡ take k.to mid) where
  again : pending k now ≡ kept (pending u input)
  unfolding pending
  again =
      let zero' : k.from ≡ 0 = omega (arith, p.front) in
      let front' : (x : List ℕ) → between k.from k.to x ≡ take k.to x = λ x. ap (λ (m : ℕ). between m k.to x) zero' ∙ front-part k.to x in
      ap (λ (x : List ℕ). start k.cut ++ x) (front' now ∙ (same ∙ sym (front' mid))) ∙ keeps-pending u input w q

  pub got-unfinished : lines_in (pending k now) ≡ []
  got-unfinished = ap lines_in again ∙ kept-none (pending u input) n

  -- the end of the input
  pub got-end : (r : Unread) (fin : List ℕ) → Within r fin → Ends r (pending r fin) (pending k now) → Got u input r fin
  got-end r fin i e =
      record {
        within = i;
        last = λ h. ap closed e.bytes ∙ (closed-twice (pending k now) ∙ sym e.bytes);
        more = record {
          came = [];
          last = λ h. refl;
          bytes = e.bytes ∙ (ap closed again ∙ sym (ap (λ (z : Bool). cond z (closed (kept (pending u input))) (kept (pending u input) ++ [])) e.ended));
        };
      }

  -- some bytes
  pub got-some : (m : ℕ) → k.to + m ≤ length now → Got u input (record { from = 0; to = k.to + m; cut = k.cut; ended = false }) now
  unfolding pending
  got-some m l =
      let zero' : k.from ≡ 0 = omega (arith, p.front) in
      let here : between 0 (k.to + m) now ≡ between k.from k.to now ++ take m (drop k.to now) =
      front-part (k.to + m) now ∙ (take-add k.to m now ∙ ap (λ (x : List ℕ). x ++ take m (drop k.to now)) (sym (ap (λ (x : ℕ). between x k.to now) zero' ∙ front-part k.to now))) in
      record {
        within = record { ordered = omega arith; inside = l };
        last = λ h. absurd (true≢false (sym h));
        more = record {
          came = take m (drop k.to now);
          last = λ h. absurd (true≢false (sym h));
          bytes = ap (λ (x : List ℕ). start k.cut ++ x) here
              ∙ (sym (append_assoc (start k.cut) (between k.from k.to now) (take m (drop k.to now))) ∙ ap (λ (x : List ℕ). x ++ take m (drop k.to now)) again);
        };
      }

-- ---- the first line

module _ (u : Unread) (input : List ℕ) where
  pub lacks-ended : u.ended ≡ true → false ≡ lacks_line u input
  unfolding lacks_line
  lacks-ended e = rw e

  module _ (w : Within u input) (e : u.ended ≡ false) where
    abbrev mine : List ℕ
    mine = between u.from u.to input

    lacks-by : no_line (behind (start u.cut) (lines_in mine)) ≡ lacks_line u input
    unfolding lacks_line
    lacks-by = ap no_line (sym (pending-lines u input)) ∙ ap (λ (z : Bool). not z && no_line (lines_in (pending u input))) (sym e)

    -- by where the first newline stands
    pub lacks-whole : (o : Option ℕ) → o ≡ position newline mine → is_none o ≡ lacks_line u input
    unfolding no_line
    lacks-whole None f =
        sym (ap (λ (ls : List (List ℕ)). no_line (behind (start u.cut) ls)) (no-line input u.from u.to w.ordered w.inside f)) ∙ lacks-by
    lacks-whole (Some k) f =
        sym (ap (λ (ls : List (List ℕ)). no_line (behind (start u.cut) ls)) (line-next input u.from u.to w.ordered w.inside f)) ∙ lacks-by

  pub lacks-none : lacks_line u input ≡ true → (u.ended ≡ false) × (lines_in (pending u input) ≡ [])
  unfolding lacks_line no_line
  lacks-none h = go u.ended refl (lines_in (pending u input)) refl h
    where
      go : (z : Bool) → u.ended ≡ z → (ls : List (List ℕ)) → lines_in (pending u input) ≡ ls → (not z && no_line ls) ≡ true → (u.ended ≡ false) × (lines_in (pending u input) ≡ [])
      go true e ls f h = absurd (true≢false (sym h))
      go false e [] f h = (e, f)
      go false e (l ∷ ls) f h = absurd (true≢false (sym h))

-- an unfinished line that is all is none
pub none_left : (w : List ℕ) → lines_in w ≡ [] → closed w ≡ w → w ≡ []
none_left [] e h = refl
none_left (c ∷ cs) e h = absurd (omega (arith, length-append (c ∷ cs) (10 ∷ []), ap length (sym (unfinished-closed (c ∷ cs) (omega arith) e) ∙ h)))

-- nothing is read yet
pub so-far-none : (input : List ℕ) → ReadSoFar (record { from = 0; to = 0; cut = false; ended = false }) input
unfolding pending start program
so-far-none input = record { came = []; same = λ more h. refl; last = λ h. absurd (true≢false (sym h)) }

-- one read more
pub so_far_more : (u : Unread) (input : List ℕ) (r : Unread) (now : List ℕ) → ReadSoFar u input → lacks_line u input ≡ true → Got u input r now → ReadSoFar r now
so_far_more u input r now o h g =
    let m = g.more in
    let (ended, none') = lacks-none u input h in
    record {
      came = o.came ++ m.came;
      same = λ more c.
          ap program (append_assoc o.came m.came more)
          ∙ (o.same (m.came ++ more) (λ e. absurd (true≢false (sym e ∙ ended)))
          ∙ (kept-answered (pending u input) none' (m.came ++ more)
          ∙ ap (λ (x : List ℕ). answered (lines_in x)) (read-closed (pending u input) m.came (pending r now) more r.ended c m.last m.bytes)));
      last = g.last;
    }
