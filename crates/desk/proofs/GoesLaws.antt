-- What the parts of a turn promise adds up to what the turn promises.
-- Assumes nothing.
use Prim.Native.Nat.{ℕ, zero, suc, ◌+◌, ◌*◌, ◌-◌}
use mathlib.Core.Path.{◌≡◌, refl, sym, ap, ap₂, subst, ◌∙◌}
use mathlib.Core.Bool.{Bool, true, false, ◌&&◌, not, true≢false}
use mathlib.Core.List.{List, [], ◌∷◌, ◌++◌, append_assoc}
use native.Mathlib.Omega.{arith}
use lib.ListN.{length, take, drop, length-append}
use borrow.Author.Tests.{le-leb}
use Rattle.rows.specs.Number.{joined}
use Rattle.rules.specs.Book.{Book, empty_book}
use Rattle.rules.specs.Bytes.{Tables, book_in, head_of}
use Rattle.rules.specs.declared.Mode.{Mode}
use Rattle.rules.specs.declared.Head.{Head}
use Rattle.lines.specs.Request.{line_asks, first_line}
use Rattle.lines.specs.Program.{lines_in, closed, span, answers, leaves, started, answered, program, no14}
use Rattle.std.specs.Prelude.{Option, Some, None}
use Rattle.lines.proofs.ProgramLaws.{behind, closed-taken, long-asks, long-first}
use Rattle.rules.specs.Runs.{book_of}
use Rattle.theorems.proofs.RunLaws.{fresh, fresh-book}
use Rattle.desk.specs.Input.{between, start, pending, Whole, Comes, no_line, lacks_line, Got, ReadSoFar, FirstRead, taking, mode_taken}
use Rattle.desk.specs.Block.{numbers_of, row_for, most_of, rows_of, line_count, Takes, Reads, rows_answers, rows_leave, Answers}
use Rattle.desk.specs.Output.{Gathered}
use Rattle.desk.specs.Turn.{Desk, desk, still, Begins, Follows, stays, reads, Finished, Goes, Run, rests, Ran, Runs, Awaits}
use Rattle.desk.specs.declared.State.{State}
use Rattle.desk.specs.declared.block.Block.{Block}
use Rattle.desk.specs.declared.input.Unread.{Unread}
use Rattle.desk.specs.declared.input.Taken.{Taken}
use Rattle.desk.proofs.AnswerLaws.{lines_rows, lines-leave}
use Rattle.desk.proofs.Laws.{some≢none, most-fits}
use Rattle.desk.proofs.PendingLaws.{start-long, start_none, start-off, pending-lines, pending-taken, whole-taken, take_behind, none_left}
use Rattle.desk.proofs.ProgramLaws.{run-then, program-by-turns}

-- ---- a wait

pub awaits-end : (s : State) (input : List ℕ) (h : Head) → s.unread.ended ≡ true
    → Awaits s input (record { head = h; unread = s.unread; filled = 0; going = false }) input
awaits-end s input h e = record { came = []; sent = refl; rest = stays refl refl refl; stops = λ f. e }

pub awaits-read : (s : State) (input : List ℕ) (h : Head) (u : Unread) (now : List ℕ) → s.unread.ended ≡ false → lines_in (pending s.unread input) ≡ []
    → Got s.unread input u now → Awaits s input (record { head = h; unread = u; filled = 0; going = true }) now
awaits-read s input h u now e n g =
    let m = g.more in
    record { came = m.came; sent = refl; rest = reads e n m.last m.bytes; stops = λ h. absurd (true≢false h) }

-- ---- a block's answers

joined-parts : (k : ℕ) (xs : List (List ℕ)) → joined (take k xs) ++ joined (drop k xs) ≡ joined xs
unfolding joined
joined-parts zero xs = refl
joined-parts (suc k) [] = refl
joined-parts (suc k) (x ∷ xs) = append_assoc x (joined (take k xs)) (joined (drop k xs)) ∙ ap (λ (y : List ℕ). x ++ y) (joined-parts k xs)

-- the pieces that have gone, and those that the buffer holds
pub printed-answers : (requests : List ℕ) (book : Book) (front : List ℕ) (pieces : List (List ℕ)) (end : ℕ) (out : List ℕ) → Gathered (front ∷ pieces) end out
    → joined pieces ≡ rows_answers requests book → (book' : Book) → book' ≡ rows_leave requests book → Answers requests book front book' (take end out)
unfolding joined
printed-answers requests book front pieces end out g e book' f =
    record {
      gone = joined (take g.gone (front ∷ pieces));
      text = ap (λ (x : List ℕ). joined (take g.gone (front ∷ pieces)) ++ x) g.holds ∙ (joined-parts g.gone (front ∷ pieces) ∙ ap (λ (x : List ℕ). front ++ x) e);
      book≡ = f;
    }

-- ---- the lines of a block

cut-rows : (cut : Bool) (ls : List (List ℕ)) → rows_of cut ls ≡ rows_of false (behind (start cut) ls)
unfolding rows_of
cut-rows cut [] = refl
cut-rows true (l ∷ ls) = rw (long-asks (start true ++ l) (omega (arith, length-append (start true) l, start-long)))
cut-rows false (l ∷ ls) = ap (λ (x : List ℕ). numbers_of (row_for false (line_asks (x ++ l))) ++ rows_of false ls) (sym start-off)

-- a block without a line: there is none
pub takes_none : (cut : Bool) (from : ℕ) (ls : List (List ℕ)) {rows : List ℕ} {from' : ℕ} {cut' : Bool} → Takes 128 6144 cut from ls 0 rows from' cut' → ls ≡ []
unfolding line_count
takes_none cut from [] t = refl
takes_none cut from (l ∷ ls) t =
    let k : ℕ = (row_for cut (line_asks l)).kind in
    let some : 0 ≡ suc (line_count 127 (6144 - most_of k) false ls) = t.count≡ ∙ rw (le-leb (most_of k) 6144 (most-fits k)) in
    absurd (omega arith)

takes-some : (cut : Bool) (from : ℕ) (ls : List (List ℕ)) {n : ℕ} {rows : List ℕ} {from' : ℕ} {cut' : Bool} → Takes 128 6144 cut from ls n rows from' cut' → ls ≡ [] → n ≡ 0
unfolding line_count
takes-some cut from ls t e = t.count≡ ∙ ap (line_count 128 6144 cut) e

module _ (u : Unread) (input : List ℕ) (b : Block) (requests : List ℕ) (r : Reads u input b requests) where
  abbrev mine : List (List ℕ)
  mine = lines_in (between u.from u.to input)

  -- what is pending behind its lines
  pub block-left : pending b.unread input ≡ drop (span (take b.rows (lines_in (pending u input)))) (pending u input)
  block-left = pending-taken u input b.rows (takes-some u.cut u.from mine r.takes) b.unread r.takes.from≡ r.to≡ r.takes.cut≡

  block-rows : take (b.rows * 3) requests ≡ rows_of false (take b.rows (lines_in (pending u input)))
  block-rows =
      r.takes.rows≡
      ∙ (cut-rows u.cut (take b.rows mine)
      ∙ ap (rows_of false) (sym (ap (take b.rows) (pending-lines u input) ∙ take_behind b.rows (start u.cut) mine)))

  pub block-answers : (book : Book) → rows_answers (take (b.rows * 3) requests) book ≡ answers (take b.rows (lines_in (pending u input))) book
  block-answers book = ap (λ (x : List ℕ). rows_answers x book) block-rows ∙ lines_rows (take b.rows (lines_in (pending u input))) book

  pub block-leaves : (book : Book) → rows_leave (take (b.rows * 3) requests) book ≡ leaves (take b.rows (lines_in (pending u input))) book
  block-leaves book = ap (λ (x : List ℕ). rows_leave x book) block-rows ∙ lines-leave (take b.rows (lines_in (pending u input))) book

  -- no line was there
  module _ (z : b.rows ≡ 0) where
    pub block_same : pending b.unread input ≡ pending u input
    unfolding span
    block_same = block-left ∙ ap (λ (n : ℕ). drop (span (take n (lines_in (pending u input)))) (pending u input)) z

    pub block-lacks : lines_in (pending u input) ≡ []
    block-lacks =
        let none' : mine ≡ [] = takes_none u.cut u.from mine (subst (λ (n : ℕ). Takes 128 6144 u.cut u.from mine n (take (b.rows * 3) requests) b.unread.from b.unread.cut) z r.takes) in
        pending-lines u input ∙ ap (behind (start u.cut)) none'

    pub block_none : lines_in (pending b.unread input) ≡ []
    block_none = ap lines_in block_same ∙ block-lacks

  -- the last line keeps its newline
  pub block-whole : Whole (pending u input) u.ended → Whole (pending b.unread input) b.unread.ended
  block-whole h e = ap closed block-left ∙ (whole-taken u input b.rows h (sym r.ended≡ ∙ e) ∙ sym block-left)

-- ---- a turn

module _ (s : State) (t : Tables) (input out : List ℕ) (last : Whole (pending s.unread input) s.unread.ended) (b : Block) (requests : List ℕ)
    (r : Reads s.unread input b requests) where
  module _ (e : State) (t' : Tables) (now out' : List ℕ) where
    -- that waits
    pub waits-goes : b.rows ≡ 0 → (w : State) → w.unread ≡ b.unread → e.head ≡ s.head → t' ≡ t → Awaits w input e now
        → Goes (desk s t input out) (desk e t' now out') e.going
    unfolding leaves answers span
    waits-goes z w wu h ts a = goes a
      where
        same : pending w.unread input ≡ pending s.unread input
        same = ap (λ (x : Unread). pending x input) wu ∙ block_same s.unread input b requests r z

        ended : w.unread.ended ≡ s.unread.ended
        ended = ap (λ (x : Unread). x.ended) wu ∙ r.ended≡

        none : lines_in (pending s.unread input) ≡ []
        none = block-lacks s.unread input b requests r z

        nothing_left : w.unread.ended ≡ true → pending s.unread input ≡ []
        nothing_left f = none_left (pending s.unread input) none (last (sym ended ∙ f))

        finished : (a : Awaits w input e now) → w.unread.ended ≡ true → Follows w.unread.ended (pending w.unread input) a.came e.unread.ended (pending e.unread now)
            → Finished (desk e t' now out')
        finished a f (stays c en af) =
            record { held = ap (λ (n : ℕ). take n out') a.sent; input = af ∙ (same ∙ nothing_left f); ended = en ∙ f }
        finished a f (reads n x c af) = absurd (true≢false (sym f ∙ n))

        goes : Awaits w input e now → Goes (desk s t input out) (desk e t' now out') e.going
        goes a =
            record {
              turned = record {
                lines = 0;
                came = a.came;
                gone = take s.filled out;
                book≡ = ap₂ (λ (x : Head) (y : Tables). book_in x y) h ts;
                text = ap (λ (n : ℕ). take s.filled out ++ take n out') a.sent;
                rest = subst (λ (x : Bool). Follows x (pending s.unread input) a.came e.unread.ended (pending e.unread now)) ended
                    (subst (λ (x : List ℕ). Follows w.unread.ended x a.came e.unread.ended (pending e.unread now)) same a.rest);
                takes = λ _. none;
              };
              stops = λ f. finished a (a.stops f) a.rest;
            }

    -- that answers
    pub answers-goes : e.unread ≡ b.unread → now ≡ input → e.going ≡ true
        → Answers (take (b.rows * 3) requests) (book_in s.head t) (take s.filled out) (book_in e.head t') (take e.filled out')
        → Goes (desk s t input out) (desk e t' now out') e.going
    answers-goes eu i g a =
        record {
          turned = record {
            lines = b.rows;
            came = [];
            gone = a.gone;
            book≡ = a.book≡ ∙ block-leaves s.unread input b requests r (book_in s.head t);
            text = a.text ∙ ap (λ (x : List ℕ). take s.filled out ++ x) (block-answers s.unread input b requests r (book_in s.head t));
            rest = stays refl (ap (λ (x : Unread). x.ended) eu ∙ r.ended≡)
                (ap₂ (λ (x : Unread) (y : List ℕ). pending x y) eu i ∙ block-left s.unread input b requests r);
            takes = block-lacks s.unread input b requests r;
          };
          stops = λ h. absurd (true≢false (sym g ∙ h));
        }

-- ---- all turns

-- the buffer holds nothing at the start
pub ran-none : (s : State) (t : Tables) (input out : List ℕ) → s.filled ≡ 0 → s.going ≡ true → Ran (desk s t input []) (desk s t input out) s.going
ran-none s t input out e g =
    record {
      came = [];
      gone = [];
      run = subst (λ (x : Desk). Run (desk s t input []) [] [] x) same rests;
      stops = λ h. absurd (true≢false (sym g ∙ h));
    }
  where
    same : desk s t input [] ≡ desk s t input out
    same = rw e

-- one turn more
pub ran-more : (d e f : Desk) (before after : Bool) → Ran d e before → Goes e f after → Ran d f after
ran-more d e f before after r t =
    record { came = r.came ++ t.turned.came; gone = r.gone ++ t.turned.gone; run = run-then r.run t.turned; stops = t.stops }

-- whatever the buffer holds
pub ran-runs : (d : Desk) (s : State) (t : Tables) (input out : List ℕ) → Ran d (desk s t input out) s.going → Runs d s t input
ran-runs d s t input out r = record { out = out; ran = r; prints = λ g first b. program-by-turns b r.run (r.stops g) }

-- ---- the first line

-- what `take_mode` takes where the first line names a mode
record Named (u : Unread) (input : List ℕ) (m : Mode) (v : Unread) : Type 0 where
  line : List ℕ
  others : List (List ℕ)
  lines : lines_in (pending u input) ≡ line ∷ others
  names : first_line line ≡ Some m
  left : pending v input ≡ drop (span (take 1 (lines_in (pending u input)))) (pending u input)
  ended : v.ended ≡ u.ended

named : (u : Unread) (input : List ℕ) (r : Taken) → Some r ≡ mode_taken u u.cut (lines_in (between u.from u.to input)) → Named u input r.mode r.unread
unfolding span
named u input r e = go u.cut refl (lines_in (between u.from u.to input)) refl e
  where
    go : (z : Bool) → u.cut ≡ z → (ls : List (List ℕ)) → lines_in (between u.from u.to input) ≡ ls → Some r ≡ mode_taken u z ls → Named u input r.mode r.unread
    go true c ls p e = absurd (some≢none e)
    go false c [] p e = absurd (some≢none e)
    go false c (l ∷ ls) p e = which (first_line l) refl e
      where
        no_lines : l ∷ ls ≡ [] → ⊥
        no_lines p = let z : ◌≡◌ {A = ℕ} 0 1 = cc in omega arith

        which : (o : Option Mode) → first_line l ≡ o → Some r ≡ taking u (u.from + length l + 1) o → Named u input r.mode r.unread
        which None q e = absurd (some≢none e)
        which (Some m) q e =
            let v : Unread = record { from = u.from + length l + 1; to = u.to; cut = false; ended = u.ended } in
            let is : r ≡ record { mode = m; unread = v } = cc in
            let far : v.from ≡ u.from + span (take 1 (lines_in (between u.from u.to input))) =
            omega arith ∙ ap (λ (x : List (List ℕ)). u.from + span (take 1 x)) (sym p) in
            let some : lines_in (between u.from u.to input) ≡ [] → ◌≡◌ {A = ℕ} 1 0 = λ n. absurd (no_lines (sym p ∙ n)) in
            rw is
            (record {
              line = l;
              others = ls;
              lines = pending-lines u input ∙ (ap₂ (λ (x : Bool) (y : List (List ℕ)). behind (start x) y) c p ∙ ap (λ (x : List ℕ). (x ++ l) ∷ ls) start-off);
              names = q;
              left = pending-taken u input 1 some v far refl refl;
              ended = refl;
            })

module _ (u : Unread) (input : List ℕ) (o : ReadSoFar u input) (r : Taken) (e : Some r ≡ mode_taken u u.cut (lines_in (between u.from u.to input))) where
  pub mode-whole : Whole (pending r.unread input) r.unread.ended
  mode-whole h =
      let n : Named u input r.mode r.unread = named u input r e in
      ap closed n.left ∙ (whole-taken u input 1 o.last (sym n.ended ∙ h) ∙ sym n.left)

  -- the turns begin with the empty book of that mode
  pub mode-begins : (s : State) (t : Tables) (out : List ℕ) → s.head ≡ head_of (empty_book r.mode.0) → s.unread ≡ r.unread → s.filled ≡ 0
      → Begins o.came (desk s t input out)
  unfolding still answered started fresh book_of
  mode-begins s t out hd un fi = record { same = begins }
    where
      n : Named u input r.mode r.unread
      n = named u input r e

      book : book_in s.head t ≡ empty_book r.mode.0
      book = ap (λ (x : Head). book_in x t) hd ∙ fresh-book r.mode.0 t

      begins : (more : List ℕ) → Comes s.unread.ended more → program (o.came ++ more) ≡ still (desk s t input out) more
      begins more c =
          let ended : s.unread.ended ≡ u.ended = ap (λ (x : Unread). x.ended) un ∙ n.ended in
          let left : List ℕ = drop (span (take 1 (lines_in (pending u input)))) (pending u input) in
          let rest : List (List ℕ) = lines_in (closed (left ++ more)) in
          let here : left ≡ pending s.unread input = sym n.left ∙ ap (λ (x : Unread). pending x input) (sym un) in
          o.same more (λ h. c (ended ∙ h))
          ∙ (ap answered (closed-taken 1 (pending u input) more)
          ∙ (ap (λ (x : List (List ℕ)). answered (take 1 x ++ rest)) n.lines
          ∙ (ap (λ (x : Option Mode). started x rest) n.names
          ∙ (ap₂ (λ (x : List ℕ) (y : Book). answers (lines_in (closed (x ++ more))) y) here (sym book)
          ∙ ap (λ (k : ℕ). take k out ++ answers (lines_in (closed (pending s.unread input ++ more))) (book_in s.head t)) (sym fi)))))

  -- from there the turns print what the program prints for all that came
  pub prints-program : (s : State) (t : Tables) → s.head ≡ head_of (empty_book r.mode.0) → s.unread ≡ r.unread → s.filled ≡ 0 → {last : State} {t' : Tables} {now : List ℕ}
      → (n : Runs (desk s t input []) last t' now) → last.going ≡ false → n.ran.gone ≡ program (o.came ++ n.ran.came)
  prints-program s t hd un fi n g = n.prints g o.came (mode-begins s t [] hd un fi)

-- a first line that names no mode: `no 14`, whatever follows
module _ (u : Unread) (input : List ℕ) (k : FirstRead u input) (e : None ≡ mode_taken u u.cut (lines_in (between u.from u.to input))) where
  abbrev o : ReadSoFar u input
  o = k.so_far

  pub prints-refusal : (more : List ℕ) → Comes u.ended more → program (o.came ++ more) ≡ no14
  unfolding pending answered started lacks_line no_line lines_in closed
  prints-refusal more c = o.same more c ∙ go u.cut refl (lines_in mine) refl e
    where
      mine : List ℕ
      mine = between u.from u.to input

      lines : {z : Bool} {ls : List (List ℕ)} → u.cut ≡ z → lines_in mine ≡ ls → lines_in (pending u input) ≡ behind (start z) ls
      lines c' p = pending-lines u input ∙ ap₂ (λ (x : Bool) (y : List (List ℕ)). behind (start x) y) c' p

      over : (z : Bool) → u.ended ≡ z → lines_in (pending u input) ≡ [] → u.ended ≡ true
      over true x y = x
      over false x y = absurd (true≢false (sym (ap₂ (λ (b : Bool) (ls : List (List ℕ)). not b && no_line ls) x y) ∙ k.found))

      unnamed : (from : ℕ) (o : Option Mode) → None ≡ taking u from o → o ≡ None
      unnamed from None q = refl
      unnamed from (Some m) q = absurd (some≢none (sym q))

      go : (z : Bool) → u.cut ≡ z → (ls : List (List ℕ)) → lines_in mine ≡ ls → None ≡ mode_taken u z ls
          → answered (lines_in (closed (pending u input ++ more))) ≡ no14
      go true c' ls p q =
          ap (λ (z : Bool). answered (lines_in (closed ((start z ++ mine) ++ more)))) c'
          ∙ (ap (λ (x : List ℕ). answered (lines_in (closed x))) (append_assoc (start true) mine more)
          ∙ long-first (start true) (mine ++ more) (omega (arith, start-long)) (start_none true))
      go false c' [] p q =
          let ended : u.ended ≡ true = over u.ended refl (lines c' p) in
          let nothing : pending u input ≡ [] = none_left (pending u input) (lines c' p) (o.last ended) in
          ap₂ (λ (x y : List ℕ). answered (lines_in (closed (x ++ y)))) nothing (c ended)
      go false c' (l ∷ ls) p q =
          let rest : List (List ℕ) = lines_in (closed (drop (span (take 1 (lines_in (pending u input)))) (pending u input) ++ more)) in
          ap answered (closed-taken 1 (pending u input) more)
          ∙ (ap (λ (x : List (List ℕ)). answered (take 1 x ++ rest)) (lines c' p ∙ ap (λ (x : List ℕ). (x ++ l) ∷ ls) start-off)
          ∙ ap (λ (x : Option Mode). started x rest) (unnamed (u.from + length l + 1) (first_line l) q))
