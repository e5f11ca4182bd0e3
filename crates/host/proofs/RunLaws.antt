-- The C calls in a run: each is one call of Rattle.rules.specs.Runs on the head in the numbers, so demand 3 holds of what a C host keeps.
-- Assumes nothing.
use Prim.Native.Nat.{ℕ, ◌≤◌, ◌<◌}
use mathlib.Core.Path.{◌≡◌, refl, ap, ◌∙◌}
use mathlib.Core.Bool.{Bool, true, false, cond}
use mathlib.Core.List.{List, [], ◌∷◌}
use mathlib.Core.Option.{Option, some, none}
use native.Mathlib.Omega.{arith}
use lib.Dec.{ltb}
use lib.ListN.{length, drop, length-drop}
use borrow.Author.Tests.{lt-ltb, le-ltb}
use Rattle.rows.specs.Number.{stored}
use Rattle.sets.specs.Words.{bytes}
use Rattle.rules.specs.Sound.{sound}
use Rattle.rules.specs.Bytes.{Tables, head_of, book_in, laid, head_in, read}
use Rattle.rules.specs.Requests.{Done}
use Rattle.rules.specs.Refusals.{Request, joins, grants, revokes, leaves, work, refusal, refusal_read}
use Rattle.rules.specs.Calls.{rows_lent, change, load_by, read_call, asked_in, All, all, refusal_serve, serve_call}
use Rattle.rules.specs.Calls as calls
use Rattle.rules.specs.Runs.{Kept, keep, book_of, to-change, to-serve, to_read, head_changed, head_served, head_loaded, after, run}
use Rattle.rules.specs.declared.Head.{Head}
use Rattle.rules.specs.declared.Refusal.{Refusal}
use Rattle.rules.specs.declared.Denial.{Denial}
use Rattle.theorems.proofs.ByteLaws.{sound-fits, sound-book-laid}
use Rattle.theorems.proofs.RequestLaws.{work-sound}
use Rattle.theorems.proofs.CallLaws.{all-leads, read_none, read-book}
use Rattle.theorems.proofs.ServeLaws.{serve-ready, run-append}
use Rattle.theorems.proofs.Demand.{Demand, demand-3}
use Rattle.host.specs.Answers.{set_numbers, head_length, head_from, head_numbers, read_by, read_answer, change_told, change_by, changed_as, change_answer, insert_of, insert_answer, serve_told, serve_by, serve_answer}
use Rattle.host.specs.CRuns.{Held, hold, kept_in, book_held, CCall, c-check, c-section, c_read, c-write, c-join, c-insert, c-grant, c-revoke, c_leave, c-view, c-open, c-serve, left_by_change, left_by_read, left_by_serve, after_c, run_c, called, called_all}
use Rattle.host.proofs.HeadLaws.{head-back}

-- ---- what is left of a head's numbers

-- from s, e holds k: the head in its numbers and the tables; there are as many numbers, and those past the head's are as they were
pub record Leaves (s : Held) (k : Kept) (e : Held) : Type 0 where
  pub keeps : kept_in e ≡ k
  pub long : length e.numbers ≡ length s.numbers
  pub beyond : drop head_length e.numbers ≡ drop head_length s.numbers

leaves-head : (s : Held) (t : Tables) → Leaves s (keep (head_from s.numbers) t) (hold s.numbers t)
leaves-head s t = record { keeps = refl; long = refl; beyond = refl }

-- the head of a sound book can be read back
leaves-stored : (s : Held) (h : Head) (t : Tables) → head_length ≤ length s.numbers → sound (book_in h t) ≡ true
    → Leaves s (keep h t) (hold (stored 0 (head_numbers h) s.numbers) t)
unfolding book_in stored set_numbers
leaves-stored s h t n e =
    record {
      keeps = ap (λ (x : Head). keep x t) (head-back h s.numbers (sound-fits (book_in h t) e).leavers<);
      long = simp length-drop (omega arith);
      beyond = refl;
    }

leaves-then : {s m e : Held} {k j : Kept} → Leaves s k m → Leaves m j e → Leaves s j e
leaves-then p q = record { keeps = q.keeps; long = q.long ∙ p.long; beyond = q.beyond ∙ p.beyond }

-- ---- one call

-- a head of at least 11 numbers
module _ (s : Held) (n : head_length ≤ length s.numbers) where
  change-leaves : (q : Request) (list : List ℕ) (m : ℕ)
      → Leaves s (after (to-change q list) (kept_in s)) (left_by_change (change_answer q s.numbers s.tables list m))
  unfolding after change calls.change_by head_changed left_by_change change_answer change_by change_told
  change-leaves q list m = rw (le-ltb (length s.numbers) head_length n) (go (refusal s.tables (book_held s) (rows_lent list) q) refl)
    where
      d : Done
      d = work q (book_held s)

      go : (z : Option Refusal) → refusal s.tables (book_held s) (rows_lent list) q ≡ z
          → let c = calls.change_by z d s.tables list in
          Leaves s (keep (head_changed c.answer (head_from s.numbers)) c.tables) (hold (change_told c.answer s.numbers m).head c.tables)
      go (some r) e = leaves-head s s.tables
      go none e =
          let k = work-sound s.tables (book_held s) (rows_lent list) q e in
          leaves-stored s (head_of d.book) (laid d.book s.tables) n (ap sound (sound-book-laid d.book s.tables k) ∙ k)

  -- its list has too few bytes, or it is a change
  insert-leaves : (bs list : List ℕ) (m : ℕ)
      → Leaves s (run (called (c-insert list m bs)) (kept_in s)) (left_by_change (insert_answer bs s.numbers s.tables list m))
  unfolding run called left_by_change insert_answer
  insert-leaves bs list m = go (ltb (length bs) bytes)
    where
      go : (z : Bool)
          → let a = change_answer (insert_of bs) s.numbers s.tables list m in
          Leaves s (run (cond z [] (to-change (insert_of bs) list ∷ [])) (kept_in s)) (left_by_change (cond z (changed_as 13 s.numbers s.tables list m) a))
      go true = leaves-head s s.tables
      go false = change-leaves (insert_of bs) list m

  serve-leaves : (requests answers list : List ℕ) (m : ℕ)
      → Leaves s (after (to-serve requests answers list) (kept_in s)) (left_by_serve (serve_answer requests s.numbers s.tables answers list m))
  unfolding after serve_call calls.serve_by book_of head_served left_by_serve serve_answer serve_by serve_told
  serve-leaves requests answers list m =
      rw (le-ltb (length s.numbers) head_length n) (go (refusal_serve s.tables (book_held s) requests answers) refl)
    where
      h : Head
      h = head_from s.numbers

      a : All
      a = all (asked_in requests) h s.tables list

      go : (z : Option Refusal) → refusal_serve s.tables (book_held s) requests answers ≡ z
          → let c = calls.serve_by z a s.tables answers list in
          Leaves s (keep (head_served c.answer h) c.tables) (hold (serve_told c.answer s.numbers m).head c.tables)
      go (some r) e = leaves-head s s.tables
      go none e =
          leaves-stored s a.head a.tables n
          ((all-leads (asked_in requests) h s.tables list).sound' (serve-ready requests answers h s.tables e).sound')

  read-leaves : (bs : List ℕ) → Leaves s (after (to_read bs) (kept_in s)) (left_by_read (read_answer bs s.numbers s.tables))
  unfolding after read_call load_by head_loaded left_by_read read_answer read_by
  read-leaves bs = rw (le-ltb (length s.numbers) head_length n) (go (refusal_read s.tables bs) refl)
    where
      go : (z : Option Denial) → refusal_read s.tables bs ≡ z
          → let c = load_by z bs s.tables in
          Leaves s (keep (head_loaded c.answer (head_from s.numbers)) c.tables) (left_by_read (read_by c.answer s.numbers c.tables))
      go (some d) e = leaves-head s s.tables
      go none e =
          leaves-stored s (head_in bs) (laid (read bs) s.tables) n (ap sound (read-book s.tables bs e) ∙ (read_none s.tables bs e).1)

  -- each C call is the call of Runs that it is said to be
  pub c_call : (c : CCall) → Leaves s (run (called c) (kept_in s)) (after_c c s)
  unfolding run called after_c after
  c_call (c-join list m) = change-leaves joins list m
  c_call (c-insert list m bs) = insert-leaves bs list m
  c_call (c-grant list m r u) = change-leaves (grants r u) list m
  c_call (c-revoke list m r u) = change-leaves (revokes r u) list m
  c_call (c_leave list m u) = change-leaves (leaves u) list m
  c_call (c-serve requests answers list m) = serve-leaves requests answers list m
  c_call (c_read bs at) = read-leaves bs
  c_call c-check = leaves-head s s.tables
  c_call (c-section bs k a m at) = leaves-head s s.tables
  c_call (c-write buffer m) = leaves-head s s.tables
  c_call (c-view u r m) = leaves-head s s.tables
  c_call (c-open u r list i o) = leaves-head s s.tables

-- a shorter head: nothing changes
pub c-short : (c : CCall) (s : Held) → length s.numbers < head_length → after_c c s ≡ s
unfolding after_c left_by_change left_by_serve left_by_read change_answer insert_answer serve_answer read_answer
c-short (c-join list m) s n = rw (lt-ltb (length s.numbers) head_length n)
c-short (c-insert list m bs) s n = rw (lt-ltb (length s.numbers) head_length n) (go (ltb (length bs) bytes))
  where
    go : (z : Bool) → left_by_change (cond z (changed_as 13 s.numbers s.tables list m) (changed_as 13 s.numbers s.tables list m)) ≡ s
    go true = refl
    go false = refl
c-short (c-grant list m r u) s n = rw (lt-ltb (length s.numbers) head_length n)
c-short (c-revoke list m r u) s n = rw (lt-ltb (length s.numbers) head_length n)
c-short (c_leave list m u) s n = rw (lt-ltb (length s.numbers) head_length n)
c-short (c-serve requests answers list m) s n = rw (lt-ltb (length s.numbers) head_length n)
c-short (c_read bs at) s n = rw (lt-ltb (length s.numbers) head_length n)
c-short c-check s n = refl
c-short (c-section bs k a m at) s n = refl
c-short (c-write buffer m) s n = refl
c-short (c-view u r m) s n = refl
c-short (c-open u r list i o) s n = refl

-- ---- calls one after the other

-- a run of C calls is a run of the calls that they are
pub c-run : (cs : List CCall) (s : Held) → head_length ≤ length s.numbers → Leaves s (run (called_all cs) (kept_in s)) (run_c cs s)
unfolding run called_all run_c
c-run [] s n = leaves-head s s.tables
c-run (c ∷ cs) s n =
    let one = c_call s n c in
    let rest = c-run cs (after_c c s) (omega (arith, n, one.long)) in
    rw (run-append (called c) (called_all cs) (kept_in s), ← one.keeps) (leaves-then one rest)

-- demand 3 of a C host: from a head of at least 11 numbers and tables that hold a sound book, after any list of C calls, refused ones among them
pub c-demand-3 : (cs : List CCall) (s : Held) → head_length ≤ length s.numbers → sound (book_held s) ≡ true → Demand (book_held (run_c cs s))
unfolding book_of
c-demand-3 cs s n h = rw (ap book_of (c-run cs s n).keeps) (demand-3 (called_all cs) (kept_in s) h)
