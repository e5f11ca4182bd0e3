-- RULES 7.3 in C (8.9): a call whose result is not 0 leaves all that it was lent as it was, its cells too, but for a place, which is told.
-- Assumes nothing.
use Rattle.std.specs.Prelude.{Result, Ok, Err}
use Prim.Native.Nat.{ℕ, zero, suc}
use mathlib.Core.Path.{◌≡◌, refl, sym, ap, ◌∙◌}
use mathlib.Core.Bool.{Bool, true, false, cond}
use mathlib.Core.List.{List}
use lib.Dec.{ltb}
use lib.ListN.{length}
use Rattle.sets.specs.Words.{bytes}
use Rattle.rules.specs.Bytes.{Tables}
use Rattle.rules.specs.Refusals.{Request}
use Rattle.rules.specs.Calls.{Change, change, view_call, Shown, open_call, section_call, Load, read_call, Write, write_call, Service, serve_call}
use Rattle.theorems.proofs.RefusedLaws.{change-refused, serve-refused, read-refused, open-refused, write-refused}
use Rattle.rules.specs.declared.Applied.{Applied}
use Rattle.rules.specs.declared.Chains.{Chains}
use Rattle.rules.specs.declared.Denial.{Denial}
use Rattle.rules.specs.declared.Head.{Head}
use Rattle.rules.specs.declared.Refusal.{Refusal}
use Rattle.rules.specs.declared.Served.{Served}
use Rattle.rules.specs.declared.View.{View}
use Rattle.host.specs.Answers.{head_length, head_from, answered, stretch_by, section_answer, Loads, loaded_as, read_by, read_answer, Writes, written_as, write_by, write_answer, Changes, changed_as, change_told, change_by, change_answer, insert_of, insert_answer, Views, viewed_as, view_as, view_answer, Opens, opened_as, open_by, open_answer, Serves, served_as, serve_told, serve_by, serve_answer}

-- answers X with their result; `lent k` is what was lent, with the result k
module _ {X : Type 0} (result : X → ℕ) (lent : ℕ → X) where
  abbrev Left : X → Type 0
  Left x = (result x ≡ 0 → ⊥) → x ≡ lent (result x)

  -- a short head or a short list, or the call itself
  left-short : ((k : ℕ) → result (lent k) ≡ k) → (z : Bool) (x : X) → Left x → Left (cond z (lent 13) x)
  left-short back true x f ne = sym (ap lent (back 13))
  left-short back false x f ne = f ne

-- an answer by what a call below left, with all K that it tells
left-by : {X K C : Type 0} (told : X → K) (lent : K → X) (by : C → X) {c d : C} → c ≡ d → by d ≡ lent (told (by d)) → by c ≡ lent (told (by c))
left-by told lent by p e = ap by p ∙ e ∙ sym (ap (λ x. lent (told (by x))) p)

pub c-change-refused : (q : Request) (l : List ℕ) (t : Tables) (list : List ℕ) (n : ℕ)
    → let a = change_answer q l t list n in (a.told.result ≡ 0 → ⊥) → a ≡ changed_as a.told.result l t list n
unfolding change_answer change_by change_told
c-change-refused q l t list n =
    left-short (λ (x : Changes). x.told.result) (λ k. changed_as k l t list n) (λ k. refl) (ltb (length l) head_length) (change_by c l n) (go c.answer refl)
  where
    c : Change
    c = change q (head_from l) t list

    go : (a : Result Applied Refusal) → c.answer ≡ a → ((change_told c.answer l n).result ≡ 0 → ⊥) → change_by c l n ≡ changed_as (change_told c.answer l n).result l t list n
    go (Ok x) e ne = absurd (ne (ap (λ (a : Result Applied Refusal). (change_told a l n).result) e))
    go (Err r) e ne =
        left-by (λ (x : Changes). x.told.result) (λ k. changed_as k l t list n) (λ (x : Change). change_by x l n) (change-refused q (head_from l) t list r e) refl

pub c-insert-refused : (bs l : List ℕ) (t : Tables) (list : List ℕ) (n : ℕ)
    → let a = insert_answer bs l t list n in (a.told.result ≡ 0 → ⊥) → a ≡ changed_as a.told.result l t list n
unfolding insert_answer
c-insert-refused bs l t list n =
    left-short (λ (x : Changes). x.told.result) (λ k. changed_as k l t list n) (λ k. refl) (ltb (length bs) bytes) (change_answer (insert_of bs) l t list n)
    (c-change-refused (insert_of bs) l t list n)

pub c-serve-refused : (requests l : List ℕ) (t : Tables) (answers list : List ℕ) (n : ℕ)
    → let a = serve_answer requests l t answers list n in (a.told.result ≡ 0 → ⊥) → a ≡ served_as a.told.result l t answers list n
unfolding serve_answer serve_by serve_told
c-serve-refused requests l t answers list n =
    left-short (λ (x : Serves). x.told.result) (λ k. served_as k l t answers list n) (λ k. refl) (ltb (length l) head_length) (serve_by c l n) (go c.answer refl)
  where
    c : Service
    c = serve_call requests (head_from l) t answers list

    go : (a : Result Served Refusal) → c.answer ≡ a → ((serve_told c.answer l n).result ≡ 0 → ⊥) → serve_by c l n ≡ served_as (serve_told c.answer l n).result l t answers list n
    go (Ok x) e ne = absurd (ne (ap (λ (a : Result Served Refusal). (serve_told a l n).result) e))
    go (Err r) e ne =
        left-by (λ (x : Serves). x.told.result) (λ k. served_as k l t answers list n) (λ (x : Service). serve_by x l n)
        (serve-refused requests (head_from l) t answers list r e) refl

pub c-read-refused : (bs l : List ℕ) (t : Tables) → let a = read_answer bs l t in (a.result ≡ 0 → ⊥) → a ≡ loaded_as a.result l t a.place
unfolding read_answer read_by
c-read-refused bs l t = short (ltb (length l) head_length)
  where
    c : Load
    c = read_call bs t

    go : (a : Result Head Denial) → c.answer ≡ a → ((read_by c.answer l c.tables).result ≡ 0 → ⊥)
        → read_by c.answer l c.tables ≡ loaded_as (read_by c.answer l c.tables).result l t (read_by c.answer l c.tables).place
    go (Ok h) e ne = absurd (ne (ap (λ (a : Result Head Denial). (read_by a l c.tables).result) e))
    go (Err d) e ne =
        left-by {K = ℕ × ℕ} (λ (x : Loads). (x.result, x.place)) (λ k. loaded_as k.0 l t k.1) (λ (x : Load). read_by x.answer l x.tables) (read-refused bs t d e) refl

    short : (z : Bool)
        → let a = cond z (loaded_as 13 l t 0) (read_by c.answer l c.tables) in (a.result ≡ 0 → ⊥) → a ≡ loaded_as a.result l t a.place
    short true ne = refl
    short false ne = go c.answer refl ne

pub c-write-refused : (l : List ℕ) (t : Tables) (buffer : List ℕ) (n : ℕ)
    → let a = write_answer l t buffer n in (a.result ≡ 0 → ⊥) → a ≡ written_as a.result buffer n
unfolding write_answer write_by
c-write-refused l t buffer n =
    left-short (λ (x : Writes). x.result) (λ k. written_as k buffer n) (λ k. refl) (ltb (length l) head_length) (write_by c.answer c.buffer n) (go c.answer refl)
  where
    c : Write
    c = write_call (head_from l) t buffer

    go : (a : Result ℕ Refusal) → c.answer ≡ a → ((write_by c.answer c.buffer n).result ≡ 0 → ⊥)
        → write_by c.answer c.buffer n ≡ written_as (write_by c.answer c.buffer n).result buffer n
    go (Ok k) e ne = absurd (ne (ap (λ (a : Result ℕ Refusal). (write_by a c.buffer n).result) e))
    go (Err r) e ne =
        left-by (λ (x : Writes). x.result) (λ k. written_as k buffer n) (λ (x : Write). write_by x.answer x.buffer n) (write-refused (head_from l) t buffer r e) refl

pub c-view-refused : (u r : ℕ) (l : List ℕ) (t : Tables) (n : ℕ) → let a = view_answer u r l t n in (a.result ≡ 0 → ⊥) → a ≡ viewed_as a.result n
unfolding view_answer view_as
c-view-refused u r l t n =
    left-short (λ (x : Views). x.result) (λ k. viewed_as k n) (λ k. refl) (ltb (length l) head_length) (view_as (view_call u r (head_from l) t) n) (go (view_call u r (head_from l) t))
  where
    go : (a : Result View Refusal) → ((view_as a n).result ≡ 0 → ⊥) → view_as a n ≡ viewed_as (view_as a n).result n
    go (Ok v) ne = absurd (ne refl)
    go (Err k) ne = refl

pub c-open-refused : (u r : ℕ) (l : List ℕ) (t : Tables) (list : List ℕ) (i o : ℕ)
    → let a = open_answer u r l t list i o in (a.result ≡ 0 → ⊥) → a ≡ opened_as a.result list i o
unfolding open_answer open_by
c-open-refused u r l t list i o =
    left-short (λ (x : Opens). x.result) (λ k. opened_as k list i o) (λ k. refl) (ltb (length l) head_length) (open_by c.answer c.list i o) (go c.answer refl)
  where
    c : Shown
    c = open_call u r (head_from l) t list

    go : (a : Result Chains Refusal) → c.answer ≡ a → ((open_by c.answer c.list i o).result ≡ 0 → ⊥)
        → open_by c.answer c.list i o ≡ opened_as (open_by c.answer c.list i o).result list i o
    go (Ok x) e ne = absurd (ne (ap (λ (a : Result Chains Refusal). (open_by a c.list i o).result) e))
    go (Err k) e ne =
        left-by (λ (x : Opens). x.result) (λ k. opened_as k list i o) (λ (x : Shown). open_by x.answer x.list i o) (open-refused u r (head_from l) t list k e) refl

pub c-section-refused : (bs : List ℕ) (k s n : ℕ) → let a = section_answer bs k s n in (a.result ≡ 0 → ⊥) → a ≡ answered a.result s n a.place
unfolding section_answer stretch_by
c-section-refused bs k s n = go (section_call bs k).cell
  where
    at : ℕ
    at = (section_call bs k).place

    go : (c : ℕ) → ((stretch_by bs k s n at c).result ≡ 0 → ⊥) → stretch_by bs k s n at c ≡ answered (stretch_by bs k s n at c).result s n (stretch_by bs k s n at c).place
    go zero ne = absurd (ne refl)
    go (suc c) ne = refl
