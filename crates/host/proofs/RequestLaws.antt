-- What the requests of the C interface answer, from what the calls below them answer: each law is one way out of a call.
-- Assumes nothing.
use Rattle.std.specs.Prelude.{Result, Ok, Err}
use Prim.Native.Nat.{ℕ, ◌+◌, ◌*◌, ◌≤◌, ◌<◌}
use mathlib.Core.Path.{◌≡◌, sym, ap, ap₂, ◌∙◌}
use mathlib.Core.List.{List}
use native.Mathlib.Omega.{arith}
use lib.ListN.{length}
use borrow.Author.Tests.{lt-ltb, le-ltb}
use Rattle.rows.specs.Number.{cell, stored}
use Rattle.sets.specs.Words.{bytes}
use Rattle.rules.specs.Bytes.{Tables}
use Rattle.rules.specs.Refusals.{number, view_number, view_told, Request, inserts}
use Rattle.rules.specs.Calls.{Change, changing, change, view_call, Shown, showing, open_call, Service, serving, serve_call}
use Rattle.rules.specs.declared.Head.{Head}
use Rattle.rules.specs.declared.View.{View}
use Rattle.rules.specs.declared.View.TheVariants.{Open, SelLocked, BelLocked, Locked}
use Rattle.rules.specs.declared.Refusal.{Refusal}
use Rattle.rules.specs.declared.Refusal.TheVariants.{ShortTable, Unsound, NoSuch, HasLeft, EmptyList, UsersFull, ResourcesFull, Listed, NotListed, GroupsFull, InnerTokensFull, OuterTokensFull, Closed, ShortList}
use Rattle.rules.specs.declared.Applied.{Applied}
use Rattle.rules.specs.declared.Chains.{Chains}
use Rattle.rules.specs.declared.Served.{Served}
use Rattle.host.specs.Answers.{head_length, head_from, head_numbers, result_of, Told, told_as, change_told, Changes, changed_as, change_by, change_answer, insert_answer, viewed_as, view_as, view_answer, opened_as, open_by, open_answer, serve_told, served_as, serve_by, serve_answer}

-- ---- a refusal's number

view-few : (v : View) → view_number v ≤ 3
view-few Open = omega arith
view-few SelLocked = omega arith
view-few BelLocked = omega arith
view-few Locked = omega arith

-- they are small
pub result-few : (n : Refusal) → (number n ≤ 15) × (view_told n ≤ 3)
result-few ShortTable = (omega arith, omega arith)
result-few Unsound = (omega arith, omega arith)
result-few NoSuch = (omega arith, omega arith)
result-few HasLeft = (omega arith, omega arith)
result-few EmptyList = (omega arith, omega arith)
result-few UsersFull = (omega arith, omega arith)
result-few ResourcesFull = (omega arith, omega arith)
result-few Listed = (omega arith, omega arith)
result-few NotListed = (omega arith, omega arith)
result-few GroupsFull = (omega arith, omega arith)
result-few InnerTokensFull = (omega arith, omega arith)
result-few OuterTokensFull = (omega arith, omega arith)
result-few (Closed v) = (omega arith, view-few v)
result-few ShortList = (omega arith, omega arith)

pub result_by : (n : Refusal) {k v : ℕ} → k ≡ number n → v ≡ view_told n → k + 256 * v ≡ result_of n
unfolding result_of
result_by n ek ev = ap₂ (λ (x y : ℕ). x + 256 * y) ek ev

-- ---- the requests that change the book

pub told-refused : {c : Result Applied Refusal} (l : List ℕ) (k : ℕ) {n : Refusal} {r : ℕ} → c ≡ Err n → r ≡ result_of n → told_as r l k ≡ change_told c l k
unfolding change_told
told-refused l k is er = ap (λ (x : ℕ). told_as x l k) er ∙ sym (ap (λ (x : Result Applied Refusal). change_told x l k) is)

pub told-done : {c : Result Applied Refusal} (l : List ℕ) (k : ℕ) {a : Applied} {m : List ℕ} → c ≡ Ok a → m ≡ stored 0 (head_numbers a.head) l
    → told_as 0 m a.count ≡ change_told c l k
unfolding change_told
told-done l k {a = a} is em = ap (λ (x : List ℕ). told_as 0 x a.count) em ∙ sym (ap (λ (x : Result Applied Refusal). change_told x l k) is)

pub change-short : (q : Request) (l : List ℕ) (t : Tables) (list : List ℕ) (k : ℕ) → length l < head_length → changed_as 13 l t list k ≡ change_answer q l t list k
unfolding change_answer
change-short q l t list k n = rw (lt-ltb (length l) head_length n)

pub change-told : (q : Request) (l : List ℕ) (t : Tables) (list : List ℕ) (k : ℕ) {h : Head} {c : Result Applied Refusal} {u : Tables} {rows : List ℕ} {r : ℕ} {m : List ℕ} {e : ℕ}
    → head_length ≤ length l → h ≡ head_from l → changing c u rows ≡ change q h t list → told_as r m e ≡ change_told c l k
    → changed_as r m u rows e ≡ change_answer q l t list k
unfolding change_answer change_by
change-told q l t list k {u = u} {rows = rows} n eh p e =
    rw (le-ltb (length l) head_length n)
    (ap (λ (x : Told). changed_as x.result x.head u rows x.count) e
    ∙ ap (λ (x : Change). change_by x l k) (p ∙ ap (λ (x : Head). change q x t list) eh))

pub insert-short : (bs l : List ℕ) (t : Tables) (list : List ℕ) (k : ℕ) → length bs < bytes → changed_as 13 l t list k ≡ insert_answer bs l t list k
unfolding insert_answer
insert-short bs l t list k n = rw (lt-ltb (length bs) bytes n)

-- an insert of the set m in the bytes
pub insert-told : (bs l : List ℕ) (t : Tables) (list : List ℕ) (k : ℕ) {a : Changes} {m : ℕ} → bytes ≤ length bs → m ≡ cell bytes 0 bs
    → a ≡ change_answer (inserts m) l t list k → a ≡ insert_answer bs l t list k
unfolding insert_answer
insert-told bs l t list k n em e = rw (le-ltb (length bs) bytes n) (e ∙ ap (λ (x : ℕ). change_answer (inserts x) l t list k) em)

-- ---- view

view-by : (u r : ℕ) (l : List ℕ) (t : Tables) (m : ℕ) {h : Head} {w : Result View Refusal} → head_length ≤ length l → h ≡ head_from l → w ≡ view_call u r h t
    → view_as w m ≡ view_answer u r l t m
unfolding view_answer
view-by u r l t m n eh p = rw (le-ltb (length l) head_length n) (ap (λ (x : Result View Refusal). view_as x m) (p ∙ ap (λ (x : Head). view_call u r x t) eh))

pub view-short : (u r : ℕ) (l : List ℕ) (t : Tables) (m : ℕ) → length l < head_length → viewed_as 13 m ≡ view_answer u r l t m
unfolding view_answer
view-short u r l t m n = rw (lt-ltb (length l) head_length n)

pub view-refused : (u r : ℕ) (l : List ℕ) (t : Tables) (m : ℕ) {h : Head} {w : Result View Refusal} {n : Refusal} {k : ℕ} → head_length ≤ length l → h ≡ head_from l
    → w ≡ view_call u r h t → w ≡ Err n → k ≡ result_of n → viewed_as k m ≡ view_answer u r l t m
unfolding view_as
view-refused u r l t m n eh p is ek =
    ap (λ (x : ℕ). viewed_as x m) ek ∙ sym (ap (λ (x : Result View Refusal). view_as x m) is) ∙ view-by u r l t m n eh p

pub view-given : (u r : ℕ) (l : List ℕ) (t : Tables) (m : ℕ) {h : Head} {w : Result View Refusal} {v : View} {k : ℕ} → head_length ≤ length l → h ≡ head_from l
    → w ≡ view_call u r h t → w ≡ Ok v → k ≡ view_number v → viewed_as 0 k ≡ view_answer u r l t m
unfolding view_as
view-given u r l t m n eh p is ek = ap (viewed_as 0) ek ∙ sym (ap (λ (x : Result View Refusal). view_as x m) is) ∙ view-by u r l t m n eh p

-- ---- open

-- the call, with what it is lent beside the tables
module _ (u r : ℕ) (l : List ℕ) (t : Tables) (list : List ℕ) (a b : ℕ) where
  open-by : {h : Head} {w : Result Chains Refusal} {d : List ℕ} → head_length ≤ length l → h ≡ head_from l → showing w d ≡ open_call u r h t list
      → open_by w d a b ≡ open_answer u r l t list a b
  unfolding open_answer
  open-by n eh p =
      rw (le-ltb (length l) head_length n) (ap (λ (x : Shown). open_by x.answer x.list a b) (p ∙ ap (λ (x : Head). open_call u r x t list) eh))

  pub open-short : length l < head_length → opened_as 13 list a b ≡ open_answer u r l t list a b
  unfolding open_answer
  open-short n = rw (lt-ltb (length l) head_length n)

  pub open-refused : {h : Head} {w : Result Chains Refusal} {d : List ℕ} {n : Refusal} {k : ℕ} → head_length ≤ length l → h ≡ head_from l
      → showing w d ≡ open_call u r h t list → w ≡ Err n → k ≡ result_of n → opened_as k d a b ≡ open_answer u r l t list a b
  unfolding open_by
  open-refused {d = d} n eh p is ek = ap (λ (x : ℕ). opened_as x d a b) ek ∙ sym (ap (λ (x : Result Chains Refusal). open_by x d a b) is) ∙ open-by n eh p

  pub open-given : {h : Head} {w : Result Chains Refusal} {d : List ℕ} {c : Chains} → head_length ≤ length l → h ≡ head_from l → showing w d ≡ open_call u r h t list
      → w ≡ Ok c → opened_as 0 d c.inner c.outer ≡ open_answer u r l t list a b
  unfolding open_by
  open-given {d = d} n eh p is = sym (ap (λ (x : Result Chains Refusal). open_by x d a b) is) ∙ open-by n eh p

-- ---- serve

pub all-refused : {s : Result Served Refusal} (l : List ℕ) (k : ℕ) {n : Refusal} {r : ℕ} → s ≡ Err n → r ≡ result_of n → told_as r l k ≡ serve_told s l k
unfolding serve_told
all-refused l k is er = ap (λ (x : ℕ). told_as x l k) er ∙ sym (ap (λ (x : Result Served Refusal). serve_told x l k) is)

pub all_done : {s : Result Served Refusal} (l : List ℕ) (k : ℕ) {a : Served} {m : List ℕ} → s ≡ Ok a → m ≡ stored 0 (head_numbers a.head) l
    → told_as 0 m a.used ≡ serve_told s l k
unfolding serve_told
all_done l k {a = a} is em = ap (λ (x : List ℕ). told_as 0 x a.used) em ∙ sym (ap (λ (x : Result Served Refusal). serve_told x l k) is)

-- the call, with what it is lent beside the tables
module _ (requests l : List ℕ) (t : Tables) (answers list : List ℕ) (k : ℕ) where
  pub serve-short : length l < head_length → served_as 13 l t answers list k ≡ serve_answer requests l t answers list k
  unfolding serve_answer
  serve-short n = rw (lt-ltb (length l) head_length n)

  pub serve-told : {h : Head} {s : Result Served Refusal} {u : Tables} {given rows : List ℕ} {r : ℕ} {m : List ℕ} {e : ℕ} → head_length ≤ length l → h ≡ head_from l
      → serving s u given rows ≡ serve_call requests h t answers list → told_as r m e ≡ serve_told s l k
      → served_as r m u given rows e ≡ serve_answer requests l t answers list k
  unfolding serve_answer serve_by
  serve-told {u = u} {given = given} {rows = rows} n eh p e =
      rw (le-ltb (length l) head_length n)
      (ap (λ (x : Told). served_as x.result x.head u given rows x.count) e
      ∙ ap (λ (x : Service). serve_by x l k) (p ∙ ap (λ (x : Head). serve_call requests x t answers list) eh))
