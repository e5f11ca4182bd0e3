-- One of several requests: an open's chains in the order list, each row with the mark of its layer, and what it answers.
-- Assumes nothing.
use Rattle.std.specs.Prelude.{Option, Some, Result, Ok, Err}
use Prim.Native.Nat.{ℕ, ◌+◌, ◌*◌, ◌-◌, ◌≤◌}
use mathlib.Core.Path.{◌≡◌, refl, sym, ap, ap₂, ◌∙◌}
use mathlib.Core.List.{List, ◌++◌, append_assoc}
use native.Mathlib.Omega.{arith}
use lib.ListN.{length, take, drop}
use lib.Seq.{take_at, drop_at}
use Rattle.rows.specs.Number.{stored}
use Rattle.rows.proofs.Laws.{stored-add}
use Rattle.rows.proofs.Table.{length-written}
use Rattle.rules.specs.Book.{Book}
use Rattle.rules.specs.Open.{inner_chain, outer_chain}
use Rattle.rules.specs.Bytes.{Tables, book_in}
use Rattle.rules.specs.Refusals.{opened}
use Rattle.rules.specs.Calls.{rows_lent, Change, changing, change, opens, one, open_one, change_one, chain_rows}
use Rattle.rules.specs.declared.Head.{Head}
use Rattle.rules.specs.declared.Applied.{Applied}
use Rattle.rules.specs.declared.Chains.{Chains}
use Rattle.rules.specs.declared.Refusal.{Refusal}
use Rattle.plan.specs.Judge.{Ready, request_of}
use Rattle.plan.specs.declared.Request.{Request}
use Rattle.policy.specs.Open.{openable, Passed}
use Rattle.policy.specs.Serve.{asked_of, marked_row, marked}
use Rattle.policy.specs.declared.serve.Asks.{Asks}
use Rattle.policy.specs.declared.serve.Asks.TheVariants as asks
use Rattle.policy.proofs.OpenLaws.{length_opened, judged-no, judged-go}

length_marked : (mark : ℕ) (list : List ℕ) → length (marked mark list) ≡ length list * 3
unfolding marked
length_marked mark list = length-written 3 (marked_row mark) (λ i. refl) list

-- ---- the rows of both chains

module _ {h : Head} {t : Tables} {u r room : ℕ} {k : Chains} (p : Passed h t u r room k) where
  abbrev b : Book
  b = book_in h t

  inner-is : length (inner_chain b u r) ≡ k.inner
  inner-is = sym (ap (λ (x : Chains). x.inner) p.lengths)

  outer-is : length (outer_chain b u r) ≡ k.outer
  outer-is = sym (ap (λ (x : Chains). x.outer) p.lengths)

  pub shown-rows : length (opened b u r) ≡ k.inner + k.outer
  shown-rows = omega (arith, length_opened b u r, inner-is, outer-is)

  -- the list that has them now
  module _ (blank : List ℕ) {list : List ℕ} (long : k.inner + k.outer ≤ length blank) (e : list ≡ stored 0 (opened b u r) blank) where
    both : list ≡ inner_chain b u r ++ (outer_chain b u r ++ drop (0 + length (opened b u r)) blank)
    unfolding stored opened
    both = e ∙ append_assoc (inner_chain b u r) (outer_chain b u r) _

    inner-part : take k.inner list ≡ inner_chain b u r
    inner-part = ap (take k.inner) both ∙ take_at (inner_chain b u r) _ k.inner inner-is

    outer-part : take (k.inner + k.outer - k.inner) (drop k.inner list) ≡ outer_chain b u r
    outer-part =
        let m = k.inner + k.outer - k.inner in
        ap (λ (x : List ℕ). take m (drop k.inner x)) both
        ∙ ap (take m) (drop_at (inner_chain b u r) _ k.inner inner-is)
        ∙ take_at (outer_chain b u r) _ m (omega (arith, outer-is))

    -- put into the order rows, the outer ones behind the inner ones
    pub chains-put : (orders : List ℕ) {first last : List ℕ} → room ≤ rows_lent orders
        → first ≡ stored 0 (marked 105 (take k.inner list)) orders
        → last ≡ stored (k.inner * 3) (marked 111 (take (k.inner + k.outer - k.inner) (drop k.inner list))) first
        → last ≡ stored 0 (chain_rows b u r) orders
    unfolding chain_rows marked rows_lent
    chains-put orders l e₁ e₂ =
        e₂
        ∙ ap₂ (λ (xs os : List ℕ). stored (k.inner * 3) (marked 111 xs) os) outer-part (e₁ ∙ ap (λ (xs : List ℕ). stored 0 (marked 105 xs) orders) inner-part)
        ∙ stored-add 0 (marked 105 (inner_chain b u r)) (marked 111 (outer_chain b u r)) orders (k.inner * 3)
        (omega (arith, length_marked 105 (inner_chain b u r), inner-is))
        (omega (arith, length_marked 111 (outer_chain b u r), outer-is, p.rows))

-- ---- the answer

pub one-changed : (h : Head) (t : Tables) (list : List ℕ) {q : Option Asks} {r : Request} {c : Result Applied Refusal} {u : Tables} {after : List ℕ} → q ≡ Some (asks.Change r)
    → changing c u after ≡ change (request_of r) h t list → change_one c h u after ≡ one (asked_of q) h t list
unfolding one
one-changed h t list is e = rw is (ap (λ (x : Change). change_one x.answer h x.tables x.orders) e)

module _ (h : Head) (t : Tables) (u r : ℕ) (ready : Ready h t) (list : List ℕ) {j : Result Chains Refusal} (ej : j ≡ openable (book_in h t) u r (rows_lent list)) where
  pub one-no : {n : Refusal} → j ≡ Err n → change_one (Err n) h t list ≡ one (opens u r) h t list
  unfolding one open_one change_one
  one-no e = rw (judged-no h t u r ready _ ej e)

  pub one-shown : {k : Chains} {list' : List ℕ} → j ≡ Ok k → list' ≡ stored 0 (chain_rows (book_in h t) u r) list
      → change_one (Ok record { head = h; count = k.inner + k.outer }) h t list' ≡ one (opens u r) h t list
  unfolding one open_one change_one
  one-shown e q =
      let (v, l) = judged-go h t u r ready _ ej e in
      rw (v, q, length_opened (book_in h t) u r, l)
