-- A request as a call: the check's answer, then the plan's, then the work. Each of the three says what the call's equation is where it ends there.
-- Assumes nothing.
use Rattle.std.specs.Prelude.{Result, Ok, Err}
use Prim.Native.Nat.{ℕ}
use mathlib.Core.Path.{◌≡◌, refl, sym, ap, ◌∙◌}
use mathlib.Core.List.{List, ◌++◌, append_assoc}
use mathlib.Core.Option.{Option, some, none}
use Rattle.rules.specs.Bytes.{Tables, book_in}
use Rattle.rules.specs.Refusals.{Request, work, own, limits, verdict, common, refusal}
use Rattle.rules.specs.Calls.{change, change_by, changing, rows_lent}
use Rattle.rules.specs.declared.Head.{Head}
use Rattle.rules.specs.declared.Refusal.{Refusal}
use Rattle.sound.specs.Check.{checked}
use Rattle.plan.specs.Judge.{Ready, plan_of, judged_by, judged}
use Rattle.plan.specs.declared.Plan.{Plan}
use Rattle.policy.proofs.CheckLaws.{unsound, rest-decides}

module _ (q : Request) (h : Head) (t : Tables) (list : List ℕ) where
  -- 13 or 12
  pub call-unsound : {k : Result Unit Refusal} {n : Refusal} → k ≡ checked h t → k ≡ Err n → changing (Err n) t list ≡ change q h t list
  unfolding change change_by refusal
  call-unsound is e = rw (append_assoc (common t (book_in h t)) (own q (book_in h t)) (limits (rows_lent list) (work q (book_in h t))), unsound h t is e _)

  module _ (g : Ready h t) {j : Result Plan Refusal} (is : j ≡ judged q (book_in h t) (rows_lent list)) where
    -- past 13 and 12, the rest of the table decides
    rest : refusal t (book_in h t) (rows_lent list) q ≡ verdict (own q (book_in h t) ++ limits (rows_lent list) (work q (book_in h t)))
    unfolding refusal
    rest = ap verdict (append_assoc (common t (book_in h t)) (own q (book_in h t)) (limits (rows_lent list) (work q (book_in h t)))) ∙ rest-decides h t g _

    -- 1 to 10, and 15
    pub call-refused : {n : Refusal} → j ≡ Err n → changing (Err n) t list ≡ change q h t list
    unfolding judged judged_by change change_by
    call-refused {n} e = rw (rest ∙ go (verdict (own q (book_in h t) ++ limits (rows_lent list) (work q (book_in h t)))) (sym is ∙ e))
      where
        go : (v : Option Refusal) → judged_by v (plan_of q (book_in h t)) ≡ Err n → v ≡ some n
        go none f = cc
        go (some r) f = cc

    -- none
    pub call-accepted : {p : Plan} → j ≡ Ok p → (refusal t (book_in h t) (rows_lent list) q ≡ none) × (p ≡ plan_of q (book_in h t))
    unfolding judged judged_by
    call-accepted {p} e =
        let (v, o) = go (verdict (own q (book_in h t) ++ limits (rows_lent list) (work q (book_in h t)))) (sym is ∙ e) in
        (rest ∙ v, o)
      where
        go : (v : Option Refusal) → judged_by v (plan_of q (book_in h t)) ≡ Ok p → (v ≡ none) × (p ≡ plan_of q (book_in h t))
        go none f = (refl, cc)
        go (some r) f = cc
