-- What the calls share: a refusal that is passed on, the check's answer, and the table of refusals past it.
-- Assumes nothing.
use Rattle.std.specs.Prelude.{Result, Ok, Err}
use Rattle.std.specs.Result.{IsErrAnd}
use Rattle.std.proofs.lemmas.Result.{err_from_is_err_and}
use mathlib.Core.Path.{◌≡◌, refl, sym, ap, ◌∙◌}
use mathlib.Core.List.{[], ◌++◌, append-nil}
use mathlib.Core.Option.{Option, some, none}
use Rattle.rules.specs.Bytes.{Tables, book_in}
use Rattle.rules.specs.Refusals.{common, verdict}
use Rattle.rules.specs.declared.Head.{Head}
use Rattle.rules.specs.declared.Refusal.{Refusal}
use Rattle.theorems.proofs.RequestLaws.{Rows, common-none, common-passed, verdict-first}
use Rattle.sound.specs.Check.{unless, checked}
use Rattle.plan.specs.Judge.{Ready}

-- the exit of a `?`
pub passed_on : {A E : Type 0} {n : E} (r : Result A E) → IsErrAnd r (λ y. y ≡ n) → r ≡ Err n
passed_on r h = let p = err_from_is_err_and r h in p.1 ∙ ap (λ y. Err y) p.2

module _ (h : Head) (t : Tables) where
  -- past 13 and 12, the rest of the table decides
  pub rest-decides : Ready h t → (xs : Rows) → verdict (common t (book_in h t) ++ xs) ≡ verdict xs
  rest-decides g xs = common-passed t (book_in h t) xs g.long g.sound'

  module _ {k : Result Unit Refusal} (ek : k ≡ checked h t) where
    -- 13 or 12
    pub unsound : {n : Refusal} → k ≡ Err n → (xs : Rows) → verdict (common t (book_in h t) ++ xs) ≡ some n
    unfolding checked
    unsound {n} e xs = verdict-first (common t (book_in h t)) xs (go (verdict (common t (book_in h t))) (sym ek ∙ e))
      where
        go : (o : Option Refusal) → unless o ≡ Err n → o ≡ some n
        go (some x) q = cc
        go none q = cc

    -- tables that are long enough and hold a sound book
    pub checked-ready : {x : Unit} → k ≡ Ok x → Ready h t
    unfolding checked
    checked-ready {x} e =
        let (l, s, _) = common-none t (book_in h t) [] (rw append-nil (go (verdict (common t (book_in h t))) (sym ek ∙ e))) in
        record { long = l; sound' = s }
      where
        go : (o : Option Refusal) → unless o ≡ Ok x → o ≡ none
        go (some y) q = cc
        go none q = refl
