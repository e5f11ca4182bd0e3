-- `desk::hint::is_marked` meets its contract. Assumes nothing.
use Rattle.std.proofs.Common.{◌≡◌, ℕ, Bool, true, false, ◌&&◌, List, [], ◌∷◌, take, refl, ◌∙◌, arith}
use lib.Dec.{eqb}
use Rattle.std.specs.Cmp.Lexicographic.{pointwise}
use Rattle.std.proofs.lemmas.Bool.Decides.{nat_tests}
use Rattle.desk.specs.Hint.{marked}
use Rattle.desk.proofs.hint.is_marked.Goals as goal

and-false : (b : Bool) → (b && false) ≡ false
and-false true = refl
and-false false = refl

marked-is : (l : List ℕ) → pointwise eqb (239 ∷ 187 ∷ 191 ∷ []) (take 3 l) ≡ marked l
unfolding marked
marked-is [] = refl
marked-is (x ∷ []) = and-false (eqb 239 x)
marked-is (x ∷ y ∷ []) = grind (arith, nat_tests, and-false)
marked-is (x ∷ y ∷ z ∷ l) = grind (arith, nat_tests)

pub returns : goal.returns
returns c = c.starts_with.ensures.value ∙ marked-is c.args.line.now
