-- `desk::hint::has_capital` meets its contract. Assumes nothing.
use Rattle.std.proofs.Common.{sym, ◌∙◌, rules, tests}
use Rattle.std.proofs.lemmas.Iterator.{YieldsList-from_slice}
use Rattle.std.proofs.lemmas.Iterator.Search.{any_from_yields_List}
use Rattle.lines.proofs.Passed.{some_is}
use Rattle.desk.specs.Hint.{capital}
use Rattle.desk.proofs.hint.has_capital.Goals as goal

pub returns : goal.returns
unfolding capital
returns c =
    any_from_yields_List capital _ _ _ c.any.ensures.ran (YieldsList-from_slice c.args.line.now cc) (λ x b q k. search (rules, tests))
    ∙ sym (some_is capital c.args.line.now)
