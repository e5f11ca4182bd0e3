-- `lines::request::above_of` meets its contract. Assumes nothing.
use Rattle.std.proofs.Common.{◌≡◌, rules, tests}
use lib.Dec.{leb}
use Rattle.std.specs.List.{list_any}
use Rattle.std.proofs.lemmas.Iterator.{YieldsList-from_slice}
use Rattle.std.proofs.lemmas.Iterator.Search.{any_from_yields_List}
use Rattle.lines.specs.Request.{above}
use Rattle.lines.proofs.Passed.{some_is, flag-is}
use Rattle.lines.proofs.request.above_of.Goals as goal

pub returns : goal.returns
unfolding above
returns c =
    let e : c.any.result ≡ list_any (leb 64) c.args.numbers.now =
    any_from_yields_List (leb 64) _ _ _ c.any.ensures.ran (YieldsList-from_slice c.args.numbers.now cc) (λ x b q k. search (rules, tests)) in
    rw (c.from.ensures, e, some_is) (flag-is (list_any (leb 64) c.args.numbers.now))
