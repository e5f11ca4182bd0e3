-- `lines::request::word_end` meets its contract. Assumes nothing.
use Rattle.std.proofs.Common.{true, false, ◌≡◌, sym, ◌∙◌, rules, tests}
use Rattle.std.proofs.lemmas.Iterator.{IsFirst-from_position, YieldsList-from_slice}
use Rattle.lines.specs.Reading.{space}
use Rattle.lines.proofs.Passed.{first_found}
use Rattle.lines.proofs.request.word_end.Goals as goal

pub returns-clause-value : goal.returns-clause-value
returns-clause-value c =
    let line = c.args.line.now in
    let found =
    IsFirst-from_position _ _ c.position.result (λ x. space x ≡ true) (λ x. space x ≡ false) c.position.ensures.ran (YieldsList-from_slice line c.iter.ensures.rest)
    (λ x q k. search (rules, tests)) (λ x q k. search (rules, tests)) in
    c.unwrap_or.ensures ∙ sym (first_found space line c.position.result found)
