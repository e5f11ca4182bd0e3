-- `lines::request::repeats` meets its contract. The invariant: none of those passed comes again. Assumes nothing.
use Rattle.std.proofs.Common.{Bool, ◌||◌, ◌-◌, length, take, drop, sym, ap, ◌∙◌, arith}
use Rattle.lines.specs.Request.{twice}
use Rattle.lines.proofs.Passed.{twice_next, twice_none}
use Rattle.lines.proofs.request.repeats.Goals as goal

pub returns-then-contains : goal.returns-then-contains
returns-then-contains c =
    let xs = c.loop-rest.rest.now in
    sym (c.loop-rest.invariant
    ∙ twice_next xs c.in-len1-up.len_at_least
    ∙ ap (λ (b : Bool). b || twice (take (length xs - 1) (drop 1 xs))) (sym c.contains.ensures.value ∙ c.if-contains.true))

pub loop-rest-preserved : goal.loop-rest-preserved
loop-rest-preserved c =
    let xs = c.loop-rest.rest.now in
    c.loop-rest.invariant
    ∙ twice_next xs c.in-len1-up.len_at_least
    ∙ ap (λ (b : Bool). b || twice (take (length xs - 1) (drop 1 xs))) (sym c.contains.ensures.value ∙ c.if-contains.false)

pub returns : goal.returns
returns c = sym (c.loop-rest.invariant ∙ twice_none c.loop-rest.rest.now (omega arith))
