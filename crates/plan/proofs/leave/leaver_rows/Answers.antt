-- `plan::leave::leaver_rows` meets its contract. Assumes nothing.
use mathlib.Core.Path.{sym, ap, ◌∙◌}
use Rattle.sets.specs.Sets.{has, minus, single}
use Rattle.rules.specs.Book.{Resource}
use Rattle.theorems.specs.Plan.{new_vertices, new_tokens}
use Rattle.layer.specs.Lent.{layer_then}
use Rattle.plan.proofs.LeaveLaws.{list-out, list-in}
use Rattle.plan.proofs.leave.leaver_rows.Goals as goal

pub returns-then-not-has-clause-value : goal.returns-then-not-has-clause-value
returns-then-not-has-clause-value c =
    let l = c.args.l.now in
    list-out (layer_then l) _ l.seen.leaver.0
    (ap (λ (x : Resource). has x.list l.seen.leaver.0) (sym c.resource_in-x.ensures) ∙ sym c.has.ensures ∙ c.if-not-has.true)

pub returns-clause-value : goal.returns-clause-value
returns-clause-value c =
    let l = c.args.l.now in
    let L = layer_then l in
    let u = l.seen.leaver.0 in
    let list = c.without.ensures ∙ ap (λ (x : Resource). minus x.list (single u)) c.resource_in-x.ensures in
    list-in L _ u
    (ap (λ (x : Resource). has x.list u) (sym c.resource_in-x.ensures) ∙ sym c.has.ensures ∙ c.if-not-has.false)
    (c.new_rows.ensures.vertices_value ∙ ap (new_vertices L) list)
    (c.new_rows.ensures.tokens_value ∙ ap (new_tokens L) list)
    c.locking.ensures
