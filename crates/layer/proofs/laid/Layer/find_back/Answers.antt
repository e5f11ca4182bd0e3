-- `layer::laid::Layer::find_back` meets its contract. The loop's invariant: none of the rows taken is one that leads back. Assumes nothing.
use Rattle.std.proofs.Common.{sym, ap, ◌∙◌, ℕ}
use borrow.Author.Tests.{eq-eqb, ne_eqb}
use Rattle.sets.specs.Sets.{has}
use Rattle.rules.specs.Layer.{token}
use Rattle.rules.specs.Open.{back, token_at}
use Rattle.theorems.proofs.WalkLaws.{enters-true}
use Rattle.layer.specs.Lent.{layer_in}
use Rattle.layer.proofs.Read.{layer-tokens}
use Rattle.layer.proofs.Search.{seeking_none, seeking-here, seeking-on}
use Rattle.layer.proofs.laid.Layer.find_back.Goals as goal
use Rattle.layer.proofs.laid.Layer.find_back.Goals.{else-t-eq0-via-then-t-eq0+then-t-v+else-has, else-t-eq0-via-then-t-eq0+else-t-v, else-t-eq0-via-else-t-eq0}

pub returns-in_err-i : goal.returns-in_err-i
unfolding back
returns-in_err-i c = c.from_residual.ensures ∙ seeking_none c.loop-i.invariant c.in_err-i.ensures.steps

pub loop-i-preserved : goal.loop-i-preserved
unfolding token_at
loop-i-preserved c =
    let u = c.args.u.0 in
    seeking-on c.loop-i.invariant (token 0 0 0) c.in_ok-i.ensures.steps c.token_at-t.ensures.value (layer-tokens _ _ _)
    (elim c.else-t-eq0.branch [
      | else-t-eq0-via-then-t-eq0+then-t-v+else-has w ↦
          rw (eq-eqb _ _ w.if-t-eq0.true, eq-eqb _ _ w.if-t-v.true) (ap (λ (s : ℕ). has s u) (sym w.set_of.ensures) ∙ sym w.has.ensures ∙ w.if-has.false)
      | else-t-eq0-via-then-t-eq0+else-t-v w ↦ rw (eq-eqb _ _ w.if-t-eq0.true, ne_eqb _ _ w.if-t-v.false)
      | else-t-eq0-via-else-t-eq0 w ↦ rw (ne_eqb _ _ w.if-t-eq0.false)
    ])

pub returns : goal.returns
unfolding back token_at
returns c =
    let u = c.args.u.0 in
    seeking-here c.loop-i.invariant (token 0 0 0) c.in_ok-i.ensures.steps c.token_at-t.ensures.value
    (enters-true (layer_in c.args.self.now) 0 c.args.v (λ s. has s u) c.token_at-t.result (c.if-t-eq0.true, c.if-t-v.true, ap (λ (s : ℕ). has s u) (sym c.set_of.ensures) ∙ sym c.has.ensures ∙ c.if-has.true))
