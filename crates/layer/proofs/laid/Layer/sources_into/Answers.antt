-- `layer::laid::Layer::sources_into` meets its contract. The loop's invariant: the union is the one over the first i tokens. Assumes nothing.
use Rattle.std.proofs.Common.{◌<◌, length, sym, ap, ap₂, ◌∙◌}
use Rattle.sets.specs.Sets.{union}
use Rattle.sets.specs.Words.{set_in}
use Rattle.layer.specs.Lent.{layer_in}
use Rattle.layer.proofs.Read.{layer-tokens}
use Rattle.layer.proofs.Sources.{union-to-none, union-to-all, union-to-more, union-to-kind, union-to-end}
use Rattle.layer.proofs.laid.Layer.sources_into.Goals as goal
use Rattle.layer.proofs.laid.Layer.sources_into.Goals.{then-t-kind+then-t-v, else-t-kind, else-t-kind-via-then-t-kind+else-t-v, else-t-kind-via-else-t-kind}

pub loop-i-init : goal.loop-i-init
loop-i-init c = c.empty-all.ensures ∙ sym (union-to-none _ _ _)

pub loop-i-preserved : goal.loop-i-preserved
loop-i-preserved c =
    let below : c.loop-i.i < length (layer_in c.args.self.now).tokens = rw layer-tokens c.loop-i-test.true in
    elim c.if-t-kind.branch [
      | then-t-kind+then-t-v w ↦
          ap set_in w.all-is ∙ w.union-all.ensures ∙ ap₂ union c.loop-i.invariant w.set_of.ensures
          ∙ sym (union-to-more _ _ _ _ below _ c.token_at-t.ensures.value w.if-t-kind.true w.if-t-v.true)
      | else-t-kind w ↦
          ap set_in w.all-is ∙ c.loop-i.invariant
          ∙ elim w.else-t-kind.branch [
            | else-t-kind-via-then-t-kind+else-t-v v ↦ sym (union-to-end _ _ _ _ below _ c.token_at-t.ensures.value v.if-t-v.false)
            | else-t-kind-via-else-t-kind v ↦ sym (union-to-kind _ _ _ _ below _ c.token_at-t.ensures.value v.if-t-kind.false)
          ]
    ]

pub returns : goal.returns
returns c = c.loop-i.invariant ∙ union-to-all _ _ _ c.loop-i.i (rw layer-tokens c.loop-i-test.false)
