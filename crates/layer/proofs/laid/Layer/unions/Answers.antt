-- `layer::laid::Layer::unions` meets its contract. The loop's invariant: every cell is the union over the first i tokens. Assumes nothing.
use Rattle.std.proofs.Common.{◌<◌, length, arith}
use Rattle.layer.specs.Lent.{layer_in}
use Rattle.layer.proofs.Read.{layer-tokens}
use Rattle.layer.proofs.Sources.{unions-none, unions-kind, unions-more, unions-all}
use Rattle.layer.proofs.laid.Layer.unions.Goals as goal
use Rattle.layer.proofs.laid.Layer.unions.Goals.{then-t-kind, else-t-kind}

pub loop-i-init : goal.loop-i-init
loop-i-init c = unions-none _ _ c.empty-all.ensures

pub loop-i-preserved : goal.loop-i-preserved
loop-i-preserved c =
    let below : c.loop-i.i < length (layer_in c.args.self.now).tokens = rw layer-tokens c.loop-i-test.true in
    elim c.if-t-kind.branch [
      | then-t-kind w ↦
          unions-more _ _ below c.token_at-t.ensures.value c.loop-i.invariant w.if-t-kind.true (omega (arith, c.token_at-t.ensures.to, c.requires)) w.set_of.ensures
          w.union.ensures w.all-is
      | else-t-kind w ↦ unions-kind _ _ below c.token_at-t.ensures.value c.loop-i.invariant w.if-t-kind.false w.all-is
    ]

pub returns : goal.returns
returns c = unions-all _ _ c.loop-i.invariant (rw layer-tokens c.loop-i-test.false)
