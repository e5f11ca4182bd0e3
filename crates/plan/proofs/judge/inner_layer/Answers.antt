-- `plan::judge::inner_layer` meets its contract. Assumes nothing.
use Rattle.plan.proofs.ReadyLaws.{inner-laid, inner-shaped}
use Rattle.plan.proofs.judge.inner_layer.Goals as goal

pub invariant_of-result : goal.invariant_of-result
invariant_of-result c = record { laid = rw c.inner_shape.ensures (inner-laid _ _ _ _ _ _ c.requires) }

pub returns-clause-layer : goal.returns-clause-layer
returns-clause-layer c = let t = c.args.t.now in inner-shaped c.args.h t.inner_vertices.now t.inner_tokens.now t.outer_vertices.now t.outer_tokens.now t.resources.now c.inner_shape.ensures
