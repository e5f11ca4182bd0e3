-- `sound::layers::ununited` meets its contract.
-- Assumes nothing.
use Rattle.std.proofs.Common.{rules, ◌≡◌, ◌∙◌, ap, not, arith}
use Rattle.rules.specs.Lists.{numbered}
use Rattle.rules.specs.Layer.{set_of}
use Rattle.rules.specs.Sound.{united_vertex}
use Rattle.rules.specs.Bytes.{sets_in}
use Rattle.layer.specs.Laid.{layer_of, sources_into}
use Rattle.layer.specs.Lent.{layer_in}
use Rattle.layer.proofs.Read.{length-sets}
use Rattle.theorems.proofs.ListLaws.{length-numbered}
use Rattle.layer.proofs.Search.{placed_first}
use Rattle.sound.specs.Faults.{united_by}
use Rattle.sound.proofs.United.{vertex-at}
use Rattle.sound.proofs.layers.ununited.Goals as goal

pub returns : goal.returns
unfolding layer_of united_vertex set_of
returns c =
    let l = c.args.l.now in
    let sets = sets_in l.shape.vertices l.vertices.now in
    placed_first _ _ (numbered 0 sets) (0, 0) (length-numbered 0 sets ∙ length-sets l.shape.vertices l.vertices.now) c.position.ensures.ran (λ i b q k. search rules)
    (λ i b q m k.
    let all = c.unions-all.ensures i (omega arith) in
    let told : b ≡ not (united_by (set_of (layer_in l) i) (sources_into (layer_in l) 0 i)) = search (rules, all) in
    told ∙ ap (λ v. not (united_vertex (layer_in l) v)) (vertex-at sets i (rw length-sets m)))
