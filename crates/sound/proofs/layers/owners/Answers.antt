-- `sound::layers::owners` meets its contract. The loop's invariant: `own` names the users who have one of the first v sets for themselves.
-- Assumes nothing.
use Rattle.std.proofs.Common.{ap, ◌∙◌, ◌≤◌, ◌<◌, length}
use Rattle.sets.specs.Words.{set_in}
use Rattle.rules.specs.Bytes.{sets_in}
use Rattle.layer.proofs.Read.{length-sets}
use Rattle.sound.proofs.FaultLaws.{owners-none, owners-own, owners-group, owners-all}
use Rattle.sound.proofs.layers.owners.Goals.{then-size-eq1, else-size-eq1}
use Rattle.sound.proofs.layers.owners.Goals as goal

pub loop-v-init : goal.loop-v-init
loop-v-init c = rw c.empty-own.ensures owners-none

pub loop-v-preserved : goal.loop-v-preserved
loop-v-preserved c =
    let l : c.loop-v.v < length (sets_in c.args.n c.args.vertices.now) = rw length-sets c.loop-v-test.true in
    let h = c.loop-v.invariant in
    elim c.if-size-eq1.branch [
      | then-size-eq1 w ↦ owners-own _ h l c.set_of-s.ensures c.size.ensures.value w.if-size-eq1.true (ap set_in w.own-is ∙ w.union-own.ensures)
      | else-size-eq1 w ↦ owners-group _ h l c.set_of-s.ensures c.size.ensures.value w.if-size-eq1.false (ap set_in w.own-is)
    ]

pub returns : goal.returns
returns c =
    let over : length (sets_in c.args.n c.args.vertices.now) ≤ c.loop-v.v = rw length-sets c.loop-v-test.false in
    owners-all _ c.loop-v.invariant over
