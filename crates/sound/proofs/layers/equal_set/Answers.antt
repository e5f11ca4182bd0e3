-- `sound::layers::equal_set` meets its contract. The loop's invariant: no two of the vertices passed have equal sets, and the marks of their sets are set.
-- Assumes nothing.
use Rattle.std.proofs.Common.{◌∙◌, sym, arith}
use Rattle.layer.proofs.Read.{length-sets}
use Rattle.layer.proofs.Search.{number-here, row-over}
use Rattle.sound.proofs.FaultLaws.{repeated-before, set-told}
use Rattle.sound.proofs.Seen.{distinct_none, distinct-on, set_new}
use Rattle.sound.proofs.layers.equal_set.Goals.{else-mark-via-then-mark+else-is_some, else-mark-via-else-mark}
use Rattle.sound.proofs.layers.equal_set.Goals as goal

pub loop-i-init : goal.loop-i-init
loop-i-init c = distinct_none _ _

pub mark-requires : goal.mark-requires
mark-requires c = omega (arith, c.mark_of.ensures.1, c.loop-i.invariant.1.all)

pub returns-then-is_some : goal.returns-then-is_some
returns-then-is_some c =
    number-here _ _ c.loop-i.invariant.0 c.loop-i-test.true
    (repeated-before _ _ _ (omega arith) ∙ set-told _ _ c.set_of-s.ensures c.find_set.ensures ∙ sym c.is_some.ensures ∙ c.if-is_some.true)

pub loop-i-preserved : goal.loop-i-preserved
loop-i-preserved c =
    let e = c.set_of-s.ensures in
    let k = c.mark_of.ensures in
    let b = c.mark.ensures in
    distinct-on _ _ (length-sets _ _) c.loop-i.invariant c.loop-i-test.true e k b.value
    (elim c.else-mark.branch [
      | else-mark-via-then-mark+else-is_some w ↦ repeated-before _ _ _ (omega arith) ∙ set-told _ _ e w.find_set.ensures ∙ sym w.is_some.ensures ∙ w.if-is_some.false
      | else-mark-via-else-mark w ↦ set_new _ _ (length-sets _ _) c.loop-i.invariant c.loop-i-test.true e k b.value w.if-mark.false
    ])
    b.marks_after

pub returns : goal.returns
returns c = row-over _ _ _ c.loop-i.invariant.0 c.loop-i-test.false
