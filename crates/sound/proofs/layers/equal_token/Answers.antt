-- `sound::layers::equal_token` meets its contract. The loop's invariant: no two of the tokens passed have the same ends, and the marks of their ends are set.
-- Assumes nothing.
use Rattle.std.proofs.Common.{refl, arith, ◌*◌, ◌+◌, ◌<◌}
use Rattle.layer.specs.Laid.{max_vertices}
use Rattle.layer.proofs.Read.{length-tokens}
use Rattle.layer.proofs.Search.{row-over}
use Rattle.sound.proofs.Reading.{row-mem}
use Rattle.sound.proofs.Seen.{apart_none, apart-here, apart-on}
use Rattle.sound.proofs.layers.equal_token.Goals as goal

pub loop-i-init : goal.loop-i-init
loop-i-init c = apart_none _ _

pub mark-requires : goal.mark-requires
mark-requires c =
    let ends : (c.token_in-t.result.from < max_vertices) × (c.token_in-t.result.to < max_vertices) = c.requires.ends _ (row-mem _ _ (length-tokens _ _ _) c.loop-i-test.true c.token_in-t.ensures) in
    let below : c.token_in-t.result.to * max_vertices + c.token_in-t.result.from < 4096 * 64 = omega (arith, ends.0, ends.1) in
    omega (arith, below, c.loop-i.invariant.1.all)

pub returns-then-mark : goal.returns-then-mark
returns-then-mark c =
    let ends : (c.token_in-t.result.from < max_vertices) × (c.token_in-t.result.to < max_vertices) = c.requires.ends _ (row-mem _ _ (length-tokens _ _ _) c.loop-i-test.true c.token_in-t.ensures) in
    let below : c.token_in-t.result.to * max_vertices + c.token_in-t.result.from < 4096 * 64 = omega (arith, ends.0, ends.1) in
    apart-here _ _ c.requires.ends (length-tokens _ _ _) c.loop-i.invariant c.loop-i-test.true c.token_in-t.ensures refl below
    c.mark.ensures.value c.if-mark.true

pub loop-i-preserved : goal.loop-i-preserved
loop-i-preserved c =
    let ends : (c.token_in-t.result.from < max_vertices) × (c.token_in-t.result.to < max_vertices) = c.requires.ends _ (row-mem _ _ (length-tokens _ _ _) c.loop-i-test.true c.token_in-t.ensures) in
    let below : c.token_in-t.result.to * max_vertices + c.token_in-t.result.from < 4096 * 64 = omega (arith, ends.0, ends.1) in
    apart-on _ _ c.requires.ends (length-tokens _ _ _) c.loop-i.invariant c.loop-i-test.true c.token_in-t.ensures refl below
    c.mark.ensures.value c.if-mark.false c.mark.ensures.marks_after

pub returns : goal.returns
returns c = row-over _ _ _ c.loop-i.invariant.0 c.loop-i-test.false
