-- `lines::answer::put_rows` meets its contract. The invariant: a text that goes on from here with the rows left is the text of all rows. Assumes nothing.
use Rattle.std.proofs.Common.{length, ap, ◌∙◌, arith}
use lib.ListN.{length-append}
use Rattle.std.specs.Slice.Iter.{chunks_exact_rest}
use Rattle.lines.proofs.Putting.{put-none, put_then}
use Rattle.lines.proofs.Texts.{rows_next, rows_done}
use Rattle.lines.proofs.answer.put_rows.Goals as goal

pub loop-row-preserved : goal.loop-row-preserved
loop-row-preserved c =
    let l = c.loop-row in
    let put = c.put_row-end in
    let step = c.in-Some.ensures.steps in
    let long = step.1.1 ∙ l.invariant.0 in (
      step.0 ∙ l.invariant.0,
      put.auto.out ∙ l.invariant.1,
      omega (arith, long, simp length-append at (ap length step.1.0), put.ensures.upper_bound, l.invariant.2),
      λ r now p. l.invariant.3 r now (rw (step.1.0, rows_next c.in-Some.row.now _ long) (put_then (omega (arith, l.invariant.1, l.invariant.2)) put.ensures.puts p)),
    )

pub returns : goal.returns
returns c =
    let l = c.loop-row in
    let step = c.in-None.ensures.steps in
    let few = step.1.0 in
    l.invariant.3 l.end l.out (rw (rows_done (chunks_exact_rest l.row-iterator) (omega (arith, few, l.invariant.0))) (put-none l.end l.out))
