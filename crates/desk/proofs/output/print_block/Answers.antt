-- `desk::output::print_block` meets its contract. The invariant: the order rows that the answers left count are still to come, and so
-- are their texts. Assumes nothing.
use Rattle.std.proofs.Common.{◌*◌, ◌≡◌, ◌<◌, ◌∷◌, length, get_or, sym, ap, ◌∙◌, arith}
use mathlib.Core.Logic.{inl, inr}
use lib.ListN.{length-append, length-drop}
use Rattle.std.specs.Slice.Iter.{chunks_exact_rest}
use Rattle.std.specs.Iterator.Adapters.{zip_first, zip_second}
use Rattle.std.specs.Result.{result_ok}
use Rattle.lines.specs.Answer.{answer_text}
use Rattle.desk.specs.Output.{counts, never_more, texts}
use Rattle.desk.proofs.PrintLaws.{gathered-all, gathered-more, counts-next, texts-next, texts-done, few-next, few-rest, room-front}
use Rattle.desk.proofs.output.print_block.Goals as goal

pub split_at-requires : goal.split_at-requires
split_at-requires c =
    let i = c.loop-request.invariant in
    let answer = c.in-Some.ensures.steps.1.1 in
    omega (arith, c.from.ensures, ap counts answer.0 ∙ counts-next c.in-Some.answer.now _ (answer.1 ∙ i.3), i.5)

pub print_answer-requires-clause-out_value : goal.print_answer-requires-clause-out_value
print_answer-requires-clause-out_value c =
    let l = c.loop-request in
    let answer = c.in-Some.ensures.steps.1.1 in
    rw (c.split_at.ensures.front, c.from.ensures)
    (room-front _ l.left.now l.out (few-next c.in-Some.answer.now _ (answer.1 ∙ l.invariant.3) (sym (ap never_more answer.0) ∙ l.invariant.8))
    (omega (arith, l.invariant.7, c.requires.longest_in_bounds)))

pub loop-request-preserved : goal.loop-request-preserved
loop-request-preserved c =
    let l = c.loop-request in
    let i = l.invariant in
    let steps = c.in-Some.ensures.steps in
    let request = c.in-Some.request.now in
    let answer = c.in-Some.answer.now in
    let three = steps.0.1.1 ∙ i.2 in
    let three' = steps.1.1.1 ∙ i.3 in
    let requests = chunks_exact_rest (zip_first c.next.new.self) in
    let answers = chunks_exact_rest (zip_second c.next.new.self) in
    let rows = c.split_at.result.0.now in
    let behind = c.split_at.result.1.now in
    let number = c.number_told-number.result in
    let view = get_or answer 1 0 in
    let next : texts (chunks_exact_rest (zip_first l.request-iterator)) (chunks_exact_rest (zip_second l.request-iterator)) l.left.now
    ≡ answer_text number view rows ∷ texts requests answers behind =
    rw (steps.0.1.0, steps.1.1.0, texts-next request requests answer answers l.left.now three three', c.number_told-number.ensures, c.split_at.ensures.front, c.split_at.ensures.back, c.from.ensures) in
    let put = c.print_answer in (
      (omega (arith, steps.0.0, i.2), omega (arith, steps.1.0, i.3)),
      tt,
      steps.0.0 ∙ i.2,
      steps.1.0 ∙ i.3,
      omega (arith, i.4, simp length-append at (ap length steps.0.1.0), simp length-append at (ap length steps.1.1.0), three, three'),
      omega (arith, c.from.ensures, ap counts steps.1.1.0 ∙ counts-next answer answers three', i.5, ap length c.split_at.ensures.back, length-drop (c.from.result * 3) l.left.now),
      c.in_ok-end.ensures.filled,
      put.auto.out ∙ i.7,
      few-rest answer answers three' (sym (ap never_more steps.1.1.0) ∙ i.8),
      λ r fin g. i.9 r fin (rw next (gathered-more number view rows l.out l.end put.ensures.prints.written i.6 (ap result_ok c.in_ok-end.was) put.ensures.prints.leaves r fin g)),
    )

pub returns-clause-gathered : goal.returns-clause-gathered
returns-clause-gathered c =
    let l = c.loop-request in
    let i = l.invariant in
    let answers = chunks_exact_rest (zip_second l.request-iterator) in
    let few : length answers < 3 = elim c.in-None.ensures.steps [ inl s ↦ omega (arith, s.1.1.0, i.2, i.4) | inr s ↦ omega (arith, s.1.1.0, i.3) ] in
    i.9 l.end l.out (rw (texts-done (chunks_exact_rest (zip_first l.request-iterator)) answers l.left.now few) (gathered-all l.end l.out))
