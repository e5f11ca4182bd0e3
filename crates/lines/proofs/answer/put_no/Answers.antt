-- `lines::answer::put_no` meets its contract. Assumes nothing.
use Rattle.std.proofs.Common.{◌≡◌, arith}
use borrow.Author.Tests.{ne_eqb}
use Rattle.lines.specs.Answer.{no_text}
use Rattle.lines.proofs.Putting.{put_then}
use Rattle.lines.proofs.answer.put_no.Goals as goal

pub returns-then-number-eq11 : goal.returns-then-number-eq11
unfolding no_text
returns-then-number-eq11 c =
    let eleven : c.args.number ≡ 11 = omega (arith, c.if-number-eq11.true) in
    rw eleven
    (put_then (omega arith) c.put_text-end.ensures (put_then (omega arith) c.put_numeral-end.ensures (rw c.from.ensures at c.put_numeral.ensures)))

pub returns : goal.returns
unfolding no_text
returns c =
    let other : c.args.number ≡ 11 → ⊥ = λ eleven. omega (arith, c.if-number-eq11.false, eleven) in
    rw (ne_eqb c.args.number 11 other) (put_then (omega arith) c.put_text-end.ensures (rw c.from-2.ensures at c.put_numeral-2.ensures))
