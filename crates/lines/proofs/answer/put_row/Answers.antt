-- `lines::answer::put_row` meets its contract. Assumes nothing.
use mathlib.Core.Path.{sym, ◌∙◌}
use native.Mathlib.Omega.{arith}
use lib.ListN.{length-set}
use Rattle.lines.proofs.Texts.{six, letter, row_open, row_plain}
use Rattle.lines.proofs.answer.put_row.Goals as goal

pub overflow_cast-out : goal.overflow_cast-out
overflow_cast-out c = omega (arith, letter c.args.kind (sym c.of_open.ensures ∙ c.if-of_open.true))

pub put_numeral-requires : goal.put_numeral-requires
put_numeral-requires c = simp length-set (omega (arith, six c.from.result 10 (omega arith)))

pub returns-then-of_open-clause-puts : goal.returns-then-of_open-clause-puts
returns-then-of_open-clause-puts c =
    row_open c.args.kind c.args.a c.args.b (sym c.of_open.ensures ∙ c.if-of_open.true) (omega (arith, c.requires)) (rw c.from.ensures at c.put_numeral.ensures)

pub returns-clause-puts : goal.returns-clause-puts
returns-clause-puts c =
    row_plain c.args.kind c.args.a c.args.b (sym c.of_open.ensures ∙ c.if-of_open.false) (omega (arith, c.requires))
    (omega (arith, six c.from-2.result 32 (omega arith), c.put_numeral-end.ensures.ends, c.put_numeral-end.auto.out))
    (rw c.from-2.ensures at c.put_numeral-end.ensures) (rw c.from-3.ensures at c.put_numeral-end-2.ensures) (rw c.from-4.ensures at c.put_numeral-2.ensures)
