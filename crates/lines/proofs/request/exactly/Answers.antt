-- `lines::request::exactly` meets its contract. Assumes nothing.
use Rattle.std.proofs.Common.{arith}
use borrow.Author.Tests.{eq-eqb, ne_eqb}
use Rattle.lines.specs.Request.{exactly}
use Rattle.lines.proofs.Passed.{none-at}
use Rattle.lines.proofs.request.exactly.Goals as goal
use Rattle.lines.proofs.request.exactly.Goals.{in-empty, in-len1, in-len2-up}

pub returns-then-numbers-n : goal.returns-then-numbers-n
unfolding exactly
returns-then-numbers-n c = rw (ne_eqb _ _ c.if-numbers-n.true)

pub returns : goal.returns
unfolding exactly
returns c =
    let ns = c.args.numbers.now in
    rw (eq-eqb _ _ c.if-numbers-n.false, c.number.ensures)
    (elim c.if-numbers-lt1.branch [
      | in-empty w ↦ rw (w.a-is, none-at ns 0 (omega arith), none-at ns 1 (omega arith))
      | in-len1 w ↦ rw (w.a-is, none-at ns 1 (omega arith))
      | in-len2-up w ↦ rw w.a-is
    ])
