-- `book::put` meets its contract. The invariant: the bytes passed lie in the buffer. Assumes nothing.
use Rattle.std.proofs.Common.{sym, ◌≡◌, ◌∙◌, length, arith}
use lib.Seq.{take-length}
use Rattle.rows.proofs.Laws.{stored-none}
use Rattle.book.proofs.Laws.{byte-stored}
use Rattle.book.proofs.put.Goals as goal

pub loop-i-init : goal.loop-i-init
loop-i-init c = sym (stored-none c.args.at c.args.buffer.now)

pub loop-i-preserved : goal.loop-i-preserved
loop-i-preserved c = byte-stored c.args.at c.loop-i.i c.args.from.now c.args.buffer.now c.loop-i.invariant c.loop-i-test.true c.requires

pub returns : goal.returns
returns c =
    let e : c.loop-i.i ≡ length c.args.from.now = omega arith in
    c.loop-i.invariant ∙ rw (e, take-length)
