-- `book::header_in` meets its contract. Assumes nothing.
use Rattle.std.proofs.Common.{ℕ, ◌≡◌, ◌<◌, ◌∙◌, sym, get_or, arith}
use Rattle.rows.specs.Number.{cell}
use Rattle.rows.proofs.Laws.{cell-one}
use Rattle.rules.specs.Bytes.{head, head_in, left_by}
use Rattle.book.proofs.header_in.Goals as goal

pub returns : goal.returns
unfolding head_in
returns c =
    let one : (k : ℕ) → k < 17 → get_or c.args.bytes.now k 0 ≡ cell 1 k c.args.bytes.now = λ k l. sym (cell-one k c.args.bytes.now (omega arith)) in
    λ i.
    left_by c.args.leavers
    (head
    (one 5 (omega arith) i)
    ((c.new.ensures ∙ one 6 (omega arith)) i)
    ((c.new-2.ensures ∙ c.get.ensures) i)
    ((c.new-3.ensures ∙ c.get-2.ensures) i)
    ((c.new-4.ensures ∙ c.get-3.ensures) i)
    ((c.new-5.ensures ∙ c.get-4.ensures) i)
    ((c.new-6.ensures ∙ c.get-5.ensures) i)
    0)
