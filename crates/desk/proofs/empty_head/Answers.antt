-- `desk::empty_head` meets its contract. Assumes nothing.
use Rattle.rules.specs.Book.{empty_book, empty_layer}
use Rattle.rules.specs.Bytes.{head, head_of}
use Rattle.desk.proofs.empty_head.Goals as goal

pub returns : goal.returns
unfolding head_of empty_book empty_layer
returns c =
    λ i. head c.args.mode.0 (c.new.ensures i) (c.new-2.ensures i) (c.new-3.ensures i) (c.new-4.ensures i) (c.new-5.ensures i) (c.new-6.ensures i) (c.empty.ensures i)
