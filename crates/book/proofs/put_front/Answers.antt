-- `book::put_front` meets its contract. Assumes nothing.
use Rattle.book.proofs.Laws.{front-stored}
use Rattle.book.proofs.put_front.Goals as goal

pub returns : goal.returns
returns c =
    front-stored c.args.h c.args.buffer.now _ _ _ _ _ _ _ _ c.requires.0 c.requires.1 c.requires.2
    c.put.ensures
    c.put-2.ensures
    c.put-3.ensures
    c.put-4.ensures
    c.put-5.ensures
    c.put-6.ensures
    c.put-7.ensures
    c.put-8.ensures
