-- `sound::book::Book::outer` meets its contract. Assumes nothing.
use Rattle.rules.specs.Bytes.{book_in, tables_of}
use Rattle.layer.specs.Laid.{layer_of}
use Rattle.sound.proofs.Required.{outer-laid}
use Rattle.sound.proofs.book.Book.outer.Goals as goal

pub invariant_of-result : goal.invariant_of-result
invariant_of-result c =
    let b = c.args.self.now in
    record { laid = outer-laid b.head (tables_of b.tables) b.s1 c.outer_shape.ensures b.room }

pub returns-clause-value : goal.returns-clause-value
unfolding book_in layer_of
returns-clause-value c = rw c.outer_shape.ensures
