-- `sound::book::Book::s7` meets its contract: one search.
-- Assumes nothing.
use Rattle.rules.specs.Bytes.{tables_of}
use Rattle.sound.proofs.RulePlaces.{s7-told}
use Rattle.sound.proofs.Required.{inner-vertices, inner-few}
use Rattle.sound.proofs.book.Book.s7.Goals as goal

pub unheld-requires : goal.unheld-requires
unheld-requires c =
    let b = c.args.self.now in
    record {
      bytes_in_bounds = (b.room.resources, inner-vertices b.head (tables_of b.tables) b.s1 c.inner.ensures.shape_value);
      vertices_le_max_vertices = inner-few b.head (tables_of b.tables) b.s1 c.inner.ensures.shape_value;
    }

pub returns : goal.returns
returns c = s7-told _ _ c.row.ensures c.inner.result c.inner.ensures.value c.unheld.ensures
