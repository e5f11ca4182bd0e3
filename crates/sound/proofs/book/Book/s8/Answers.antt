-- `sound::book::Book::s8` meets its contract: one search.
-- Assumes nothing.
use Rattle.rules.specs.Bytes.{tables_of}
use Rattle.sound.proofs.RulePlaces.{s8-told}
use Rattle.sound.proofs.Required.{inner-vertices, outer-vertices, inner-few}
use Rattle.sound.proofs.book.Book.s8.Goals as goal

pub unlocked-requires : goal.unlocked-requires
unlocked-requires c =
    let b = c.args.self.now in
    let t = tables_of b.tables in
    record {
      bytes_in_bounds = (b.room.resources, inner-vertices b.head t b.s1 c.inner.ensures.shape_value, outer-vertices b.head t b.s1);
      vertices_le_max_vertices = inner-few b.head t b.s1 c.inner.ensures.shape_value;
      bytes_in_bounds_2 = b.room.outer_vertices;
    }

pub returns : goal.returns
returns c = s8-told _ _ c.row.ensures c.inner.result c.inner.ensures.value c.unlocked.ensures
