-- `book::save` meets its contract. Assumes nothing.
use Rattle.std.proofs.Common.{arith, length-take}
use Rattle.rules.specs.Bytes.{newest, start, fore, tables_of}
use Rattle.theorems.proofs.ByteLaws.{TableBytes}
use Rattle.book.proofs.Laws.{cuts, saved}
use Rattle.book.proofs.save.Goals as goal

pub put_front-requires : goal.put_front-requires
unfolding start fore
put_front-requires c = omega (arith, c.requires)

pub slice_bounds-put-count : goal.slice_bounds-put-count
slice_bounds-put-count c =
    let starts = cuts newest c.args.h _ _ _ _ _ c.start_of-z.ensures c.start_of-a.ensures c.start_of-b.ensures c.start_of-c.ensures c.start_of-d.ensures in
    omega (arith, starts)

pub slice_bounds-put-length : goal.slice_bounds-put-length
slice_bounds-put-length c =
    let starts = cuts newest c.args.h _ _ _ _ _ c.start_of-z.ensures c.start_of-a.ensures c.start_of-b.ensures c.start_of-c.ensures c.start_of-d.ensures in
    simp length-take (omega (arith, starts, c.requires))

pub put-requires : goal.put-requires
put-requires c =
    let starts = cuts newest c.args.h _ _ _ _ _ c.start_of-z.ensures c.start_of-a.ensures c.start_of-b.ensures c.start_of-c.ensures c.start_of-d.ensures in
    simp length-take (omega (arith, starts, c.requires))

pub slice_bounds-put-count-2 : goal.slice_bounds-put-count-2
slice_bounds-put-count-2 c =
    let starts = cuts newest c.args.h _ _ _ _ _ c.start_of-z.ensures c.start_of-a.ensures c.start_of-b.ensures c.start_of-c.ensures c.start_of-d.ensures in
    omega (arith, starts)

pub slice_bounds-put-length-2 : goal.slice_bounds-put-length-2
slice_bounds-put-length-2 c =
    let starts = cuts newest c.args.h _ _ _ _ _ c.start_of-z.ensures c.start_of-a.ensures c.start_of-b.ensures c.start_of-c.ensures c.start_of-d.ensures in
    simp length-take (omega (arith, starts, c.requires))

pub put-requires-2 : goal.put-requires-2
put-requires-2 c =
    let starts = cuts newest c.args.h _ _ _ _ _ c.start_of-z.ensures c.start_of-a.ensures c.start_of-b.ensures c.start_of-c.ensures c.start_of-d.ensures in
    simp length-take (omega (arith, starts, c.requires))

pub slice_bounds-put-count-3 : goal.slice_bounds-put-count-3
slice_bounds-put-count-3 c =
    let starts = cuts newest c.args.h _ _ _ _ _ c.start_of-z.ensures c.start_of-a.ensures c.start_of-b.ensures c.start_of-c.ensures c.start_of-d.ensures in
    omega (arith, starts)

pub slice_bounds-put-length-3 : goal.slice_bounds-put-length-3
slice_bounds-put-length-3 c =
    let starts = cuts newest c.args.h _ _ _ _ _ c.start_of-z.ensures c.start_of-a.ensures c.start_of-b.ensures c.start_of-c.ensures c.start_of-d.ensures in
    simp length-take (omega (arith, starts, c.requires))

pub put-requires-3 : goal.put-requires-3
put-requires-3 c =
    let starts = cuts newest c.args.h _ _ _ _ _ c.start_of-z.ensures c.start_of-a.ensures c.start_of-b.ensures c.start_of-c.ensures c.start_of-d.ensures in
    simp length-take (omega (arith, starts, c.requires))

pub slice_bounds-put-count-4 : goal.slice_bounds-put-count-4
slice_bounds-put-count-4 c =
    let starts = cuts newest c.args.h _ _ _ _ _ c.start_of-z.ensures c.start_of-a.ensures c.start_of-b.ensures c.start_of-c.ensures c.start_of-d.ensures in
    omega (arith, starts)

pub slice_bounds-put-length-4 : goal.slice_bounds-put-length-4
slice_bounds-put-length-4 c =
    let starts = cuts newest c.args.h _ _ _ _ _ c.start_of-z.ensures c.start_of-a.ensures c.start_of-b.ensures c.start_of-c.ensures c.start_of-d.ensures in
    simp length-take (omega (arith, starts, c.requires))

pub put-requires-4 : goal.put-requires-4
put-requires-4 c =
    let starts = cuts newest c.args.h _ _ _ _ _ c.start_of-z.ensures c.start_of-a.ensures c.start_of-b.ensures c.start_of-c.ensures c.start_of-d.ensures in
    simp length-take (omega (arith, starts, c.requires))

pub slice_bounds-put-count-5 : goal.slice_bounds-put-count-5
slice_bounds-put-count-5 c =
    let starts = cuts newest c.args.h _ _ _ _ _ c.start_of-z.ensures c.start_of-a.ensures c.start_of-b.ensures c.start_of-c.ensures c.start_of-d.ensures in
    omega (arith, starts, c.start_of-end.ensures)

pub slice_bounds-put-length-5 : goal.slice_bounds-put-length-5
slice_bounds-put-length-5 c =
    let starts = cuts newest c.args.h _ _ _ _ _ c.start_of-z.ensures c.start_of-a.ensures c.start_of-b.ensures c.start_of-c.ensures c.start_of-d.ensures in
    simp length-take (omega (arith, starts, c.requires, c.start_of-end.ensures))

pub put-requires-5 : goal.put-requires-5
put-requires-5 c =
    let starts = cuts newest c.args.h _ _ _ _ _ c.start_of-z.ensures c.start_of-a.ensures c.start_of-b.ensures c.start_of-c.ensures c.start_of-d.ensures in
    simp length-take (omega (arith, starts, c.requires, c.start_of-end.ensures))

pub returns : goal.returns
returns c =
    let starts = cuts newest c.args.h _ _ _ _ _ c.start_of-z.ensures c.start_of-a.ensures c.start_of-b.ensures c.start_of-c.ensures c.start_of-d.ensures in
    let t = tables_of c.args.t.now in
    let byte : TableBytes t = record {
      inner_vertices = c.is_bytes.ensures;
      inner_tokens = c.is_bytes-2.ensures;
      outer_vertices = c.is_bytes-3.ensures;
      outer_tokens = c.is_bytes-4.ensures;
      resources = c.is_bytes-5.ensures;
    } in
    saved c.args.h t c.args.buffer.now _ _ _ _ _ _ _ _ _ _ _ c.start_of-end.result c.requires byte starts c.start_of-end.ensures
    c.put_front.ensures c.put.ensures c.put-2.ensures c.put-3.ensures c.put-4.ensures c.put-5.ensures
