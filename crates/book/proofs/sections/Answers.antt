-- `book::sections` meets its contract: the parts of the bytes between the sections' starts are the sections. Assumes nothing.
use Rattle.std.proofs.Common.{arith}
use Rattle.book.proofs.Laws.{cuts, sections-cut}
use Rattle.book.proofs.sections.Goals as goal

pub slice_bounds-result-count : goal.slice_bounds-result-count
slice_bounds-result-count c =
    let starts = cuts c.args.version c.args.h _ _ _ _ _ c.start_of-z.ensures c.start_of-a.ensures c.start_of-b.ensures c.start_of-c.ensures c.start_of-d.ensures in
    omega (arith, starts, c.requires.exact)

pub slice_bounds-result-start : goal.slice_bounds-result-start
slice_bounds-result-start c =
    let starts = cuts c.args.version c.args.h _ _ _ _ _ c.start_of-z.ensures c.start_of-a.ensures c.start_of-b.ensures c.start_of-c.ensures c.start_of-d.ensures in
    omega (arith, starts, c.requires.exact)

pub slice_bounds-result-end : goal.slice_bounds-result-end
slice_bounds-result-end c =
    let starts = cuts c.args.version c.args.h _ _ _ _ _ c.start_of-z.ensures c.start_of-a.ensures c.start_of-b.ensures c.start_of-c.ensures c.start_of-d.ensures in
    omega (arith, starts, c.requires.exact)

pub slice_bounds-result-count-2 : goal.slice_bounds-result-count-2
slice_bounds-result-count-2 c =
    let starts = cuts c.args.version c.args.h _ _ _ _ _ c.start_of-z.ensures c.start_of-a.ensures c.start_of-b.ensures c.start_of-c.ensures c.start_of-d.ensures in
    omega (arith, starts, c.requires.exact)

pub slice_bounds-result-start-2 : goal.slice_bounds-result-start-2
slice_bounds-result-start-2 c =
    let starts = cuts c.args.version c.args.h _ _ _ _ _ c.start_of-z.ensures c.start_of-a.ensures c.start_of-b.ensures c.start_of-c.ensures c.start_of-d.ensures in
    omega (arith, starts, c.requires.exact)

pub slice_bounds-result-end-2 : goal.slice_bounds-result-end-2
slice_bounds-result-end-2 c =
    let starts = cuts c.args.version c.args.h _ _ _ _ _ c.start_of-z.ensures c.start_of-a.ensures c.start_of-b.ensures c.start_of-c.ensures c.start_of-d.ensures in
    omega (arith, starts, c.requires.exact)

pub slice_bounds-result-count-3 : goal.slice_bounds-result-count-3
slice_bounds-result-count-3 c =
    let starts = cuts c.args.version c.args.h _ _ _ _ _ c.start_of-z.ensures c.start_of-a.ensures c.start_of-b.ensures c.start_of-c.ensures c.start_of-d.ensures in
    omega (arith, starts, c.requires.exact)

pub slice_bounds-result-start-3 : goal.slice_bounds-result-start-3
slice_bounds-result-start-3 c =
    let starts = cuts c.args.version c.args.h _ _ _ _ _ c.start_of-z.ensures c.start_of-a.ensures c.start_of-b.ensures c.start_of-c.ensures c.start_of-d.ensures in
    omega (arith, starts, c.requires.exact)

pub slice_bounds-result-end-3 : goal.slice_bounds-result-end-3
slice_bounds-result-end-3 c =
    let starts = cuts c.args.version c.args.h _ _ _ _ _ c.start_of-z.ensures c.start_of-a.ensures c.start_of-b.ensures c.start_of-c.ensures c.start_of-d.ensures in
    omega (arith, starts, c.requires.exact)

pub slice_bounds-result-count-4 : goal.slice_bounds-result-count-4
slice_bounds-result-count-4 c =
    let starts = cuts c.args.version c.args.h _ _ _ _ _ c.start_of-z.ensures c.start_of-a.ensures c.start_of-b.ensures c.start_of-c.ensures c.start_of-d.ensures in
    omega (arith, starts, c.requires.exact)

pub slice_bounds-result-start-4 : goal.slice_bounds-result-start-4
slice_bounds-result-start-4 c =
    let starts = cuts c.args.version c.args.h _ _ _ _ _ c.start_of-z.ensures c.start_of-a.ensures c.start_of-b.ensures c.start_of-c.ensures c.start_of-d.ensures in
    omega (arith, starts, c.requires.exact)

pub slice_bounds-result-end-4 : goal.slice_bounds-result-end-4
slice_bounds-result-end-4 c =
    let starts = cuts c.args.version c.args.h _ _ _ _ _ c.start_of-z.ensures c.start_of-a.ensures c.start_of-b.ensures c.start_of-c.ensures c.start_of-d.ensures in
    omega (arith, starts, c.requires.exact)

pub slice_bounds-result-count-5 : goal.slice_bounds-result-count-5
slice_bounds-result-count-5 c =
    let starts = cuts c.args.version c.args.h _ _ _ _ _ c.start_of-z.ensures c.start_of-a.ensures c.start_of-b.ensures c.start_of-c.ensures c.start_of-d.ensures in
    omega (arith, starts, c.requires.exact)

pub slice_bounds-result-start-5 : goal.slice_bounds-result-start-5
slice_bounds-result-start-5 c =
    let starts = cuts c.args.version c.args.h _ _ _ _ _ c.start_of-z.ensures c.start_of-a.ensures c.start_of-b.ensures c.start_of-c.ensures c.start_of-d.ensures in
    omega (arith, starts, c.requires.exact)

pub returns : goal.returns
returns c =
    let starts = cuts c.args.version c.args.h _ _ _ _ _ c.start_of-z.ensures c.start_of-a.ensures c.start_of-b.ensures c.start_of-c.ensures c.start_of-d.ensures in
    sections-cut _ _ _ _ _ _ _ _ c.requires starts
