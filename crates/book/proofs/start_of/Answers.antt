-- `book::start_of` meets its contract. The invariant: `at` is where section `i` starts. Assumes nothing.
use Rattle.std.proofs.Common.{ℕ, ◌≡◌, ◌+◌, ◌*◌, ◌<◌, sym, get_or, add-one, arith}
use Rattle.sets.specs.Words.{bytes}
use Rattle.rules.specs.Bytes.{widths, counts, total, start}
use Rattle.rules.specs.declared.Head.{Head}
use Rattle.theorems.proofs.WriteLaws.{start-next, start-le}
use Rattle.book.proofs.Laws.{fore-within}
use Rattle.book.proofs.start_of.Goals as goal

-- where a turn leaves `at`
turn : (v : ℕ) (h : Head) (i : ℕ) {at : ℕ} → at ≡ start v h i → at + get_or (counts h) i 0 * get_or widths i 0 ≡ start v h (i + 1)
turn v h i e = rw (e, add-one) (sym (start-next v h i))

pub loop-i-init : goal.loop-i-init
unfolding start total
loop-i-init c = omega (arith, c.fore-at.ensures)

pub overflow_mul-at : goal.overflow_mul-at
overflow_mul-at c =
    let small : start c.args.version c.args.h 5 < 65536 * (3 * bytes + 13) = unfold start in unfold total in unfold counts in omega (arith, c.well_formed.1.0, fore-within c.args.version) in
    let next : c.loop-i.at + get_or c.counts-counts.result c.loop-i.i 0 * get_or widths c.loop-i.i 0 ≡ start c.args.version c.args.h (c.loop-i.i + 1) = rw c.counts-counts.ensures (turn _ _ _ c.loop-i.invariant) in
    omega (arith, next, start-le c.args.version c.args.h (c.loop-i.i + 1), small)

pub overflow_add-at : goal.overflow_add-at
overflow_add-at c =
    let small : start c.args.version c.args.h 5 < 65536 * (3 * bytes + 13) = unfold start in unfold total in unfold counts in omega (arith, c.well_formed.1.0, fore-within c.args.version) in
    let next : c.loop-i.at + get_or c.counts-counts.result c.loop-i.i 0 * get_or widths c.loop-i.i 0 ≡ start c.args.version c.args.h (c.loop-i.i + 1) = rw c.counts-counts.ensures (turn _ _ _ c.loop-i.invariant) in
    omega (arith, next, start-le c.args.version c.args.h (c.loop-i.i + 1), small)

pub loop-i-preserved : goal.loop-i-preserved
loop-i-preserved c =
    let next : c.loop-i.at + get_or c.counts-counts.result c.loop-i.i 0 * get_or widths c.loop-i.i 0 ≡ start c.args.version c.args.h (c.loop-i.i + 1) = rw c.counts-counts.ensures (turn _ _ _ c.loop-i.invariant) in
    next
