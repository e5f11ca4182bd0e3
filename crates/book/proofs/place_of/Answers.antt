-- `book::place_of` meets its contract. Assumes nothing.
use Prim.Native.Nat.{ℕ, ◌+◌, ◌*◌, ◌≤◌, ◌<◌}
use native.Mathlib.Omega.{arith}
use lib.ListN.{get_or}
use Rattle.sets.specs.Words.{bytes}
use Rattle.rules.specs.Bytes.{widths, counts, total, start}
use Rattle.book.proofs.Laws.{fore-within}
use Rattle.book.proofs.Answers.{row-counted, row-within-book, row-place, leavers-place, missing-place}
use Rattle.book.proofs.place_of.Goals as goal

pub start_of-requires : goal.start_of-requires
start_of-requires c =
    let row : ℕ × ℕ = (c.in-Row.k, c.in-Row.i) in
    let there : (row.0 < 5) × (row.1 < get_or (counts c.args.h) row.0 0) = row-counted _ c.in-Row.is c.requires in
    omega (arith, there)

pub offset_bounds-k : goal.offset_bounds-k
offset_bounds-k c =
    let row : ℕ × ℕ = (c.in-Row.k, c.in-Row.i) in
    let there : (row.0 < 5) × (row.1 < get_or (counts c.args.h) row.0 0) = row-counted _ c.in-Row.is c.requires in
    omega (arith, there)

pub overflow_mul-result : goal.overflow_mul-result
overflow_mul-result c =
    let small : start c.args.version c.args.h 5 < 65536 * (3 * bytes + 13) = unfold start in unfold total in unfold counts in omega (arith, c.well_formed.1.0, fore-within c.args.version) in
    let row : ℕ × ℕ = (c.in-Row.k, c.in-Row.i) in
    let there : (row.0 < 5) × (row.1 < get_or (counts c.args.h) row.0 0) = row-counted _ c.in-Row.is c.requires in
    let within : let a = c.args in
    start a.version a.h row.0 + row.1 * get_or widths row.0 0 ≤ start a.version a.h 5 = row-within-book _ _ _ _ there.0 there.1 in
    omega (arith, within, small)

pub overflow_add-result : goal.overflow_add-result
overflow_add-result c =
    let small : start c.args.version c.args.h 5 < 65536 * (3 * bytes + 13) = unfold start in unfold total in unfold counts in omega (arith, c.well_formed.1.0, fore-within c.args.version) in
    let row : ℕ × ℕ = (c.in-Row.k, c.in-Row.i) in
    let there : (row.0 < 5) × (row.1 < get_or (counts c.args.h) row.0 0) = row-counted _ c.in-Row.is c.requires in
    let within : let a = c.args in
    start a.version a.h row.0 + row.1 * get_or widths row.0 0 ≤ start a.version a.h 5 = row-within-book _ _ _ _ there.0 there.1 in
    omega (arith, c.start_of.ensures, within, small)

pub returns-in-Row : goal.returns-in-Row
returns-in-Row c = row-place _ _ c.in-Row.is c.start_of.ensures

pub returns-in-Leavers : goal.returns-in-Leavers
returns-in-Leavers c = leavers-place _ _ c.in-Leavers.is

pub returns-in-Missing : goal.returns-in-Missing
returns-in-Missing c = missing-place _ _ c.in-Missing.is
