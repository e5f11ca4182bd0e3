-- `fenstubble_section` meets its contract: a start is asked only of a book that has the section. Assumes nothing.
use native.Mathlib.Omega.{arith}
use mathlib.Core.Path.{◌≡◌}
use mathlib.Core.Bool.{true}
use Prim.Native.Nat.{◌<◌}
use Rattle.rules.specs.Bytes.{is_book}
use Rattle.theorems.proofs.WriteLaws.{book-bytes}
use Rattle.book.proofs.Answers.{start-read, book-front}
use Rattle.host.proofs.Laws.{section-passed, section-given, section-refused}
use Rattle.host.proofs.fenstubble_section.Goals as goal

pub version_in-requires : goal.version_in-requires
version_in-requires c =
    let passed : (is_book c.args.bytes.now ≡ true) × (c.args.k < 5) = section-passed _ _ c.section-n.ensures c.if-cell-ne0.false in
    (book-bytes _ passed.0).long

pub head_in-requires : goal.head_in-requires
head_in-requires c =
    let passed : (is_book c.args.bytes.now ≡ true) × (c.args.k < 5) = section-passed _ _ c.section-n.ensures c.if-cell-ne0.false in
    book-front _ passed.0

pub start_of-requires : goal.start_of-requires
start_of-requires c =
    let passed : (is_book c.args.bytes.now ≡ true) × (c.args.k < 5) = section-passed _ _ c.section-n.ensures c.if-cell-ne0.false in
    omega (arith, passed.1)

pub returns-then-cell-ne0 : goal.returns-then-cell-ne0
returns-then-cell-ne0 c = section-refused _ _ _ _ c.section-n.ensures c.if-cell-ne0.true

pub returns : goal.returns
returns c =
    section-given _ _ _ _ c.section-n.ensures c.if-cell-ne0.false
    (start-read _ _ c.start_of.ensures c.version_in.ensures c.head_in.ensures)
