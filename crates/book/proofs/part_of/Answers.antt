-- `book::part_of` meets its contract: the section of a book lies between its start and the next one's. Assumes nothing.
use Rattle.std.proofs.Common.{◌≡◌, ◌≤◌, ◌+◌, true, rules, Err, length, arith}
use Rattle.rules.specs.Bytes.{is_book, start, version_in, head_in}
use Rattle.rules.specs.declared.Denial.TheVariants.{Faulty}
use Rattle.theorems.proofs.WriteLaws.{book-bytes}
use Rattle.book.proofs.Answers.{book-nothing, book-front, start-read, section-within, part-broken, part-none, part-given}
use Rattle.book.proofs.part_of.Goals as goal

pub returns-in_err-first_fault : goal.returns-in_err-first_fault
returns-in_err-first_fault c =
    let k : c.from_residual.result ≡ Err (Faulty c.in_err-first_fault.field-0.0) = search rules in
    rw k (part-broken _ _ c.first_fault.ensures c.in_err-first_fault.was)

pub returns-then-k-ge5 : goal.returns-then-k-ge5
returns-then-k-ge5 c =
    let is : is_book c.args.bytes.now ≡ true = book-nothing _ c.first_fault.ensures c.in_ok-first_fault.was in
    part-none _ _ is (omega arith)

pub version_in-version-requires : goal.version_in-version-requires
version_in-version-requires c =
    let is : is_book c.args.bytes.now ≡ true = book-nothing _ c.first_fault.ensures c.in_ok-first_fault.was in
    (book-bytes _ is).long

pub head_in-h-requires : goal.head_in-h-requires
head_in-h-requires c =
    let is : is_book c.args.bytes.now ≡ true = book-nothing _ c.first_fault.ensures c.in_ok-first_fault.was in
    book-front _ is

pub slice_bounds-result-count : goal.slice_bounds-result-count
slice_bounds-result-count c =
    let is : is_book c.args.bytes.now ≡ true = book-nothing _ c.first_fault.ensures c.in_ok-first_fault.was in
    let from : let bs = c.args.bytes.now in c.start_of-from.result ≡ start (version_in bs) (head_in bs) c.args.k = start-read _ _ c.start_of-from.ensures c.version_in-version.ensures c.head_in-h.ensures in
    let to : let bs = c.args.bytes.now in c.start_of-to.result ≡ start (version_in bs) (head_in bs) (c.args.k + 1) = start-read _ _ c.start_of-to.ensures c.version_in-version.ensures c.head_in-h.ensures in
    let within : (c.start_of-from.result ≤ c.start_of-to.result) × (c.start_of-to.result ≤ length c.args.bytes.now) = section-within _ _ _ _ is from to in
    omega (arith, within)

pub slice_bounds-result-start : goal.slice_bounds-result-start
slice_bounds-result-start c =
    let is : is_book c.args.bytes.now ≡ true = book-nothing _ c.first_fault.ensures c.in_ok-first_fault.was in
    let from : let bs = c.args.bytes.now in c.start_of-from.result ≡ start (version_in bs) (head_in bs) c.args.k = start-read _ _ c.start_of-from.ensures c.version_in-version.ensures c.head_in-h.ensures in
    let to : let bs = c.args.bytes.now in c.start_of-to.result ≡ start (version_in bs) (head_in bs) (c.args.k + 1) = start-read _ _ c.start_of-to.ensures c.version_in-version.ensures c.head_in-h.ensures in
    let within : (c.start_of-from.result ≤ c.start_of-to.result) × (c.start_of-to.result ≤ length c.args.bytes.now) = section-within _ _ _ _ is from to in
    omega (arith, within)

pub slice_bounds-result-end : goal.slice_bounds-result-end
slice_bounds-result-end c =
    let is : is_book c.args.bytes.now ≡ true = book-nothing _ c.first_fault.ensures c.in_ok-first_fault.was in
    let from : let bs = c.args.bytes.now in c.start_of-from.result ≡ start (version_in bs) (head_in bs) c.args.k = start-read _ _ c.start_of-from.ensures c.version_in-version.ensures c.head_in-h.ensures in
    let to : let bs = c.args.bytes.now in c.start_of-to.result ≡ start (version_in bs) (head_in bs) (c.args.k + 1) = start-read _ _ c.start_of-to.ensures c.version_in-version.ensures c.head_in-h.ensures in
    let within : (c.start_of-from.result ≤ c.start_of-to.result) × (c.start_of-to.result ≤ length c.args.bytes.now) = section-within _ _ _ _ is from to in
    omega (arith, within)

pub returns : goal.returns
returns c =
    let is : is_book c.args.bytes.now ≡ true = book-nothing _ c.first_fault.ensures c.in_ok-first_fault.was in
    let from : let bs = c.args.bytes.now in c.start_of-from.result ≡ start (version_in bs) (head_in bs) c.args.k = start-read _ _ c.start_of-from.ensures c.version_in-version.ensures c.head_in-h.ensures in
    let to : let bs = c.args.bytes.now in c.start_of-to.result ≡ start (version_in bs) (head_in bs) (c.args.k + 1) = start-read _ _ c.start_of-to.ensures c.version_in-version.ensures c.head_in-h.ensures in
    let within : (c.start_of-from.result ≤ c.start_of-to.result) × (c.start_of-to.result ≤ length c.args.bytes.now) = section-within _ _ _ _ is from to in
    part-given _ _ _ _ is c.if-k-ge5.false from to
