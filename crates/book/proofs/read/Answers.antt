-- `book::read` meets its contract: the tables are long enough and the bytes are a book before anything is laid. Assumes nothing.
use Rattle.std.proofs.Common.{◌≡◌, ◌∙◌, ap, true, false, not, rules, Err}
use borrow.Author.Tests.{not-true, not-false}
use Rattle.rules.specs.Bytes.{Tables, tables_mut, is_book}
use Rattle.rules.specs.Refusals.{short}
use Rattle.rules.specs.declared.Denial.TheVariants.{Faulty}
use Rattle.sound.proofs.Answers.{yes}
use Rattle.theorems.proofs.WriteLaws.{book-bytes}
use Rattle.book.proofs.Answers.{no, book-nothing, book-front, loadable, read_short, read-broken, read-given}
use Rattle.book.proofs.read.Goals as goal

pub returns-then-not-long_enough-clause-value : goal.returns-then-not-long_enough-clause-value
returns-then-not-long_enough-clause-value c = read_short _ _ (not-false _ (no (c.long_enough.ensures ∙ ap (λ (t : Tables). not (short t)) c.read.ensures) (ap not c.if-not-long_enough.true)))

pub returns-in_err-first_fault-clause-value : goal.returns-in_err-first_fault-clause-value
returns-in_err-first_fault-clause-value c =
    let lent = tables_mut c.args.t.now in
    let long : short lent ≡ false = not-true _ (yes (c.long_enough.ensures ∙ ap (λ (t : Tables). not (short t)) c.read.ensures) (ap not c.if-not-long_enough.false)) in
    let k : c.from_residual.result ≡ Err (Faulty c.in_err-first_fault.field-0.0) = search rules in
    rw k (read-broken _ _ long c.first_fault.ensures c.in_err-first_fault.was)

pub head_in-h-requires : goal.head_in-h-requires
head_in-h-requires c =
    let is : is_book c.args.bytes.now ≡ true = book-nothing _ c.first_fault.ensures c.in_ok-first_fault.was in
    book-front _ is

pub version_in-requires : goal.version_in-requires
version_in-requires c =
    let is : is_book c.args.bytes.now ≡ true = book-nothing _ c.first_fault.ensures c.in_ok-first_fault.was in
    (book-bytes _ is).long

pub load-requires : goal.load-requires
load-requires c =
    let lent = tables_mut c.args.t.now in
    let long : short lent ≡ false = not-true _ (yes (c.long_enough.ensures ∙ ap (λ (t : Tables). not (short t)) c.read.ensures) (ap not c.if-not-long_enough.false)) in
    let is : is_book c.args.bytes.now ≡ true = book-nothing _ c.first_fault.ensures c.in_ok-first_fault.was in
    loadable _ _ _ _ c.version_in.ensures c.head_in-h.ensures long is

pub returns-clause-value : goal.returns-clause-value
returns-clause-value c =
    let lent = tables_mut c.args.t.now in
    let long : short lent ≡ false = not-true _ (yes (c.long_enough.ensures ∙ ap (λ (t : Tables). not (short t)) c.read.ensures) (ap not c.if-not-long_enough.false)) in
    let is : is_book c.args.bytes.now ≡ true = book-nothing _ c.first_fault.ensures c.in_ok-first_fault.was in
    read-given _ _ _ _ long is c.head_in-h.ensures c.load.ensures.value
