-- `book::write` meets its contract: the tables hold a sound book and the buffer has room before anything is put. Assumes nothing.
use Rattle.std.proofs.Common.{◌≡◌, rules, true, false, Err, arith}
use Rattle.rules.specs.Bytes.{tables_of, book_in}
use Rattle.rules.specs.Sound.{sound}
use Rattle.rules.specs.Refusals.{short}
use Rattle.book.proofs.Answers.{checked-sound, checked-no, savable, write-refused, write-short, write-given}
use Rattle.book.proofs.write.Goals as goal

pub returns-in_err-check : goal.returns-in_err-check
returns-in_err-check c =
    let k : c.from_residual.result ≡ Err c.in_err-check.field-0.0 = search rules in
    rw k (write-refused _ _ _ _ (checked-no _ _ c.in_err-check.was c.check.ensures))

pub returns-then-buffer-end : goal.returns-then-buffer-end
returns-then-buffer-end c =
    let lent = tables_of c.args.t.now in
    let passed : (short lent ≡ false) × (sound (book_in c.args.h lent) ≡ true) = checked-sound _ _ c.in_ok-check.was c.check.ensures in
    write-short _ _ _ passed.0 passed.1 (omega (arith, c.start_of-end.ensures))

pub save-requires : goal.save-requires
save-requires c =
    let lent = tables_of c.args.t.now in
    let passed : (short lent ≡ false) × (sound (book_in c.args.h lent) ≡ true) = checked-sound _ _ c.in_ok-check.was c.check.ensures in
    savable _ _ _ passed.0 passed.1 (omega (arith, c.start_of-end.ensures))

pub returns : goal.returns
returns c =
    let lent = tables_of c.args.t.now in
    let passed : (short lent ≡ false) × (sound (book_in c.args.h lent) ≡ true) = checked-sound _ _ c.in_ok-check.was c.check.ensures in
    write-given _ _ _ _ _ passed.0 passed.1 (omega (arith, c.start_of-end.ensures, c.if-buffer-end.false)) c.start_of-end.ensures c.save.ensures
