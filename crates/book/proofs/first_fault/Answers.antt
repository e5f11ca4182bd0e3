-- `book::first_fault` meets its contract: one test after the other, and each way out is a law. Assumes nothing.
use Rattle.std.proofs.Common.{◌≡◌, ◌≤◌, sym, ap, ◌∙◌, true, not, length, arith}
use mathlib.Core.Option.{none}
use Rattle.rows.specs.Number.{cell}
use Rattle.rules.specs.Bytes.{Bytes, bad_count, head_in, known, version_in}
use Rattle.sound.specs.Check.{unless}
use Rattle.sound.proofs.Answers.{yes}
use Rattle.theorems.proofs.FaultSteps.{fault-short, fault-mark, fault-version, fault-mode, fault-count, fault-length, fault-rules}
use Rattle.book.specs.Ready.{Judgeable}
use Rattle.book.proofs.Laws.{count_left, whole-exact}
use Rattle.book.proofs.Answers.{no, mark-there, mark-missing, mode-read, count-found, count_none, none-is, front-there, start-header, judgeable, by-rules}
use Rattle.book.proofs.first_fault.Goals as goal

pub returns-then-bytes-lt-HEADER : goal.returns-then-bytes-lt-HEADER
returns-then-bytes-lt-HEADER c = ap unless (sym (fault-short _ c.if-bytes-lt-HEADER.true))

pub returns-then-not-starts_with : goal.returns-then-not-starts_with
returns-then-not-starts_with c =
    let bs = c.args.bytes.now in
    let long : 17 ≤ length bs = c.if-bytes-lt-HEADER.false in
    let byte : Bytes bs = λ i. (c.type_inv.bytes i).fits in
    ap unless (sym (fault-mark bs long (mark-missing bs byte long c.starts_with.ensures.value (ap not c.if-not-starts_with.true))))

pub returns-then-not-known : goal.returns-then-not-known
returns-then-not-known c =
    let bs = c.args.bytes.now in
    let long : 17 ≤ length bs = c.if-bytes-lt-HEADER.false in
    let byte : Bytes bs = λ i. (c.type_inv.bytes i).fits in
    let mark : cell 3 0 bs ≡ 0x424B54 = mark-there bs byte long c.starts_with.ensures.value (ap not c.if-not-starts_with.false) in
    ap unless (sym (fault-version _ long mark (ap known (sym c.version_in-version.ensures) ∙ no c.known.ensures (ap not c.if-not-known.true))))

pub returns-then-h-gt1 : goal.returns-then-h-gt1
returns-then-h-gt1 c =
    let bs = c.args.bytes.now in
    let long : 17 ≤ length bs = c.if-bytes-lt-HEADER.false in
    let byte : Bytes bs = λ i. (c.type_inv.bytes i).fits in
    let mark : cell 3 0 bs ≡ 0x424B54 = mark-there bs byte long c.starts_with.ensures.value (ap not c.if-not-starts_with.false) in
    let version : known (version_in bs) ≡ true = ap known (sym c.version_in-version.ensures) ∙ yes c.known.ensures (ap not c.if-not-known.false) in
    ap unless (sym (fault-mode _ long mark version (omega (arith, c.if-h-gt1.true, mode-read _ _ c.header_in-h.ensures))))

pub offset_bounds-i : goal.offset_bounds-i
offset_bounds-i c = omega (arith, count-found _ c.bad_count.ensures c.in-Some.is)

pub returns-in-Some : goal.returns-in-Some
returns-in-Some c =
    let bs = c.args.bytes.now in
    let long : 17 ≤ length bs = c.if-bytes-lt-HEADER.false in
    let byte : Bytes bs = λ i. (c.type_inv.bytes i).fits in
    let mark : cell 3 0 bs ≡ 0x424B54 = mark-there bs byte long c.starts_with.ensures.value (ap not c.if-not-starts_with.false) in
    let version : known (version_in bs) ≡ true = ap known (sym c.version_in-version.ensures) ∙ yes c.known.ensures (ap not c.if-not-known.false) in
    let mode : cell 1 5 bs ≤ 1 = omega (arith, c.if-h-gt1.false, mode-read _ _ c.header_in-h.ensures) in
    let count = (count-found _ c.bad_count.ensures c.in-Some.is).1 in
    ap unless (sym (fault-count _ long mark version mode (sym (ap bad_count c.header_in-h.ensures ∙ count_left _ _) ∙ count)))

pub returns-then-bytes-start_of : goal.returns-then-bytes-start_of
returns-then-bytes-start_of c =
    let bs = c.args.bytes.now in
    let long : 17 ≤ length bs = c.if-bytes-lt-HEADER.false in
    let byte : Bytes bs = λ i. (c.type_inv.bytes i).fits in
    let mark : cell 3 0 bs ≡ 0x424B54 = mark-there bs byte long c.starts_with.ensures.value (ap not c.if-not-starts_with.false) in
    let version : known (version_in bs) ≡ true = ap known (sym c.version_in-version.ensures) ∙ yes c.known.ensures (ap not c.if-not-known.false) in
    let mode : cell 1 5 bs ≤ 1 = omega (arith, c.if-h-gt1.false, mode-read _ _ c.header_in-h.ensures) in
    let none-past : bad_count (head_in bs) ≡ none = sym (ap bad_count c.header_in-h.ensures ∙ count_left _ _) ∙ count_none _ c.bad_count.ensures (none-is _ c.in_default.not-Some) in
    ap unless
    (sym
    (fault-length _ long mark version mode none-past
    (λ x. c.if-bytes-start_of.true (x ∙ sym (start-header _ _ 5 c.start_of.ensures c.version_in-version.ensures c.header_in-h.ensures)))))

pub head_in-requires : goal.head_in-requires
head_in-requires c =
    front-there _ c.header_in-h.result c.version_in-version.ensures (omega (arith, c.if-bytes-start_of, c.start_of.ensures))

pub rule_fault-requires : goal.rule_fault-requires
rule_fault-requires c =
    let bs = c.args.bytes.now in
    let long : 17 ≤ length bs = c.if-bytes-lt-HEADER.false in
    let byte : Bytes bs = λ i. (c.type_inv.bytes i).fits in
    let judged-next : Judgeable bs c.version_in-version.result c.head_in.result = judgeable _ _ _ _ _ c.version_in-version.ensures c.header_in-h.ensures c.head_in.ensures c.if-h-gt1.false c.bad_count.ensures (none-is _ c.in_default.not-Some) (omega (arith, c.if-bytes-start_of, c.start_of.ensures)) in
    judged-next

pub returns : goal.returns
returns c =
    let bs = c.args.bytes.now in
    let long : 17 ≤ length bs = c.if-bytes-lt-HEADER.false in
    let byte : Bytes bs = λ i. (c.type_inv.bytes i).fits in
    let mark : cell 3 0 bs ≡ 0x424B54 = mark-there bs byte long c.starts_with.ensures.value (ap not c.if-not-starts_with.false) in
    let version : known (version_in bs) ≡ true = ap known (sym c.version_in-version.ensures) ∙ yes c.known.ensures (ap not c.if-not-known.false) in
    let mode : cell 1 5 bs ≤ 1 = omega (arith, c.if-h-gt1.false, mode-read _ _ c.header_in-h.ensures) in
    let none-past : bad_count (head_in bs) ≡ none = sym (ap bad_count c.header_in-h.ensures ∙ count_left _ _) ∙ count_none _ c.bad_count.ensures (none-is _ c.in_default.not-Some) in
    let judged-next : Judgeable bs c.version_in-version.result c.head_in.result = judgeable _ _ _ _ _ c.version_in-version.ensures c.header_in-h.ensures c.head_in.ensures c.if-h-gt1.false c.bad_count.ensures (none-is _ c.in_default.not-Some) (omega (arith, c.if-bytes-start_of, c.start_of.ensures)) in
    by-rules _ _ _ judged-next (fault-rules _ long mark version mode none-past (whole-exact _ _ _ judged-next.whole)) c.rule_fault.ensures
