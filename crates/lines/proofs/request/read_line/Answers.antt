-- `lines::request::read_line` meets its contract. Assumes nothing.
use Rattle.std.proofs.Common.{ℕ, Option, take, sym, ap, ◌∙◌, arith}
use Rattle.lines.specs.Request.{row_of}
use Rattle.lines.specs.Reading.{got, kind_told}
use Rattle.lines.proofs.Rows.{too-long, rest-starts, line-nothing, line-bad, line-good}
use Rattle.lines.proofs.request.read_line.Goals as goal

pub returns-then-line-gt512 : goal.returns-then-line-gt512
returns-then-line-gt512 c = sym (too-long c.args.line.now (omega arith))

pub returns-in_err-kind : goal.returns-in_err-kind
returns-in_err-kind c =
    let end = c.word_end-k in
    c.from_residual.ensures
    ∙ sym (line-nothing c.args.line.now end.result (omega arith) end.ensures.value (sym c.kind_of.ensures ∙ ap kind_told c.in_err-kind.was))

pub read_numbers-requires-clause-rest : goal.read_numbers-requires-clause-rest
read_numbers-requires-clause-rest c =
    let end = c.word_end-k in
    rest-starts c.args.line.now end.result (omega arith) end.ensures.value

pub returns-in_err-count : goal.returns-in_err-count
returns-in_err-count c =
    let end = c.word_end-k in
    let numbers = c.read_numbers in
    c.from_residual-in_err-count.ensures
    ∙ sym (line-bad c.args.line.now end.result (omega arith) end.ensures.value
    (sym numbers.ensures.numbers_after ∙ ap (λ (r : Option ℕ). got r numbers.new.numbers) c.in_err-count.was))

pub returns : goal.returns
returns c =
    let end = c.word_end-k in
    let numbers = c.read_numbers in
    let read = take c.in_ok-count.count numbers.new.numbers in
    c.row_of.ensures
    ∙ sym (line-good c.args.line.now end.result (omega arith) end.ensures.value read
    (sym numbers.ensures.numbers_after ∙ ap (λ (r : Option ℕ). got r numbers.new.numbers) c.in_ok-count.was)
    ∙ ap (λ (k : ℕ). row_of k read) (sym c.kind_of.ensures ∙ ap kind_told c.in_ok-kind.was))
