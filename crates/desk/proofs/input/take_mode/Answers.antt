-- `desk::input::take_mode` meets its contract. Assumes nothing.
use Rattle.std.proofs.Common.{◌+◌, sym, ap, ◌∙◌, arith}
use Rattle.desk.specs.Input.{taking}
use Rattle.desk.proofs.Laws.{moded}
use Rattle.desk.proofs.LineLaws.{no-line, line-next, line-length, mode-cut, mode-none, mode_of}
use Rattle.desk.proofs.input.take_mode.Goals as goal

pub returns-then-u-clause-value : goal.returns-then-u-clause-value
returns-then-u-clause-value c = mode-cut c.args.u c.if-u.true _

pub returns-in_err-end-clause-value : goal.returns-in_err-end-clause-value
returns-in_err-end-clause-value c =
    let u = c.args.u in
    c.from_residual.ensures
    ∙ mode-none u c.if-u.false (no-line c.args.input.now u.from u.to c.requires.ordered c.requires.inside (sym c.in_err-end.was ∙ c.line_end.ensures))

pub returns-in_err-read_mode-clause-value : goal.returns-in_err-read_mode-clause-value
returns-in_err-read_mode-clause-value c =
    let u = c.args.u in
    let input = c.args.input.now in
    let e = sym c.in_ok-end.was ∙ c.line_end.ensures in
    c.from_residual-in_err-read_mode.ensures
    ∙ ap (taking u (u.from + c.in_ok-end.field-0 + 1)) (sym c.in_err-read_mode.was)
    ∙ mode_of u c.if-u.false (line-next input u.from u.to c.requires.ordered c.requires.inside e) c.read_mode.ensures
    (omega (arith, line-length input u.from u.to c.requires.ordered c.requires.inside e))

pub returns-clause-moded : goal.returns-clause-moded
returns-clause-moded c = moded _ c.read_mode.ensures c.in_ok-read_mode.was

pub returns-clause-value : goal.returns-clause-value
returns-clause-value c =
    let u = c.args.u in
    let input = c.args.input.now in
    let e = sym c.in_ok-end.was ∙ c.line_end.ensures in
    ap (taking u (u.from + c.in_ok-end.field-0 + 1)) (sym c.in_ok-read_mode.was)
    ∙ mode_of u c.if-u.false (line-next input u.from u.to c.requires.ordered c.requires.inside e) c.read_mode.ensures
    (omega (arith, line-length input u.from u.to c.requires.ordered c.requires.inside e))
