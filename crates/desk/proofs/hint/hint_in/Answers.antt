-- `desk::hint::hint_in` meets its contract. Assumes nothing.
use Rattle.std.proofs.Common.{sym, ◌∙◌}
use Rattle.desk.proofs.LineLaws.{no-line, line-next}
use Rattle.desk.proofs.hint.hint_in.Goals as goal

pub returns-in_default : goal.returns-in_default
returns-in_default c =
    let u = c.args.u in
    rw (c.if-u.false, no-line c.args.input.now u.from u.to c.requires.ordered c.requires.inside (sym c.in_default.is ∙ c.line_end.ensures))

pub returns : goal.returns
returns c =
    let u = c.args.u in
    rw (c.if-u.false, line-next c.args.input.now u.from u.to c.requires.ordered c.requires.inside (sym c.in-Some.is ∙ c.line_end.ensures)) c.hint_for.ensures
