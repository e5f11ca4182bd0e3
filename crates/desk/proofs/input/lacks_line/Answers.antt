-- `desk::input::lacks_line` meets its contract. Assumes nothing.
use Rattle.std.proofs.Common.{◌≡◌, ◌∙◌, rules}
use Rattle.std.specs.Option.{is_none}
use borrow.Author.Tests.{not-true, not-false}
use Rattle.desk.proofs.PendingLaws.{lacks-ended, lacks-whole}
use Rattle.desk.proofs.input.lacks_line.Goals as goal

pub returns-then-not-u : goal.returns-then-not-u
returns-then-not-u c =
    let none : c.is_none.result ≡ is_none c.line_end.result = search rules in
    none ∙ lacks-whole c.args.u c.args.input.now c.requires (not-true _ c.if-not-u.true) c.line_end.result c.line_end.ensures

pub returns-else-not-u : goal.returns-else-not-u
returns-else-not-u c = c.if-not-u.false ∙ lacks-ended c.args.u c.args.input.now (not-false _ c.if-not-u.false)
