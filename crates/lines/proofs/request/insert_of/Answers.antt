-- `lines::request::insert_of` meets its contract. Assumes nothing.
use Rattle.std.proofs.Common.{sym, ◌∙◌}
use Rattle.lines.specs.Request.{insert_of}
use Rattle.lines.proofs.request.insert_of.Goals as goal

pub returns-then-repeats : goal.returns-then-repeats
unfolding insert_of
returns-then-repeats c = rw (sym c.repeats.ensures ∙ c.if-repeats.true)

pub returns : goal.returns
unfolding insert_of
returns c = rw (sym c.repeats.ensures ∙ c.if-repeats.false, c.number.ensures, c.users_of.ensures, c.above_of.ensures)
