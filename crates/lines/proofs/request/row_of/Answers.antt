-- `lines::request::row_of` meets its contract. Assumes nothing.
use Rattle.std.proofs.Common.{◌∙◌}
use Rattle.lines.specs.Request.{row_of}
use Rattle.lines.proofs.Rows.{row-pair}
use Rattle.lines.proofs.request.row_of.Goals as goal

pub returns-in-Join : goal.returns-in-Join
unfolding row_of
returns-in-Join c = c.exactly.ensures ∙ rw c.in-Join.is

pub returns-in-Insert : goal.returns-in-Insert
unfolding row_of
returns-in-Insert c = c.insert_of.ensures ∙ rw c.in-Insert.is

pub returns-in-Grant : goal.returns-in-Grant
returns-in-Grant c = c.exactly-in-Grant.ensures ∙ row-pair c.args.kind c.args.numbers.now c.in-Grant.is

pub returns-in-Leave : goal.returns-in-Leave
unfolding row_of
returns-in-Leave c = c.exactly-in-Leave.ensures ∙ rw c.in-Leave.is
