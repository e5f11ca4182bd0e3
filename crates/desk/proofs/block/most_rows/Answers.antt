-- `desk::block::most_rows` meets its contract. Assumes nothing.
use Rattle.std.proofs.Common.{sym, arith}
use Rattle.desk.specs.Block.{most_of}
use Rattle.desk.proofs.Laws.{most_other}
use Rattle.desk.proofs.block.most_rows.Goals as goal

pub returns-in-Ok-Join : goal.returns-in-Ok-Join
unfolding most_of
returns-in-Ok-Join c = rw (← c.in-Ok-Join.ensures, c.in-Ok-Join.field-0-is)

pub returns-in-Ok-Insert : goal.returns-in-Ok-Insert
unfolding most_of
returns-in-Ok-Insert c = rw (← c.in-Ok-Insert.ensures, c.in-Ok-Insert.field-0-is)

pub returns-in-Ok-Grant : goal.returns-in-Ok-Grant
unfolding most_of
returns-in-Ok-Grant c = rw (← c.in-Ok-Grant.ensures, c.in-Ok-Grant.field-0-is)

pub returns-in-Ok-Revoke : goal.returns-in-Ok-Revoke
unfolding most_of
returns-in-Ok-Revoke c = rw (← c.in-Ok-Revoke.ensures, c.in-Ok-Revoke.field-0-is)

pub returns-in-Ok-Open : goal.returns-in-Ok-Open
unfolding most_of
returns-in-Ok-Open c = rw (← c.in-Ok-Open.ensures, c.in-Ok-Open.field-0-is)

pub returns-in-Ok-Leave : goal.returns-in-Ok-Leave
unfolding most_of
returns-in-Ok-Leave c = rw (← c.in-Ok-Leave.ensures, c.in-Ok-Leave.field-0-is)

pub returns-in-Err : goal.returns-in-Err
returns-in-Err c = sym (most_other c.args.kind (omega (arith, c.in-Err.ensures)))
