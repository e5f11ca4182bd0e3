-- `inspect::words::limit_at` meets its contract. Assumes nothing.
use Rattle.inspect.proofs.TextLaws.{limit-none}
use Rattle.rules.specs.Bytes.{limits_of}
use Rattle.rules.specs.Sound.{count_limits}
use Rattle.rules.specs.Lists.{first}
use Rattle.inspect.specs.Text.{limit_at}
use native.Mathlib.Omega.{arith}
use Rattle.inspect.proofs.words.limit_at.Goals as goal

pub returns-in-6 : goal.returns-in-6
unfolding limit_at limits_of count_limits first
returns-in-6 c = rw c.in-6.is

pub returns-in-7 : goal.returns-in-7
unfolding limit_at limits_of count_limits first
returns-in-7 c = rw c.in-7.is

pub returns-in-9 : goal.returns-in-9
unfolding limit_at limits_of count_limits first
returns-in-9 c = rw c.in-9.is

pub returns-in-11 : goal.returns-in-11
unfolding limit_at limits_of count_limits first
returns-in-11 c = rw c.in-11.is

pub returns-in-13 : goal.returns-in-13
unfolding limit_at limits_of count_limits first
returns-in-13 c = rw c.in-13.is

pub returns-in-15 : goal.returns-in-15
unfolding limit_at limits_of count_limits first
returns-in-15 c = rw c.in-15.is

pub returns-in_default : goal.returns-in_default
returns-in_default c =
    limit-none c.args.h c.args.place (omega arith) (omega arith) (omega arith) (omega arith) (omega arith) (omega arith)
