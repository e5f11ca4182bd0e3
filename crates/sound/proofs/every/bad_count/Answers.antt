-- `every::bad_count` meets its contract. Assumes nothing.
use native.Mathlib.Omega.{arith}
use Rattle.sound.proofs.Counted.{bad-users, bad-resources, bad-inner, bad-inner-tokens, bad-outer, bad-outer-tokens, none-bad}
use Rattle.sound.proofs.every.bad_count.Goals as goal

pub returns-then-h-gt-LIMIT : goal.returns-then-h-gt-LIMIT
returns-then-h-gt-LIMIT c = bad-users _ (omega arith)

pub returns-then-h-gt-LIMIT-2 : goal.returns-then-h-gt-LIMIT-2
returns-then-h-gt-LIMIT-2 c = bad-resources _ (omega arith) (omega arith)

pub overflow_add-h : goal.overflow_add-h
overflow_add-h c = record { fits = omega arith }

pub returns-then-h : goal.returns-then-h
returns-then-h c = bad-inner _ (omega arith) (omega arith) (omega arith)

pub returns-then-h-gt-LIMIT-3 : goal.returns-then-h-gt-LIMIT-3
returns-then-h-gt-LIMIT-3 c = bad-inner-tokens _ (omega arith) (omega arith) (omega arith) (omega arith)

pub overflow_add-h-2 : goal.overflow_add-h-2
overflow_add-h-2 c = record { fits = omega arith }

pub returns-then-h-2 : goal.returns-then-h-2
returns-then-h-2 c = bad-outer _ (omega arith) (omega arith) (omega arith) (omega arith) (omega arith)

pub returns-then-h-gt-LIMIT-4 : goal.returns-then-h-gt-LIMIT-4
returns-then-h-gt-LIMIT-4 c = bad-outer-tokens _ (omega arith) (omega arith) (omega arith) (omega arith) (omega arith) (omega arith)

pub returns : goal.returns
returns c = none-bad _ (omega arith) (omega arith) (omega arith) (omega arith) (omega arith) (omega arith)
