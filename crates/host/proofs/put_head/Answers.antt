-- `put_head` meets its contract: seven stores, one after the other, are one, and the set of leavers stands right behind them. Assumes nothing.
use native.Mathlib.Omega.{arith}
use Prim.Native.Nat.{ℕ}
use mathlib.Core.Path.{◌≡◌}
use mathlib.Core.List.{List}
use lib.ListN.{length-set}
use Rattle.rows.specs.Number.{stored}
use Rattle.rows.proofs.Laws.{length-stored}
use Rattle.rules.specs.declared.Head.{Head}
use Rattle.host.specs.Answers.{set_numbers, head_numbers}
use Rattle.host.proofs.HeadLaws.{head-stored}
use Rattle.host.proofs.put_head.Goals as goal

pub bounds-head-1 : goal.bounds-head-1
bounds-head-1 c = simp length-set (omega arith)

pub bounds-head-2 : goal.bounds-head-2
bounds-head-2 c = simp length-set (omega arith)

pub bounds-head-3 : goal.bounds-head-3
bounds-head-3 c = simp length-set (omega arith)

pub bounds-head-4 : goal.bounds-head-4
bounds-head-4 c = simp length-set (omega arith)

pub bounds-head-5 : goal.bounds-head-5
bounds-head-5 c = simp length-set (omega arith)

pub bounds-head-6 : goal.bounds-head-6
bounds-head-6 c = simp length-set (omega arith)

pub put_leavers-requires : goal.put_leavers-requires
put_leavers-requires c = simp length-set (omega arith)

pub shape_of-head : goal.shape_of-head
unfolding set_numbers
shape_of-head c =
    let h : Head = c.args.h in
    let numbers : List ℕ = c.args.head.now in
    let stores : c.put_leavers.new.head ≡ stored 0 (head_numbers h) numbers = head-stored h numbers (omega arith) c.put_leavers.ensures in
    rw stores (length-stored 0 (head_numbers h) numbers (omega arith))

pub returns : goal.returns
returns c =
    let h : Head = c.args.h in
    let numbers : List ℕ = c.args.head.now in
    let stores : c.put_leavers.new.head ≡ stored 0 (head_numbers h) numbers = head-stored h numbers (omega arith) c.put_leavers.ensures in
    stores
