-- `lines::answer::put_numeral` meets its contract. Assumes nothing.
use Prim.Native.Nat.{◌+◌, ◌≤◌}
use native.Mathlib.Omega.{arith}
use lib.ListN.{length, length-set}
use Rattle.lines.proofs.Putting.{numeral-length, put_last}
use Rattle.lines.proofs.answer.put_numeral.Goals as goal

pub put_digits-end-requires : goal.put_digits-end-requires
put_digits-end-requires c =
    omega (arith, numeral-length c.args.n c.args.last, c.requires)

pub bounds-out-end : goal.bounds-out-end
bounds-out-end c =
    let room : c.put_digits-end.result + 2 ≤ length c.args.out.now = omega (arith, numeral-length c.args.n c.args.last, c.requires, c.put_digits-end.ensures.ends) in
    omega (arith, room, c.put_digits-end.auto)

pub overflow_add-out-2 : goal.overflow_add-out-2
overflow_add-out-2 c =
    let room : c.put_digits-end.result + 2 ≤ length c.args.out.now = omega (arith, numeral-length c.args.n c.args.last, c.requires, c.put_digits-end.ensures.ends) in
    omega (arith, room, c.well_formed)

pub bounds-out-end-2 : goal.bounds-out-end-2
bounds-out-end-2 c =
    let room : c.put_digits-end.result + 2 ≤ length c.args.out.now = omega (arith, numeral-length c.args.n c.args.last, c.requires, c.put_digits-end.ensures.ends) in
    simp length-set (omega (arith, room, c.put_digits-end.auto))

pub overflow_add-result : goal.overflow_add-result
overflow_add-result c =
    let room : c.put_digits-end.result + 2 ≤ length c.args.out.now = omega (arith, numeral-length c.args.n c.args.last, c.requires, c.put_digits-end.ensures.ends) in
    omega (arith, room, c.well_formed)

pub returns : goal.returns
returns c =
    put_last c.args.n c.put_digits-end.ensures c.args.last c.requires
