-- `lines::answer::put_digits`, which calls itself, meets its contract. Assumes nothing.
use Rattle.std.proofs.Common.{arith}
use Rattle.lines.proofs.Putting.{put-none, digits-none, digits-length, put-digit}
use Rattle.lines.proofs.answer.+put_digits.Goals as goal

pub returns-then-n-eq0 : goal.returns-then-n-eq0
returns-then-n-eq0 t c = rw (digits-none c.args.n c.if-n-eq0.true) (put-none c.args.at c.args.out.now)

pub put_digits-end-requires : goal.put_digits-end-requires
put_digits-end-requires t c =
    let e = digits-length c.args.n c.if-n-eq0.false in
    (omega (arith, c.decreases), omega (arith, e, c.requires))

-- there is room for the next digit
pub bounds-out-end : goal.bounds-out-end
bounds-out-end t c =
    omega (arith, digits-length c.args.n c.if-n-eq0.false, c.requires, c.put_digits-end.ensures.ends, c.put_digits-end.auto.out)

pub overflow_add-result : goal.overflow_add-result
overflow_add-result t c =
    omega (arith, digits-length c.args.n c.if-n-eq0.false, c.requires, c.put_digits-end.ensures.ends, c.well_formed)

pub returns : goal.returns
returns t c = put-digit c.args.n c.put_digits-end.ensures c.if-n-eq0.false c.requires
