-- `lines::answer::put_answer` meets its contract. Assumes nothing.
use Rattle.std.proofs.Common.{arith}
use Rattle.lines.proofs.Texts.{no_room, put-accepted, put_refused}
use Rattle.lines.proofs.answer.put_answer.Goals as goal

pub returns-in_err-checked_sub : goal.returns-in_err-checked_sub
returns-in_err-checked_sub c =
    rw c.from_residual.ensures
    (no_room c.args.number c.args.view c.args.rows.now c.args.out.now c.args.at (omega (arith, c.in_err-checked_sub.ensures)))

pub returns-in_err-room : goal.returns-in_err-room
returns-in_err-room c =
    rw c.from_residual-in_err-room.ensures
    (no_room c.args.number c.args.view c.args.rows.now c.args.out.now c.args.at (omega (arith, c.in_err-room.ensures, c.in_ok-checked_sub.ensures)))

pub returns-then-room-rows : goal.returns-then-room-rows
returns-then-room-rows c =
    no_room c.args.number c.args.view c.args.rows.now c.args.out.now c.args.at (omega (arith, c.in_ok-room.ensures, c.in_ok-checked_sub.ensures))

pub returns-then-number-eq0 : goal.returns-then-number-eq0
returns-then-number-eq0 c =
    put-accepted c.args.number c.args.view c.args.rows.now c.args.out.now c.args.at (omega (arith, c.in_ok-room.ensures, c.in_ok-checked_sub.ensures))
    c.if-number-eq0.true c.put_ok.ensures

pub returns : goal.returns
returns c =
    put_refused c.args.number c.args.view c.args.rows.now c.args.out.now c.args.at (omega (arith, c.in_ok-room.ensures, c.in_ok-checked_sub.ensures))
    c.if-number-eq0.false c.put_no.ensures
