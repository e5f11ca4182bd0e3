-- `desk::input::read_first` meets its contract. The invariant: what was read so far is pending. Assumes nothing.
use Rattle.std.proofs.Common.{sym, ◌∙◌, refl, arith}
use Rattle.desk.proofs.PendingLaws.{lacks-none, so-far-none, so_far_more}
use Rattle.desk.proofs.input.read_first.Goals as goal

pub loop-init : goal.loop-init
loop-init c = (record { ordered = omega arith; inside = omega arith }, refl, so-far-none _)

pub read_more-requires-clause-input_value : goal.read_more-requires-clause-input_value
read_more-requires-clause-input_value c = (lacks-none c.loop.u c.loop.input (sym c.lacks_line.ensures ∙ c.if-not-lacks_line.false)).1

pub loop-preserved : goal.loop-preserved
loop-preserved c =
    let l = c.loop in
    let got = c.in_ok-u.ensures in
    (got.within, c.read_more.auto.input ∙ l.invariant.1, so_far_more l.u l.input c.in_ok-u.u c.read_more.new.input l.invariant.2 (sym c.lacks_line.ensures ∙ c.if-not-lacks_line.false) got)
