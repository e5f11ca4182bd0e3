-- `desk::answer_all` meets its contract, and ends: the turns are counted. The invariant: the tables hold a sound book, the lists keep their lengths, and the
-- turns so far are a run. Assumes nothing.
use Rattle.std.proofs.Common.{[], sym, ◌∙◌, arith}
use Rattle.rules.specs.Bytes.{tables_mut}
use Rattle.desk.specs.Turn.{desk}
use Rattle.desk.proofs.GoesLaws.{ran-none, ran-more, ran-runs}
use Rattle.desk.proofs.answer_all.Goals as goal

pub loop-init : goal.loop-init
loop-init c =
    let s = c.requires in
    let a = c.args in (
      sym c.zeros-requests.ensures,
      sym c.zeros-answers.ensures,
      sym c.zeros-orders.ensures,
      sym c.zeros-out.ensures,
      record { ready = s.ready; waits = record { within = s.within; last = s.last; long = s.long; gathered = omega (arith, s.none) } },
      ran-none a.s (tables_mut a.t.now) a.input.now c.zeros-out.result s.none s.going,
    )

pub loop-preserved : goal.loop-preserved
loop-preserved c =
    let a = c.args in
    let l = c.loop in
    let t = c.turn in
    let i = l.invariant in
    let now = c.in_ok-state.state in (
      i.0 ∙ sym t.auto.requests,
      i.1 ∙ sym t.auto.answers,
      i.2 ∙ sym t.auto.orders,
      i.3 ∙ sym t.auto.out,
      c.in_ok-state.ensures.holds_2,
      ran-more (desk a.s (tables_mut a.t.now) a.input.now []) (desk l.state (tables_mut l.t) l.input l.out) (desk now (tables_mut t.new.t) t.new.input t.new.out) l.state.going now.going i.5 c.in_ok-state.ensures.goes,
    )

pub returns-then-not-state : goal.returns-then-not-state
returns-then-not-state c =
    let a = c.args in
    let l = c.loop in
    ran-runs (desk a.s (tables_mut a.t.now) a.input.now []) l.state (tables_mut l.t) l.input l.out l.invariant.5

pub returns-after-loop : goal.returns-after-loop
returns-after-loop c =
    let a = c.args in
    let l = c.loop in
    ran-runs (desk a.s (tables_mut a.t.now) a.input.now []) l.state (tables_mut l.t) l.input l.out l.invariant.5
