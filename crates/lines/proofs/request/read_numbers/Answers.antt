-- `lines::request::read_numbers` meets its contract. The invariant: the numbers read stand in front of those of the pieces still to come. Assumes nothing.
use Rattle.std.proofs.Common.{refl, sym, ◌∙◌, arith, rules, tests}
use lib.ListN.{length-set}
use Rattle.lines.proofs.Turns.{starts, bad-piece, has-room, goes-on, ended}
use Rattle.lines.proofs.request.read_numbers.Goals as goal

pub loop-piece-init : goal.loop-piece-init
loop-piece-init c =
    let made = c.split.ensures in
    let passes = c.skip-piece-items.ensures in
    (refl, rw (c.into_iter-piece-iterator.ensures.into_iter_gives) (starts _ c.args.rest.now c.args.numbers.now c.requires.rest passes.source passes.count made.rest made.done made.closure (λ x b q k. search (rules, tests))))

pub returns-in_err-numbers-clause-numbers_after : goal.returns-in_err-numbers-clause-numbers_after
returns-in_err-numbers-clause-numbers_after c =
    rw c.from_residual.ensures
    (sym (bad-piece _ c.loop-piece.invariant.1 c.in-Some.piece c.in-Some.is c.next.ensures.steps (sym c.number_in.ensures ∙ c.in_err-numbers.was)))

pub bounds-numbers-count : goal.bounds-numbers-count
bounds-numbers-count c =
    omega (arith, has-room _ c.loop-piece.invariant.1 c.in-Some.piece c.in-Some.is c.next.ensures.steps _ (sym c.number_in.ensures ∙ c.in_ok-numbers.was))

pub loop-piece-preserved : goal.loop-piece-preserved
loop-piece-preserved c = (
  simp length-set c.loop-piece.invariant.0,
  goes-on _ c.loop-piece.invariant.1 c.in-Some.piece c.in-Some.is c.next.ensures.steps _ (sym c.number_in.ensures ∙ c.in_ok-numbers.was) (omega arith),
)

pub returns-clause-numbers_after : goal.returns-clause-numbers_after
returns-clause-numbers_after c = sym (ended _ c.loop-piece.invariant.1 c.in-None.is c.next.ensures.steps)
