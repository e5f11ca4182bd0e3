-- `desk::block::read_block` meets its contract. The invariant: the order rows that are left are enough for the rows so far, and the
-- lines left complete the block. Assumes nothing.
use Rattle.std.proofs.Common.{ℕ, ◌+◌, ◌*◌, ◌-◌, ◌≡◌, List, take, refl, sym, ap, subst, ◌∙◌, arith}
use Rattle.lines.specs.Program.{lines_in}
use Rattle.desk.specs.Input.{between}
use Rattle.desk.specs.Block.{most_of, most_in, Takes}
use Rattle.desk.proofs.Laws.{most-none, most-more}
use Rattle.desk.proofs.LineLaws.{no-line, line-inside, line-next, line-length, stop-full, stop-room, stop-lines, goes-start, goes_end, goes-more}
use Rattle.desk.proofs.block.read_block.Goals as goal

pub loop-rows-init : goal.loop-rows-init
loop-rows-init c = (c.requires.within.ordered, refl, refl, most-none, refl, goes-start _ _ _ c.args.requests.now)

pub returns-in_default-clause-reads : goal.returns-in_default-clause-reads
returns-in_default-clause-reads c =
    let l = c.loop-rows in
    let u = l.unread in
    let ended = no-line c.args.input.now u.from u.to l.invariant.0 (omega (arith, l.invariant.1, c.requires.within.inside)) (sym c.in_default.is ∙ c.line_end.ensures) in
    record {
      takes = goes_end _ _ _ l.rows l.room u.cut u.from l.requests l.invariant.5 (stop-lines l.room u.cut u.from (128 - l.rows) ended);
      to≡ = l.invariant.1;
      ended≡ = l.invariant.2;
    }

pub returns-then-room-most-clause-reads : goal.returns-then-room-most-clause-reads
returns-then-room-most-clause-reads c =
    let l = c.loop-rows in
    let u = l.unread in
    let next = line-next c.args.input.now u.from u.to l.invariant.0 (omega (arith, l.invariant.1, c.requires.within.inside)) (sym c.in-Some.is ∙ c.line_end.ensures) in
    let stop = stop-room l.room u.cut u.from (128 - l.rows) next c.asked-q.ensures c.most_rows-most.ensures c.if-room-most.true in
    record { takes = goes_end _ _ _ l.rows l.room u.cut u.from l.requests l.invariant.5 stop; to≡ = l.invariant.1; ended≡ = l.invariant.2 }

pub loop-rows-preserved : goal.loop-rows-preserved
loop-rows-preserved c =
    let l = c.loop-rows in
    let u = l.unread in
    let put = c.put_request in
    let q = c.asked-q.result in
    let more : most_in (take ((l.rows + 1) * 3) put.new.requests) ≡ most_in (take (l.rows * 3) l.requests) + most_of q.kind =
    ap (λ (x : List ℕ). most_in (take ((l.rows + 1) * 3) x)) put.ensures ∙ most-more l.rows q l.requests (omega (arith, l.invariant.4, c.requires.in_bounds)) in
    let input = c.args.input.now in
    let e = sym c.in-Some.is ∙ c.line_end.ensures in (
      omega (arith, line-inside input u.from u.to l.invariant.0 (omega (arith, l.invariant.1, c.requires.within.inside)) e),
      l.invariant.1,
      l.invariant.2,
      omega (arith, more, c.most_rows-most.ensures, l.invariant.3, c.if-room-most.false),
      put.auto.requests ∙ l.invariant.4,
      goes-more _ _ _ l.rows l.room u.cut u.from l.requests l.invariant.5 (omega arith) (omega (arith, l.invariant.4, c.requires.in_bounds))
          (line-next input u.from u.to l.invariant.0 (omega (arith, l.invariant.1, c.requires.within.inside)) e)
          c.asked-q.ensures put.ensures c.most_rows-most.ensures c.if-room-most.false
          (omega (arith, line-length input u.from u.to l.invariant.0 (omega (arith, l.invariant.1, c.requires.within.inside)) e)),
    )

pub returns-clause-requests_bound : goal.returns-clause-requests_bound
returns-clause-requests_bound c =
    let l = c.loop-rows in
    let all : l.rows ≡ 128 = omega arith in
    omega (arith, l.invariant.3, ap (λ (n : ℕ). most_in (take (n * 3) l.requests)) all)

pub returns-clause-reads : goal.returns-clause-reads
returns-clause-reads c =
    let l = c.loop-rows in
    let u = l.unread in
    let all : l.rows ≡ 128 = omega arith in
    let lines = lines_in (between c.args.u.from c.args.u.to c.args.input.now) in
    record {
      takes = subst (λ (n : ℕ). Takes 128 6144 c.args.u.cut c.args.u.from lines n (take (n * 3) l.requests) u.from u.cut) all
          (goes_end _ _ _ l.rows l.room u.cut u.from l.requests l.invariant.5 (stop-full l.room u.cut u.from (omega arith) _));
      to≡ = l.invariant.1;
      ended≡ = l.invariant.2;
    }
