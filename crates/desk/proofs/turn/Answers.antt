-- `desk::turn` meets its contract. Assumes nothing.
use Rattle.std.proofs.Common.{true, refl, arith}
use Rattle.std.proofs.lemmas.Result.{IfOk-weaker}
use Rattle.rules.specs.Bytes.{tables_mut}
use Rattle.desk.proofs.Laws.{ok-both}
use Rattle.desk.proofs.TurnLaws.{within_by, last-by}
use Rattle.desk.proofs.GoesLaws.{block_none, block-whole, waits-goes, answers-goes}
use Rattle.desk.proofs.turn.Goals as goal

pub wait-requires-clause-waits : goal.wait-requires-clause-waits
wait-requires-clause-waits c =
    let read = c.read_block-b in
    let w = c.requires.holds.waits in
    record { within = read.ensures.within_2; last = block-whole _ _ _ _ read.ensures.reads w.last; long = w.long; gathered = w.gathered }

pub wait-requires-clause-input_value : goal.wait-requires-clause-input_value
wait-requires-clause-input_value c = block_none _ _ _ _ c.read_block-b.ensures.reads (omega (arith, c.if-n-eq0.true))

pub returns-then-n-eq0-clause-goes : goal.returns-then-n-eq0-clause-goes
returns-then-n-eq0-clause-goes c =
    let a = c.args in
    let read = c.read_block-b in
    let wait = c.wait in
    ok-both wait.result _ _ _
    (λ r h w.
    waits-goes a.s (tables_mut a.t.now) a.input.now a.out.now c.requires.holds.waits.last read.result read.new.requests read.ensures.reads r (tables_mut a.t.now) wait.new.input a.out.now
    (omega (arith, c.if-n-eq0.true)) (record { head = a.s.head; unread = read.result.unread; filled = a.s.filled; going = true }) refl h refl w)
    wait.ensures.head_value wait.ensures.awaits

pub returns-clause-holds_2 : goal.returns-clause-holds_2
returns-clause-holds_2 c =
    let a = c.args in
    let read = c.read_block-b in
    let w = c.requires.holds.waits in
    IfOk-weaker c.answer_block.result _ _
    (λ r b.
    record {
      ready = b.ready;
      waits = record {
        within = within_by b.unread≡ read.ensures.within_2;
        last = last-by a.input.now b.unread≡ (block-whole _ _ _ _ read.ensures.reads w.last);
        long = w.long;
        gathered = b.filled;
      };
    })
    c.answer_block.ensures.block_answered

pub returns-clause-goes : goal.returns-clause-goes
returns-clause-goes c =
    let a = c.args in
    let read = c.read_block-b in
    let done = c.answer_block in
    IfOk-weaker done.result _ _
    (λ r b.
    answers-goes a.s (tables_mut a.t.now) a.input.now a.out.now c.requires.holds.waits.last read.result read.new.requests read.ensures.reads r (tables_mut done.new.t) a.input.now done.new.out
    b.unread≡ refl b.going b.answers)
    done.ensures.block_answered
