-- `desk::input::read_more` meets its contract. Assumes nothing.
use Rattle.std.proofs.Common.{◌-◌, length, arith}
use lib.ListN.{length-take, length-drop}
use borrow.Rule.Slice.PartMut.{put_mid, take_put, same_len_mid}
use Rattle.desk.proofs.PendingLaws.{got-unfinished, got-end, got-some}
use Rattle.desk.proofs.input.read_more.Goals as goal

pub end_last-requires-clause-input_value : goal.end_last-requires-clause-input_value
end_last-requires-clause-input_value c =
    let k = c.keep_start-kept in
    let now' = put_mid k.result.to (length k.new.input - k.result.to) k.new.input c.read.new.part in
    let same = take_put k.result.to (length k.new.input - k.result.to) k.new.input c.read.new.part (omega (arith, k.ensures.kept.short, k.auto.input, c.requires.in_bounds)) in
    got-unfinished c.args.u c.args.input.now c.requires.within c.requires.input_value k.result k.new.input k.ensures.kept k.ensures.keeps now' same

pub returns-then-n-eq0 : goal.returns-then-n-eq0
returns-then-n-eq0 c =
    let k = c.keep_start-kept in
    let end = c.end_last in
    let now' = put_mid k.result.to (length k.new.input - k.result.to) k.new.input c.read.new.part in
    let same = take_put k.result.to (length k.new.input - k.result.to) k.new.input c.read.new.part (omega (arith, k.ensures.kept.short, k.auto.input, c.requires.in_bounds)) in
    got-end c.args.u c.args.input.now c.requires.within c.requires.input_value k.result k.new.input k.ensures.kept k.ensures.keeps now' same end.result end.new.input end.ensures.within end.ensures.ends

pub returns : goal.returns
returns c =
    let k = c.keep_start-kept in
    let now' = put_mid k.result.to (length k.new.input - k.result.to) k.new.input c.read.new.part in
    let same = take_put k.result.to (length k.new.input - k.result.to) k.new.input c.read.new.part (omega (arith, k.ensures.kept.short, k.auto.input, c.requires.in_bounds)) in
    got-some c.args.u c.args.input.now c.requires.within c.requires.input_value k.result k.new.input k.ensures.kept k.ensures.keeps now' same c.in_ok-n.n
    (omega (arith, c.in_ok-n.ensures, simp (length-take, length-drop) at c.read.auto.part, same_len_mid k.result.to (length k.new.input - k.result.to) k.new.input c.read.new.part c.read.auto.part, k.auto.input, k.ensures.kept.short, c.requires.in_bounds))
