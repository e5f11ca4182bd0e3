-- `inspect::check` meets its contract. Assumes nothing.
use Rattle.std.proofs.Common.{arith}
use Rattle.inspect.proofs.CheckLaws.{put_first, put-within}
use Rattle.inspect.proofs.InputLaws.{front-is}
use Rattle.inspect.proofs.check.Goals as goal

pub returns : goal.returns
returns g c =
    let r = c.read_all in
    let total = c.in_ok-total.total in
    let all = c.in_ok-total.ensures in
    let so_far = all.so_far in
    let front = front-is total r.new.input so_far.came so_far.holds (omega (arith, c.requires.longest_value, r.auto)) in
    let p = c.put_check.ensures so_far.came (record { front≡ = rw c.min-kept.ensures front; whole = so_far.holds.whole }) in
    record { total = total; all = all; within = put-within p; text = put_first p }
