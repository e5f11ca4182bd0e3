use Rattle.std.proofs.Common.{◌+◌, ◌*◌, ◌≤◌, ◌≡◌, length, take}
use Rattle.lines.specs.Program.{lines_in}
use Rattle.desk.specs.Input.{between}
use Rattle.desk.specs.Block.{most_in}
use Rattle.desk.proofs.LineLaws.{Goes}
use Rattle.desk.proofs.block.read_block.Given as goal

abbrev pub invariant-loop-rows : goal.invariant-loop-rows
invariant-loop-rows l =
    (l.unread.from ≤ l.unread.to)
    × (l.unread.to ≡ l.initial.unread.to)
    × (l.unread.ended ≡ l.initial.unread.ended)
    × (l.room + most_in (take (l.rows * 3) l.requests) ≤ 6144)
    × (length l.requests ≡ length l.initial.requests)
    × Goes l.initial.unread.cut l.initial.unread.from (lines_in (between l.initial.unread.from l.initial.unread.to l.input)) l.rows l.room l.unread.cut l.unread.from (lines_in (between l.unread.from l.unread.to l.input)) l.requests
