use Rattle.std.proofs.Common.{◌≡◌, length}
use Rattle.lines.proofs.Turns.{Turn}
use Rattle.lines.proofs.request.read_numbers.Given as goal

abbrev pub invariant-loop-piece : goal.invariant-loop-piece
invariant-loop-piece l =
    (length l.numbers ≡ length l.initial.numbers) × Turn (goal.iterator-loop-piece).next_gives l.piece-iterator l.rest l.numbers l.count
