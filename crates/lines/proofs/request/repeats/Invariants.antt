use Rattle.std.proofs.Common.{◌≡◌, length}
use Rattle.lines.specs.Request.{twice}
use Rattle.lines.proofs.request.repeats.Given as goal

abbrev pub invariant-loop-rest : goal.invariant-loop-rest
invariant-loop-rest l = twice l.numbers ≡ twice l.rest

abbrev pub decreases-loop-rest : goal.decreases-loop-rest
decreases-loop-rest l = length l.rest
