use Rattle.std.proofs.Common.{◌<◌, ◌^◌, ◌≡◌, drop}
use Rattle.rules.specs.Lists.{every}
use Rattle.lines.specs.Request.{digit, value_from}
use Rattle.lines.proofs.request.number_in.Given as goal

abbrev pub invariant-loop-c : goal.invariant-loop-c
invariant-loop-c l =
    (l.n < 10 ^ l.c-index) × (every digit l.piece ≡ every digit (drop l.c-index l.piece)) × (value_from 0 l.piece ≡ value_from l.n (drop l.c-index l.piece))
