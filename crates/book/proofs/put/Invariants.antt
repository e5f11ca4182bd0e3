use mathlib.Core.Path.{◌≡◌}
use lib.ListN.{take}
use Rattle.rows.specs.Number.{stored}
use Rattle.book.proofs.put.Given as goal

abbrev pub invariant-loop-i : goal.invariant-loop-i
invariant-loop-i l = l.buffer ≡ stored l.at (take l.i l.from) l.initial.buffer
