use mathlib.Core.Path.{◌≡◌}
use Rattle.rules.specs.Bytes.{start}
use Rattle.book.proofs.start_of.Given as goal

abbrev pub invariant-loop-i : goal.invariant-loop-i
invariant-loop-i l = l.at ≡ start l.version l.fn.h l.i
