use Rattle.sets.specs.Words.{set_in}
use Rattle.write.proofs.RelockLaws.{Run}
use Rattle.write.proofs.relock_waiting.Given as goal

abbrev pub invariant-loop-i : goal.invariant-loop-i
invariant-loop-i l = Run l.n l.initial.rs l.r.0 l.inner.0 (set_in l.list) l.v.0 l.at l.initial.orders l.i l.next l.rs l.orders
