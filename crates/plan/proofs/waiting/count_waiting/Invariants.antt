use Rattle.std.specs.Prelude.{◌≡◌, ◌≤◌, length}
use Rattle.sets.specs.Words.{set_in}
use Rattle.plan.proofs.WaitLaws.{waiting}
use Rattle.plan.proofs.waiting.count_waiting.Given as goal

abbrev pub invariant-loop-i : goal.invariant-loop-i
invariant-loop-i l = record {
  waiting : l.k ≡ length (waiting l.n l.rs l.r.0 l.inner.0 (set_in l.list) l.i);
  few : l.k ≤ l.i;
}
