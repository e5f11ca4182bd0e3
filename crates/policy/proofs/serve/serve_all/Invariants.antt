use Rattle.rules.specs.Bytes.{tables_mut, SameTables}
use Rattle.policy.proofs.ServeLaws.{Serving}
use Rattle.policy.proofs.serve.serve_all.Given as goal

abbrev pub invariant-loop-i : goal.invariant-loop-i
invariant-loop-i l = record {
  serving : Serving l.requests l.initial.head (tables_mut l.initial.t) l.initial.answers l.initial.orders l.i l.used l.head (tables_mut l.t) l.answers l.orders;
  same : SameTables l.initial.t l.t;
}
