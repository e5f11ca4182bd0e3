use Rattle.rows.proofs.Fill.{Filled}
use Rattle.rules.specs.Kinds.{order_number}
use Rattle.policy.specs.Serve.{marked_row}
use Rattle.policy.proofs.serve.put_marked.Given as goal

abbrev pub invariant-loop-i : goal.invariant-loop-i
invariant-loop-i l = Filled 3 (marked_row (order_number l.mark)) l.row l.list l.initial.orders l.i l.orders
