use Rattle.std.proofs.Common.{◌≡◌, [], length}
use Rattle.rules.specs.Bytes.{tables_mut}
use Rattle.desk.specs.Turn.{Holds, desk, Ran}
use Rattle.desk.proofs.answer_all.Given as goal

abbrev pub invariant-loop : goal.invariant-loop
invariant-loop l =
    (384 ≡ length l.requests)
    × (384 ≡ length l.answers)
    × (18432 ≡ length l.orders)
    × (98304 ≡ length l.out)
    × Holds l.state (tables_mut l.t) l.input l.out
    × Ran (desk l.initial.state (tables_mut l.initial.t) l.initial.input []) (desk l.state (tables_mut l.t) l.input l.out) l.state.going
