use Rattle.std.proofs.Common.{◌≡◌, length}
use Rattle.desk.specs.Input.{Within, ReadSoFar}
use Rattle.desk.proofs.input.read_first.Given as goal

abbrev pub invariant-loop : goal.invariant-loop
invariant-loop l = Within l.u l.input × (length l.input ≡ length l.initial.input) × ReadSoFar l.u l.input
