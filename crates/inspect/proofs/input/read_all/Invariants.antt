use Rattle.inspect.specs.Input.{SoFar}
use Rattle.inspect.proofs.input.read_all.Given as goal

abbrev pub invariant-loop : goal.invariant-loop
invariant-loop g l = SoFar l.total l.input (g.R.Read.remaining l.fn.reader) (g.R.Read.remaining l.reader)
