use Rattle.rules.specs.Bytes.{resources_in}
use Rattle.layer.specs.Make.{sets_only}
use Rattle.plan.proofs.LeaveLaws.{Tallied}
use Rattle.plan.proofs.leave.leave_part.Given as goal

abbrev pub invariant-loop-r : goal.invariant-loop-r
invariant-loop-r l = Tallied (sets_only l.vertices l.ov) (resources_in l.n l.rs) l.u.0 l.firsts l.all l.r
