use Rattle.std.proofs.Common.{◌≡◌, drop}
use Rattle.sets.specs.Sets.{union}
use Rattle.sets.specs.Words.{set_in}
use Rattle.lines.specs.Request.{users}
use Rattle.lines.proofs.request.users_of.Given as goal

abbrev pub invariant-loop-n : goal.invariant-loop-n
invariant-loop-n l = users l.numbers ≡ union (set_in l.users) (users (drop l.n-index l.numbers))
