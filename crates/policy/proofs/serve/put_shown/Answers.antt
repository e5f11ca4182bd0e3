-- `policy::serve::put_shown` meets its contract. Assumes nothing.
use native.Mathlib.Omega.{arith}
use lib.ListN.{length-take}
use Rattle.rules.specs.Calls.{rows_lent}
use Rattle.policy.proofs.MarkedLaws.{chains-put}
use Rattle.policy.proofs.serve.put_shown.Goals as goal

pub put_marked-requires : goal.put_marked-requires
unfolding rows_lent
put_marked-requires c = simp length-take (omega (arith, c.requires.rows))

pub put_marked-requires-2 : goal.put_marked-requires-2
unfolding rows_lent
put_marked-requires-2 c = omega (arith, c.requires.rows)

pub returns : goal.returns
returns c = chains-put c.requires _ (omega arith) c.put_chains.ensures _ (omega arith) c.put_marked.ensures c.put_marked-2.ensures
