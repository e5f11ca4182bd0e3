-- `policy::serve::answer_one` meets its contract: the answer of what is asked. Assumes nothing.
use Rattle.std.proofs.Common.{rules}
use Rattle.rules.specs.Calls.{one, change_one}
use Rattle.policy.proofs.MarkedLaws.{one-changed}
use Rattle.policy.proofs.serve.answer_one.Goals as goal

pub returns-in-Some-Change-clause-value : goal.returns-in-Some-Change-clause-value
returns-in-Some-Change-clause-value c = one-changed _ _ _ (search rules) c.carry_out.ensures.value

pub returns-in-None-clause-value : goal.returns-in-None-clause-value
unfolding one change_one
returns-in-None-clause-value c = rw c.in-None.is
