-- `policy::serve::serve_all` meets its contract: at each turn what the first i requests left, with what the others will give, is what the call gives.
-- Assumes nothing.
use Rattle.std.proofs.Common.{rules}
use native.Mathlib.Omega.{arith}
use Rattle.rules.specs.Calls.{rows_lent}
use Rattle.policy.proofs.ServeLaws.{serving-first, serving-next, serving-last}
use Rattle.policy.proofs.serve.serve_all.Goals as goal

pub loop-i-init : goal.loop-i-init
loop-i-init c = record { serving = serving-first _ _ _ _ _ c.requires.ready; same = search rules }

pub put_answer-after-requires : goal.put_answer-after-requires
unfolding rows_lent
put_answer-after-requires c = omega (arith, c.requires.answerable)

pub loop-i-preserved : goal.loop-i-preserved
unfolding rows_lent
loop-i-preserved c = record {
  serving = serving-next _ _ _ _ _ c.loop-i.invariant.serving (omega (arith, c.requires.answerable)) c.loop-i-test.true c.row_asks-q.ensures
      _ _ c.answer_one-a.ensures.value c.put_answer-after.ensures.value c.put_answer-after.ensures.answers_after;
  same = search rules;
}

pub returns-clause-value : goal.returns-clause-value
returns-clause-value c = serving-last _ _ _ _ _ c.loop-i.invariant.serving c.loop-i-test.false
