-- `policy::serve::serve` meets its contract. Assumes nothing.
use Rattle.rules.specs.Calls.{rows_lent}
use Rattle.policy.proofs.CheckLaws.{passed_on, checked-ready}
use Rattle.policy.proofs.ServeLaws.{serve-unsound, serve-short, serve-served}
use Rattle.policy.proofs.serve.serve.Goals as goal

pub returns-in_err-check-clause-value : goal.returns-in_err-check-clause-value
returns-in_err-check-clause-value c =
    rw (passed_on c.from_residual.result c.from_residual.ensures.1) (serve-unsound _ _ _ _ _ (rw c.read.ensures at c.check.ensures) c.in_err-check.was)

pub returns-then-answers-requests-clause-value : goal.returns-then-answers-requests-clause-value
returns-then-answers-requests-clause-value c =
    serve-short _ _ _ _ _ (checked-ready _ _ (rw c.read.ensures at c.check.ensures) c.in_ok-check.was) c.if-answers-requests.true

pub serve_all-requires-clause-ready : goal.serve_all-requires-clause-ready
serve_all-requires-clause-ready c = checked-ready _ _ (rw c.read.ensures at c.check.ensures) c.in_ok-check.was

pub serve_all-requires-clause-answerable : goal.serve_all-requires-clause-answerable
unfolding rows_lent
serve_all-requires-clause-answerable c = c.if-answers-requests.false

pub returns-clause-value : goal.returns-clause-value
returns-clause-value c =
    serve-served _ _ _ _ _ (checked-ready _ _ (rw c.read.ensures at c.check.ensures) c.in_ok-check.was) c.if-answers-requests.false c.serve_all.ensures.value
