-- `requests::inserted` meets its contract: the list is the set in its bytes. Assumes nothing.
use Rattle.std.proofs.Common.{arith}
use Rattle.host.specs.Answers.{result_of}
use Rattle.host.proofs.RequestLaws.{insert-short, insert-told}
use Rattle.host.proofs.requests.inserted.Goals as goal

pub returns-then-list-lt-WIDTH-clause-answer : goal.returns-then-list-lt-WIDTH-clause-answer
unfolding result_of
returns-then-list-lt-WIDTH-clause-answer c = insert-short _ _ _ _ _ (omega (arith, c.if-list-lt-WIDTH.true))

pub returns-clause-answer : goal.returns-clause-answer
returns-clause-answer c = insert-told _ _ _ _ _ (omega (arith, c.if-list-lt-WIDTH.false)) c.get.ensures c.changed.ensures.answer
