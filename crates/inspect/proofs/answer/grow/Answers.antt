-- `inspect::answer::grow` meets its contract. Assumes nothing.
use Rattle.inspect.proofs.TextLaws.{grown-other}
use Rattle.inspect.proofs.answer.grow.Goals as goal

pub returns-in-Length : goal.returns-in-Length
returns-in-Length c = rw c.in-Length.is

pub returns-in_default : goal.returns-in_default
returns-in_default c = grown-other c.args.total c.args.f c.in_default.not-Length
