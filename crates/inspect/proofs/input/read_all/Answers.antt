-- `inspect::input::read_all` meets its contract. Assumes nothing.
use Rattle.std.proofs.Common.{rules}
use Rattle.inspect.proofs.InputLaws.{none-came, came-more, came-all}
use Rattle.inspect.proofs.input.read_all.Goals as goal

pub loop-init : goal.loop-init
loop-init g c = none-came c.args.input.now _

pub returns-then-n-eq0 : goal.returns-then-n-eq0
returns-then-n-eq0 g c = came-all c.loop.total c.in_ok-n.n c.loop.input c.read_more.new.input _ _ _ c.if-n-eq0.true c.loop.invariant c.in_ok-n.ensures

pub loop-preserved : goal.loop-preserved
loop-preserved g c = came-more c.loop.total c.in_ok-n.n c.in_ok-total.total c.loop.input c.read_more.new.input _ _ _ (search rules) c.loop.invariant c.in_ok-n.ensures
