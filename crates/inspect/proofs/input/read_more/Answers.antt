-- `inspect::input::read_more` meets its contract. Assumes nothing.
use Rattle.std.proofs.Common.{arith}
use Rattle.inspect.proofs.InputLaws.{if-read, front-read}
use Rattle.inspect.proofs.input.read_more.Goals as goal

pub returns-then-total-input : goal.returns-then-total-input
returns-then-total-input g c =
    if-read _ _ _ _ c.read.result c.read.ensures.bound c.read.ensures.bytes
    (λ n h gives end. front-read c.args.total n c.args.input.now c.read.new.buf _ _ (omega arith) (omega (arith, c.read.auto)) h gives end)
