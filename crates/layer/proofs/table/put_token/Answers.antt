-- `layer::table::put_token` meets its contract. Assumes nothing.
use Rattle.std.proofs.Common.{arith}
use Rattle.layer.proofs.Write.{token-put-4, token-put-5}
use Rattle.layer.proofs.table.put_token.Goals as goal

pub returns-then-width-eq-WIDTH : goal.returns-then-width-eq-WIDTH
returns-then-width-eq-WIDTH c = token-put-5 _ c.args.t _ c.put.ensures c.put-2.ensures c.requires.2 c.if-width-eq-WIDTH.true (omega arith)

pub returns-else-width-eq-WIDTH : goal.returns-else-width-eq-WIDTH
returns-else-width-eq-WIDTH c = token-put-4 _ c.args.t _ c.put.ensures c.put-2.ensures c.requires.2 (omega (arith, c.requires))
