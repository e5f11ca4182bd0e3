-- `write::add_token` meets its contract. Assumes nothing.
use native.Mathlib.Omega.{arith}
use Rattle.write.proofs.WriteLaws.{token-added}
use Rattle.write.proofs.add_token.Goals as goal

pub returns-clause-token_added : goal.returns-clause-token_added
returns-clause-token_added c =
    let a = c.args in
    token-added a.n a.own.0 a.to.0 a.it.now _ c.requires.0 (omega (arith, c.ranges)) (omega (arith, c.ranges)) c.put_token.ensures
