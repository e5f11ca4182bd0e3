-- `layer::table::token_in` meets its contract. Assumes nothing.
use mathlib.Core.Path.{sym, ap₂, ◌∙◌}
use Prim.Native.Nat.{ℕ, ◌+◌, ◌*◌}
use native.Mathlib.Omega.{arith}
use lib.ListN.{get_or}
use Rattle.rules.specs.Layer.{token}
use Rattle.layer.proofs.Read.{token-4, token-5}
use Rattle.layer.proofs.table.token_in.Goals as goal

pub returns-then-width-eq-WIDTH : goal.returns-then-width-eq-WIDTH
returns-then-width-eq-WIDTH c =
    ap₂ (λ (x y : ℕ). token x y (get_or c.args.tokens.now (c.args.row * c.args.width + 4) 0)) c.get-from.ensures c.get-to.ensures
    ∙ sym (token-5 c.args.width c.args.n c.args.tokens.now c.args.row c.requires.2 c.requires.3 c.if-width-eq-WIDTH.true)

pub returns : goal.returns
returns c =
    ap₂ (λ (x y : ℕ). token x y 0) c.get-from.ensures c.get-to.ensures
    ∙ sym (token-4 c.args.width c.args.n c.args.tokens.now c.args.row c.requires.3 (omega (arith, c.requires)))
