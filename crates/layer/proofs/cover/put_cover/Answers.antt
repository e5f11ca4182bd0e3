-- `layer::cover::put_cover` meets its contract: the tokens from the first i vertices of the cover are stored. Assumes nothing.
use Rattle.std.proofs.Common.{sym}
use native.Mathlib.Nat.{le_refl}
use Rattle.rows.specs.Number.{joined}
use Rattle.rows.proofs.Laws.{stored-none}
use Rattle.rows.proofs.Fill.{fill-next}
use Rattle.rules.specs.Layer.{token}
use Rattle.layer.specs.Cover.{cover_bytes}
use Rattle.layer.specs.Laid.{token_row}
use Rattle.layer.proofs.Write.{length-token-row}
use Rattle.layer.proofs.cover.put_cover.Goals as goal

pub loop-i-init : goal.loop-i-init
unfolding cover_bytes joined
loop-i-init c = sym (stored-none _ _)

pub loop-i-preserved : goal.loop-i-preserved
unfolding cover_bytes
loop-i-preserved c =
    let w = c.args.width in
    fill-next w (λ v. token_row w (token v c.args.new 0)) (λ v. length-token-row w (token v c.args.new 0) c.requires.1) c.args.row _ c.args.from.now c.args.tokens.now c.requires.2 (le_refl _) 0 c.loop-i.i c.loop-i-test.true c.loop-i.invariant c.put_token.ensures
