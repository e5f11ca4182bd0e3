use Rattle.rules.specs.Bytes.{tokens_in}
use Rattle.sound.proofs.Seen.{Apart}
use Rattle.sound.proofs.layers.equal_token.Given as goal

abbrev pub invariant-loop-i : goal.invariant-loop-i
invariant-loop-i l = Apart (tokens_in l.width l.n l.tokens) l.n l.i l.met
