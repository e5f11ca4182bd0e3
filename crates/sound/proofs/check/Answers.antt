-- `sound::check` meets its contract. Where the counts are wrong the book is unsound; where they hold, long tables have room for the rows.
-- Assumes nothing.
use Rattle.std.proofs.Common.{ap, not}
use Rattle.sound.proofs.Answers.{yes}
use Rattle.sound.proofs.Verdicts.{tables-short, counts-wrong, not_sound, is-sound}
use Rattle.sound.proofs.Required.{counts-room}
use Rattle.sound.proofs.check.Goals.{then-not-counts_hold-via-then-not-counts_hold, then-not-counts_hold-via-else-not-counts_hold+then-is_err}
use Rattle.sound.proofs.check.Goals as goal

pub returns-then-not-long_enough : goal.returns-then-not-long_enough
returns-then-not-long_enough c = tables-short _ _ c.long_enough.ensures (ap not c.if-not-long_enough.true)

pub first_rule-requires : goal.first_rule-requires
first_rule-requires c =
    let counts = yes c.counts_hold.ensures (ap not c.if-not-counts_hold.false) in
    record {
      room = counts-room _ _ c.long_enough.ensures (ap not c.if-not-long_enough.false) counts;
      h_value = counts;
    }

pub returns-then-not-counts_hold : goal.returns-then-not-counts_hold
returns-then-not-counts_hold c =
    let long = ap not c.if-not-long_enough.false in
    elim c.then-not-counts_hold.branch [
      | then-not-counts_hold-via-then-not-counts_hold w ↦ counts-wrong _ _ c.long_enough.ensures long c.counts_hold.ensures (ap not w.if-not-counts_hold.true)
      | then-not-counts_hold-via-else-not-counts_hold+then-is_err w ↦ not_sound _ _ c.long_enough.ensures long _ _ (yes c.counts_hold.ensures (ap not w.if-not-counts_hold.false)) w.first_rule.ensures w.is_err.ensures.negation w.if-is_err.true
    ]

pub returns : goal.returns
returns c =
    is-sound _ _ c.long_enough.ensures (ap not c.if-not-long_enough.false) _ _ (yes c.counts_hold.ensures (ap not c.if-not-counts_hold.false)) c.first_rule.ensures c.is_err.ensures.negation c.if-is_err.false
