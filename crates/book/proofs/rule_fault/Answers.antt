-- `book::rule_fault` meets its contract. Assumes nothing.
use Rattle.std.proofs.Common.{sym, subst, ◌≡◌}
use Rattle.rules.specs.Bytes.{tables_of, read}
use Rattle.rules.specs.Sound.{rules}
use Rattle.rules.specs.Tests.{first_rule}
use Rattle.sound.specs.Check.{unless}
use Rattle.book.proofs.Laws.{sections-fill, Fills, fills-room}
use Rattle.book.proofs.Answers.{read-judged, spot-counted, rule-fine, rule-first}
use Rattle.book.proofs.rule_fault.Goals as goal

pub first_rule-requires-clause-room : goal.first_rule-requires-clause-room
first_rule-requires-clause-room c =
    let fill : Fills c.args.h (tables_of c.sections.result) = subst (Fills c.args.h) (sym c.sections.ensures) (sections-fill _ _ _ c.requires.whole) in
    fills-room _ _ fill

pub place_of-requires : goal.place_of-requires
place_of-requires c =
    let judged : c.first_rule.result ≡ unless (first_rule (rules (read c.args.bytes.now))) = read-judged _ _ _ c.requires c.sections.ensures c.first_rule.ensures in
    spot-counted _ _ _ judged c.in-Err.is c.requires

pub returns-in-Ok : goal.returns-in-Ok
returns-in-Ok c =
    let judged : c.first_rule.result ≡ unless (first_rule (rules (read c.args.bytes.now))) = read-judged _ _ _ c.requires c.sections.ensures c.first_rule.ensures in
    rule-fine _ _ _ judged c.in-Ok.is

pub returns-in-Err : goal.returns-in-Err
returns-in-Err c =
    let judged : c.first_rule.result ≡ unless (first_rule (rules (read c.args.bytes.now))) = read-judged _ _ _ c.requires c.sections.ensures c.first_rule.ensures in
    rule-first _ _ _ judged c.in-Err.is c.place_of.ensures
