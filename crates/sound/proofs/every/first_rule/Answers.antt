-- `sound::every::first_rule` meets its contract: rule by rule; each is asked where those that it leans on hold.
-- Assumes nothing.
use Rattle.std.proofs.Common.{rules, ◌≡◌, ◌∙◌, Err}
use Rattle.rules.specs.declared.Letter.TheVariants.{S1, S4}
use Rattle.sound.proofs.Spots.{rule-on, rule-stop, rule-last, rule-fine}
use Rattle.sound.proofs.RulePlaces.{s1-holds, s4-holds, whole}
use Rattle.sound.proofs.every.first_rule.Goals as goal

pub invariant_of-book : goal.invariant_of-book
invariant_of-book c =
    record {
      room = c.requires.room;
      s1 = s1-holds _ _ c.requires.h_value c.s1.ensures (rule-fine S1 c.by.ensures c.in_ok-by.was);
    }

pub s6-requires : goal.s6-requires
s6-requires c = s4-holds _ _ c.s4.ensures (rule-fine S4 c.by-4.ensures c.in_ok-by-4.was)

pub returns-in_err-by : goal.returns-in_err-by
returns-in_err-by c =
    let k : c.from_residual.result ≡ Err c.in_err-by.field-0.0 = search rules in
    k ∙ rule-stop (whole _) c.s1.ensures c.by.ensures c.in_err-by.was

pub returns-in_err-by-2 : goal.returns-in_err-by-2
returns-in_err-by-2 c =
    let k : c.from_residual-in_err-by-2.result ≡ Err c.in_err-by-2.field-0.0 = search rules in
    k ∙ rule-stop (rule-on (whole _) c.s1.ensures c.by.ensures c.in_ok-by.was) c.s2.ensures c.by-2.ensures c.in_err-by-2.was

pub returns-in_err-by-3 : goal.returns-in_err-by-3
returns-in_err-by-3 c =
    let k : c.from_residual-in_err-by-3.result ≡ Err c.in_err-by-3.field-0.0 = search rules in
    k ∙ rule-stop (rule-on (rule-on (whole _) c.s1.ensures c.by.ensures c.in_ok-by.was) c.s2.ensures c.by-2.ensures c.in_ok-by-2.was) c.s3.ensures c.by-3.ensures c.in_err-by-3.was

pub returns-in_err-by-4 : goal.returns-in_err-by-4
returns-in_err-by-4 c =
    let k : c.from_residual-in_err-by-4.result ≡ Err c.in_err-by-4.field-0.0 = search rules in
    k ∙ rule-stop (rule-on (rule-on (rule-on (whole _) c.s1.ensures c.by.ensures c.in_ok-by.was) c.s2.ensures c.by-2.ensures c.in_ok-by-2.was) c.s3.ensures c.by-3.ensures c.in_ok-by-3.was) c.s4.ensures c.by-4.ensures c.in_err-by-4.was

pub returns-in_err-by-5 : goal.returns-in_err-by-5
returns-in_err-by-5 c =
    let k : c.from_residual-in_err-by-5.result ≡ Err c.in_err-by-5.field-0.0 = search rules in
    k ∙ rule-stop (rule-on (rule-on (rule-on (rule-on (whole _) c.s1.ensures c.by.ensures c.in_ok-by.was) c.s2.ensures c.by-2.ensures c.in_ok-by-2.was) c.s3.ensures c.by-3.ensures c.in_ok-by-3.was) c.s4.ensures c.by-4.ensures c.in_ok-by-4.was) c.s5.ensures c.by-5.ensures c.in_err-by-5.was

pub returns-in_err-by-6 : goal.returns-in_err-by-6
returns-in_err-by-6 c =
    let k : c.from_residual-in_err-by-6.result ≡ Err c.in_err-by-6.field-0.0 = search rules in
    k ∙ rule-stop (rule-on (rule-on (rule-on (rule-on (rule-on (whole _) c.s1.ensures c.by.ensures c.in_ok-by.was) c.s2.ensures c.by-2.ensures c.in_ok-by-2.was) c.s3.ensures c.by-3.ensures c.in_ok-by-3.was) c.s4.ensures c.by-4.ensures c.in_ok-by-4.was) c.s5.ensures c.by-5.ensures c.in_ok-by-5.was) c.s6.ensures c.by-6.ensures c.in_err-by-6.was

pub returns-in_err-by-7 : goal.returns-in_err-by-7
returns-in_err-by-7 c =
    let k : c.from_residual-in_err-by-7.result ≡ Err c.in_err-by-7.field-0.0 = search rules in
    k ∙ rule-stop (rule-on (rule-on (rule-on (rule-on (rule-on (rule-on (whole _) c.s1.ensures c.by.ensures c.in_ok-by.was) c.s2.ensures c.by-2.ensures c.in_ok-by-2.was) c.s3.ensures c.by-3.ensures c.in_ok-by-3.was) c.s4.ensures c.by-4.ensures c.in_ok-by-4.was) c.s5.ensures c.by-5.ensures c.in_ok-by-5.was) c.s6.ensures c.by-6.ensures c.in_ok-by-6.was) c.s7.ensures c.by-7.ensures c.in_err-by-7.was

pub returns : goal.returns
returns c = rule-last (rule-on (rule-on (rule-on (rule-on (rule-on (rule-on (rule-on (whole _) c.s1.ensures c.by.ensures c.in_ok-by.was) c.s2.ensures c.by-2.ensures c.in_ok-by-2.was) c.s3.ensures c.by-3.ensures c.in_ok-by-3.was) c.s4.ensures c.by-4.ensures c.in_ok-by-4.was) c.s5.ensures c.by-5.ensures c.in_ok-by-5.was) c.s6.ensures c.by-6.ensures c.in_ok-by-6.was) c.s7.ensures c.by-7.ensures c.in_ok-by-7.was) c.s8.ensures c.by-8.ensures
