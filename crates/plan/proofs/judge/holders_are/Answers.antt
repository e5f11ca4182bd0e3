-- `plan::judge::holders_are` meets its contract. Assumes nothing.
use mathlib.Core.Path.{◌∙◌}
use Rattle.plan.proofs.PartLaws.{holders-found, holders-new}
use Rattle.plan.proofs.judge.holders_are.Goals as goal

pub returns-in-Some : goal.returns-in-Some
returns-in-Some c = c.eq.ensures ∙ holders-found c.args.l.now _ c.find_set.ensures c.in-Some.is c.all_holders.ensures

pub returns-in-None : goal.returns-in-None
returns-in-None c = holders-new c.args.l.now _ c.find_set.ensures c.in-None.is
