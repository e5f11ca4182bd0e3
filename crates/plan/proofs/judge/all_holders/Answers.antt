-- `plan::judge::all_holders` meets its contract. Assumes nothing.
use Rattle.plan.proofs.PartLaws.{holders-by}
use Rattle.plan.proofs.judge.all_holders.Goals as goal

pub returns : goal.returns
returns c = let k = c.holders_of-k in holders-by _ _ k.ensures.start_value k.ensures.token_value c.union.ensures
