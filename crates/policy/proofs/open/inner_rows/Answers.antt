-- `policy::open::inner_rows` meets its contract. Assumes nothing.
use Rattle.std.proofs.Common.{rules}
use Rattle.layer.specs.Lent.{layer_in}
use Rattle.layer.proofs.Steps.{found_at}
use Rattle.policy.proofs.OpenLaws.{direct_written}
use Rattle.policy.proofs.open.inner_rows.Goals as goal

pub returns-in-Some : goal.returns-in-Some
returns-in-Some c =
    direct_written (layer_in c.args.i.now) _ _ _ _ (search rules) (found_at c.in-Some.is c.find_direct.ensures).1 c.requires.v_in_bounds
