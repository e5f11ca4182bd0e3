-- `write::relist` meets its contract. Assumes nothing.
use native.Mathlib.Omega.{arith}
use Rattle.write.proofs.WriteLaws.{listed-row}
use Rattle.layer.specs.Laid.{resource_is}
use Rattle.sets.specs.Words.{set_in}
use Rattle.write.proofs.relist.Goals as goal

pub returns : goal.returns
returns c =
    listed-row c.args.n c.args.r.0 c.args.rs.now _ c.requires.0 c.requires.1 (resource_is c.resource_in-x.result) c.resource_in-x.ensures (omega (arith, c.resource_in-x.type_inv))
    (set_in c.args.list) (omega (arith, c.well_formed)) c.put_resource.ensures
