-- `write::add_resource` meets its contract. Assumes nothing.
use native.Mathlib.Omega.{arith}
use Rattle.write.proofs.WriteLaws.{resource-added}
use Rattle.sets.specs.Words.{set_in}
use Rattle.write.proofs.add_resource.Goals as goal

pub returns : goal.returns
returns c =
    resource-added c.args.n (set_in c.args.list) c.args.inner.0 c.args.rs.now _ c.requires (omega (arith, c.well_formed)) (omega (arith, c.well_formed)) c.put_resource.ensures
