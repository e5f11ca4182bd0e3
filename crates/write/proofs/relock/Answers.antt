-- `write::relock` meets its contract. Assumes nothing.
use native.Mathlib.Omega.{arith}
use Rattle.write.proofs.WriteLaws.{locked-row}
use Rattle.layer.specs.Laid.{resource_is}
use Rattle.write.proofs.relock.Goals as goal

pub returns-clause-resources : goal.returns-clause-resources
returns-clause-resources c =
    let a = c.args in
    let x = c.resource_in-x in
    locked-row a.n a.r.0 a.rs.now _ c.requires.0 c.requires.1 (resource_is x.result) x.ensures (omega (arith, x.type_inv))
    a.v.0 (omega (arith, c.well_formed)) c.put_resource.ensures
