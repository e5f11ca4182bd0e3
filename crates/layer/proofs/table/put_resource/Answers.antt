-- `layer::table::put_resource` meets its contract. Assumes nothing.
use mathlib.Core.Path.{ap, ◌∙◌}
use Prim.Native.Nat.{◌+◌, ◌*◌}
use Rattle.sets.specs.Words.{bytes}
use Rattle.rows.specs.Number.{bytes_of, stored}
use Rattle.layer.specs.Laid.{resource_is}
use Rattle.layer.proofs.Write.{resource-put}
use Rattle.layer.proofs.table.put_resource.Goals as goal

pub returns : goal.returns
returns c =
    let at = c.args.row * (bytes + 4) in
    c.put-3.ensures
    ∙ ap (stored (at + bytes + 2) (bytes_of 2 c.args.x.outer.0))
    (c.put-2.ensures ∙ ap (stored (at + bytes) (bytes_of 2 c.args.x.inner.0)) c.put.ensures)
    ∙ resource-put at (resource_is c.args.x) c.args.resources.now c.requires
