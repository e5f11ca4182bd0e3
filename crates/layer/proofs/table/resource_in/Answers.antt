-- `layer::table::resource_in` meets its contract. Assumes nothing.
use mathlib.Core.Path.{sym, ap, ap₂, ◌∙◌}
use Prim.Native.Nat.{ℕ, ◌+◌, ◌*◌}
use Rattle.sets.specs.Words.{bytes}
use Rattle.rows.specs.Number.{cell}
use Rattle.layer.proofs.Read.{resource, resource-at}
use Rattle.layer.proofs.table.resource_in.Goals as goal

pub returns : goal.returns
returns c =
    let t = c.args.resources.now in
    let at = c.args.row * (bytes + 4) in
    ap (λ (x : ℕ). resource x c.get.result c.get-2.result) c.get-list.ensures
    ∙ ap₂ (resource (cell bytes at t)) c.get.ensures c.get-2.ensures
    ∙ sym (resource-at c.args.n t c.args.row c.requires.1)
