-- `layer::table::set_of` meets its contract. Assumes nothing.
use mathlib.Core.Path.{sym, ◌∙◌}
use Rattle.layer.proofs.Read.{set_at}
use Rattle.layer.proofs.table.set_of.Goals as goal

pub returns : goal.returns
returns c =
    c.get.ensures ∙ sym (set_at c.args.n c.args.vertices.now c.args.v c.requires.1)
