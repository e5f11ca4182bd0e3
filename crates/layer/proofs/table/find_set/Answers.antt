-- `layer::table::find_set` meets its contract. Assumes nothing.
use Rattle.std.proofs.Common.{rules}
use Rattle.sets.specs.Words.{set_in}
use Rattle.rules.specs.Bytes.{sets_in}
use Rattle.layer.specs.Laid.{is_set}
use Rattle.layer.proofs.Read.{length-sets}
use Rattle.layer.proofs.Search.{placed_first}
use Rattle.layer.proofs.table.find_set.Goals as goal

pub returns : goal.returns
returns c =
    placed_first _ (is_set (set_in c.args.s)) (sets_in c.args.n c.args.vertices.now) 0 (length-sets c.args.n c.args.vertices.now) c.position.ensures.ran (λ i b q k. search rules) (λ i b q l k. search rules)
