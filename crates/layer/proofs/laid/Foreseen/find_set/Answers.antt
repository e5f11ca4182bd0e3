-- `layer::laid::Foreseen::find_set` meets its contract. Assumes nothing.
use Rattle.std.proofs.Common.{rules}
use Rattle.sets.specs.Words.{set_in}
use Rattle.layer.specs.Laid.{is_set}
use Rattle.layer.specs.Lent.{sets_then}
use Rattle.layer.proofs.SeenLaws.{length_seen}
use Rattle.layer.proofs.Search.{placed_first}
use Rattle.layer.proofs.laid.Foreseen.find_set.Goals as goal

pub returns : goal.returns
returns c =
    let l = c.args.self.now in
    placed_first _ (is_set (set_in c.args.s)) (sets_then l) 0 (length_seen _ _ _ _ l.seen_in) c.position.ensures.ran (λ i b q k. search rules) (λ i b q l k. search rules)
