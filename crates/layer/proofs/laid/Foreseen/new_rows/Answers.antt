-- `layer::laid::Foreseen::new_rows` meets its contract. Assumes nothing.
use Rattle.std.proofs.Common.{sym, ◌∙◌, arith}
use Rattle.layer.specs.Lent.{layer_then}
use Rattle.layer.proofs.SeenLaws.{length_seen}
use Rattle.layer.proofs.MakeLaws.{vertex-there, vertex-new, adds_none, adds_one}
use Rattle.layer.proofs.laid.Foreseen.new_rows.Goals as goal

pub returns-in-Some : goal.returns-in-Some
returns-in-Some c =
    let there = vertex-there _ _ (length_seen _ _ _ _ c.args.self.now.seen_in) c.find_set.ensures c.in-Some.is in
    let (a, b) = adds_none _ _ there.2 in
    record {
      vertices_value = sym a;
      tokens_value = sym b;
      vertices_bound = omega arith;
    }

pub returns-in-None : goal.returns-in-None
returns-in-None c =
    let none = vertex-new (layer_then c.args.self.now) _ (length_seen _ _ _ _ c.args.self.now.seen_in) c.find_set.ensures c.in-None.is in
    let (a, b) = adds_one _ _ none.1 in
    record {
      vertices_value = sym a;
      tokens_value = c.cover.ensures.count_value ∙ sym b;
      vertices_bound = (omega arith, c.cover.result.few);
    }
