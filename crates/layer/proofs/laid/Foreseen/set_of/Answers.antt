-- `layer::laid::Foreseen::set_of` meets its contract. Assumes nothing.
use Rattle.std.proofs.Common.{sym, ap, ◌∙◌, arith}
use Rattle.sets.specs.Sets.{minus, single}
use Rattle.rules.specs.Book.{Resource}
use Rattle.layer.proofs.SeenLaws.{seen-old, seen-new}
use Rattle.layer.proofs.laid.Foreseen.set_of.Goals as goal

pub returns-then-v-l : goal.returns-then-v-l
returns-then-v-l c = c.set_of.ensures ∙ sym (seen-old _ _ _ _ c.args.v (omega arith))

pub resource_in-x-requires : goal.resource_in-x-requires
resource_in-x-requires c = (c.args.self.now.seen_in.rows, c.args.self.now.seen_in.there _ (omega arith))

pub returns : goal.returns
returns c =
    let l = c.args.self.now in
    c.without.ensures
    ∙ ap (λ (x : Resource). minus x.list (single l.seen.leaver.0)) c.resource_in-x.ensures
    ∙ sym (seen-new _ _ _ _ l.seen_in c.args.v (omega arith) c.requires)
