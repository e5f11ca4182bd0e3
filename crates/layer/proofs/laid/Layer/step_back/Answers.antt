-- `layer::laid::Layer::step_back` meets its contract. Assumes nothing.
use Rattle.std.proofs.Common.{◌≡◌, sym, ◌∙◌, ℕ, ◌≤◌, ◌<◌, ◌^◌, arith}
use Rattle.sets.specs.Sets.{size}
use Rattle.sets.specs.Words.{people, set_in}
use Rattle.sets.specs.declared.Users.{Users}
use Rattle.sets.proofs.Laws.{size_below}
use Rattle.layer.proofs.Read.{layer-tokens}
use Rattle.layer.proofs.Steps.{step-own, step-none, step-at}
use Rattle.layer.proofs.laid.Layer.step_back.Goals as goal

-- a set is a word
few : {s : Users} {x : ℕ} → set_in s ≡ x → set_in s < 2 ^ people → size x ≤ people
few {s} {x} e h = rw (sym e) (size_below people (set_in s) h)

pub returns-then-eq : goal.returns-then-eq
returns-then-eq c =
    record {
      value = step-own _ _ _ c.set_of.ensures c.only.ensures c.eq.ensures c.if-eq.true;
      few = few c.set_of.ensures (omega arith);
    }

pub returns-in_err-row : goal.returns-in_err-row
returns-in_err-row c =
    record {
      value =
          c.from_residual.ensures
          ∙ step-none _ _ _ c.set_of.ensures c.only.ensures c.eq.ensures c.if-eq.false (layer-tokens _ _ _) c.find_back.ensures c.in_err-row.was;
      few = few c.set_of.ensures (omega arith);
    }

pub returns : goal.returns
returns c =
    record {
      value =
          step-at _ _ _ c.set_of.ensures c.only.ensures c.eq.ensures c.if-eq.false (layer-tokens _ _ _) c.find_back.ensures c.in_ok-row.was
          c.token_at-t.ensures.value;
      few = few c.set_of.ensures (omega arith);
    }
