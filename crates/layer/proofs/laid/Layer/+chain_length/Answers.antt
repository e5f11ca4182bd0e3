-- `layer::laid::Layer::chain_length`, which calls itself, meets its contract. Assumes nothing.
use Rattle.std.proofs.Common.{sym, ap, ◌∙◌, arith, ℕ, ◌+◌, length}
use Rattle.theorems.proofs.WalkLaws.{chain-within}
use Rattle.layer.specs.Lent.{layer_in}
use Rattle.layer.proofs.Steps.{chain-stops, chain-goes, length_more, kept, in_table}
use Rattle.layer.proofs.laid.Layer.+chain_length.Goals as goal

pub returns-in_default : goal.returns-in_default
returns-in_default t c =
    sym (ap length (chain-stops (kept c.requires.keeps) c.args.u.0 c.args.v c.requires.v_lt_vertices.2 c.in_default.is c.step_back.ensures.value))

pub chain_length-requires : goal.chain_length-requires
chain_length-requires t c =
    let w = chain-goes (kept c.requires.keeps) c.args.u.0 c.args.v c.requires.v_lt_vertices.2 c.in-Some.is c.step_back.ensures.value in (
      omega (arith, w.falls, c.decreases),
      (
        c.requires.keeps,
        (in_table c.requires.keeps c.args.u.0 c.in-Some.step.from w.names, c.requires.v_lt_vertices.1, w.names),
      ),
    )

-- its row and those before it are the chain
pub overflow_add-result : goal.overflow_add-result
overflow_add-result t c =
    let w = chain-goes (kept c.requires.keeps) c.args.u.0 c.args.v c.requires.v_lt_vertices.2 c.in-Some.is c.step_back.ensures.value in
    let more = ap (λ (k : ℕ). k + 1) c.chain_length.ensures ∙ length_more w in
    omega (arith, more, chain-within (layer_in c.args.self.now) c.args.u.0 c.args.v, c.step_back.ensures.few)

pub returns : goal.returns
returns t c =
    ap (λ (k : ℕ). k + 1) c.chain_length.ensures
    ∙ length_more (chain-goes (kept c.requires.keeps) c.args.u.0 c.args.v c.requires.v_lt_vertices.2 c.in-Some.is c.step_back.ensures.value)
