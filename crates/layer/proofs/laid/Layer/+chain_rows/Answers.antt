-- `layer::laid::Layer::chain_rows`, which calls itself, meets its contract. Assumes nothing.
use Rattle.std.proofs.Common.{sym, ap, ◌∙◌, arith, ℕ, ◌+◌, List, length}
use Rattle.rows.specs.Number.{stored}
use Rattle.rows.proofs.Laws.{stored-none}
use Rattle.layer.proofs.Steps.{chain-stops, chain-goes, length_more, kept, in_table, written}
use Rattle.layer.proofs.laid.Layer.+chain_rows.Goals as goal

pub returns-in_default : goal.returns-in_default
returns-in_default t c =
    let none = chain-stops (kept c.requires.keeps) c.args.u.0 c.args.v c.requires.v_lt_vertices.2 c.in_default.is c.step_back.ensures.value in
    record {
      value = sym (ap length none);
      list_after = sym (ap (λ (rows : List ℕ). stored 0 rows c.args.list.now) none ∙ stored-none 0 c.args.list.now);
    }

pub chain_rows-k-requires : goal.chain_rows-k-requires
chain_rows-k-requires t c =
    let w = chain-goes (kept c.requires.keeps) c.args.u.0 c.args.v c.requires.v_lt_vertices.2 c.in-Some.is c.step_back.ensures.value in (
      omega (arith, w.falls, c.decreases),
      (
        c.requires.keeps,
        (
          (in_table c.requires.keeps c.args.u.0 c.in-Some.step.from w.names, c.requires.v_lt_vertices.1, w.names),
          omega (arith, length_more w, c.requires.v_in_bounds),
        ),
      ),
    )

-- the next place of the list
pub offset_bounds-list-k : goal.offset_bounds-list-k
offset_bounds-list-k t c =
    let w = chain-goes (kept c.requires.keeps) c.args.u.0 c.args.v c.requires.v_lt_vertices.2 c.in-Some.is c.step_back.ensures.value in
    let more = ap (λ (k : ℕ). k + 1) c.chain_rows-k.ensures.value ∙ length_more w in
    omega (arith, more, c.requires.v_in_bounds)

pub bounds-list-k : goal.bounds-list-k
bounds-list-k t c =
    let w = chain-goes (kept c.requires.keeps) c.args.u.0 c.args.v c.requires.v_lt_vertices.2 c.in-Some.is c.step_back.ensures.value in
    let more = ap (λ (k : ℕ). k + 1) c.chain_rows-k.ensures.value ∙ length_more w in
    omega (arith, more, c.requires.v_in_bounds, c.chain_rows-k.auto.list)

pub overflow_add-result : goal.overflow_add-result
overflow_add-result t c =
    let w = chain-goes (kept c.requires.keeps) c.args.u.0 c.args.v c.requires.v_lt_vertices.2 c.in-Some.is c.step_back.ensures.value in
    let more = ap (λ (k : ℕ). k + 1) c.chain_rows-k.ensures.value ∙ length_more w in
    omega (arith, more, c.requires.v_in_bounds)

pub returns : goal.returns
returns t c =
    let w = chain-goes (kept c.requires.keeps) c.args.u.0 c.args.v c.requires.v_lt_vertices.2 c.in-Some.is c.step_back.ensures.value in
    let more = ap (λ (k : ℕ). k + 1) c.chain_rows-k.ensures.value ∙ length_more w in
    record {
      value = more;
      list_after = written c.args.list.now w c.chain_rows-k.ensures.value c.chain_rows-k.ensures.list_after (omega (arith, more, c.requires.v_in_bounds));
    }
