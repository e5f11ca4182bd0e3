-- `put_leavers` meets its contract: four stores, one after the other, are one. Assumes nothing.
use native.Mathlib.Omega.{arith}
use Prim.Native.Nat.{ℕ}
use mathlib.Core.Path.{ap, ◌∙◌}
use lib.ListN.{length-set}
use Rattle.rows.specs.Number.{stored}
use Rattle.rows.proofs.Laws.{stored-sets}
use Rattle.host.specs.Answers.{set_numbers, set_length}
use Rattle.host.proofs.put_leavers.Goals as goal

pub bounds-head-8 : goal.bounds-head-8
bounds-head-8 c = simp length-set (omega arith)

pub bounds-head-9 : goal.bounds-head-9
bounds-head-9 c = simp length-set (omega arith)

pub returns : goal.returns
unfolding set_numbers
returns c =
    let numbers = c.args.head.now in
    stored-sets 7 (set_numbers set_length c.from-w.result) numbers (omega arith)
    ∙ ap (λ (x : ℕ). stored 7 (set_numbers set_length x) numbers) c.from-w.ensures
