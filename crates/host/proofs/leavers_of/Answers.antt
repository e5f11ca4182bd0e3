-- `leavers_of` meets its contract. Assumes nothing.
use native.Mathlib.Omega.{arith}
use Rattle.host.specs.Answers.{set_from}
use Rattle.host.proofs.leavers_of.Goals as goal

pub overflow_cast-high : goal.overflow_cast-high
overflow_cast-high c = omega (arith, c.type_inv.head 9)

pub overflow_cast-high-2 : goal.overflow_cast-high-2
overflow_cast-high-2 c = omega (arith, c.type_inv.head 10)

pub overflow_mul-high : goal.overflow_mul-high
overflow_mul-high c = omega (arith, c.type_inv.head 10)

pub overflow_add-high : goal.overflow_add-high
overflow_add-high c = omega (arith, c.type_inv.head 9, c.type_inv.head 10)

pub overflow_cast-rest : goal.overflow_cast-rest
overflow_cast-rest c = omega (arith, c.type_inv.head 8)

pub overflow_mul-rest : goal.overflow_mul-rest
overflow_mul-rest c = omega (arith, c.type_inv.head 9, c.type_inv.head 10)

pub overflow_add-rest : goal.overflow_add-rest
overflow_add-rest c = omega (arith, c.type_inv.head 8, c.type_inv.head 9, c.type_inv.head 10)

pub overflow_cast-head : goal.overflow_cast-head
overflow_cast-head c = omega (arith, c.type_inv.head 7)

pub overflow_mul-rest-2 : goal.overflow_mul-rest-2
overflow_mul-rest-2 c = omega (arith, c.type_inv.head 8, c.type_inv.head 9, c.type_inv.head 10)

pub overflow_add-head : goal.overflow_add-head
overflow_add-head c =
    omega (
      arith,
      c.type_inv.head 7,
      c.type_inv.head 8,
      c.type_inv.head 9,
      c.type_inv.head 10,
    )

pub returns : goal.returns
unfolding set_from
returns c = omega (arith, c.from.ensures)
