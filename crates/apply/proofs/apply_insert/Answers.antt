-- `apply::apply_insert` meets its contract. Assumes nothing.
use borrow.Author.Rules.{rules}
use native.Mathlib.Omega.{arith}
use Rattle.apply.proofs.ApplyLaws.{known}
use Rattle.apply.proofs.InsertLaws.{insert-count, insert-fits, insert-vertex, insert-settle, insert-told, insert-few, insert-done}
use Rattle.apply.proofs.apply_insert.Goals as goal

pub vertex_for-m-requires : goal.vertex_for-m-requires
vertex_for-m-requires c = insert-fits (known c.requires.accepted) c.inner_shape.ensures

pub add_resource-requires : goal.add_resource-requires
add_resource-requires c = (insert-count (known c.requires.accepted)).1

pub overflow_add-head : goal.overflow_add-head
overflow_add-head c = omega (arith, insert-count (known c.requires.accepted))

pub with_inner-requires : goal.with_inner-requires
with_inner-requires c = insert-vertex (known c.requires.accepted) c.inner_shape.ensures c.vertex_for-m.ensures

pub settle-requires : goal.settle-requires
settle-requires c =
    insert-settle (known c.requires.accepted) c.inner_shape.ensures c.vertex_for-m.ensures c.with_inner.ensures c.add_resource.ensures c.requires.p_value

pub encrypt-requires : goal.encrypt-requires
encrypt-requires c =
    insert-told (known c.requires.accepted) c.inner_shape.ensures c.vertex_for-m.ensures c.with_inner.ensures c.add_resource.ensures c.requires.p_value
    (c.settle.ensures.works _ _)

pub answer-requires : goal.answer-requires
answer-requires c =
    insert-few (known c.requires.accepted) c.inner_shape.ensures c.vertex_for-m.ensures c.with_inner.ensures c.add_resource.ensures c.requires.p_value
    (c.settle.ensures.works _ _) (c.encrypt.ensures.works _ _)

pub returns-clause-value : goal.returns-clause-value
returns-clause-value c =
    let given =
    insert-done (known c.requires.accepted) c.inner_shape.ensures c.vertex_for-m.ensures c.with_inner.ensures c.add_resource.ensures c.requires.p_value
    (c.settle.ensures.works _ _) (c.encrypt.ensures.works _ _) c.answer.ensures.bytes in
    search rules
