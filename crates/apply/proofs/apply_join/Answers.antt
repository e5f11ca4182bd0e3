-- `apply::apply_join` meets its contract. Assumes nothing.
use Rattle.apply.proofs.ApplyLaws.{join_room, join-done}
use Rattle.apply.proofs.apply_join.Goals as goal

pub returns-clause-value : goal.returns-clause-value
returns-clause-value c =
    rw c.answer.ensures.value
    (join-done (join_room _ _ _ c.requires) c.only-s.ensures c.put_set.ensures c.put_set-2.ensures c.put_order.ensures c.put_order-2.ensures
    c.requires c.answer.ensures.bytes)
