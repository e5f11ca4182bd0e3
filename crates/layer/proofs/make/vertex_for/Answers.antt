-- `layer::make::vertex_for` meets its contract. Assumes nothing.
use Rattle.std.proofs.Common.{ap, ◌∙◌, length, arith}
use Rattle.layer.proofs.MakeLaws.{order-length, room, left_there, left-new}
use Rattle.layer.proofs.make.vertex_for.Goals as goal

pub put_set-requires : goal.put_set-requires
put_set-requires c = omega (arith, (room c.requires c.find_set.ensures c.in-None.is c.cover_of-c.ensures.count_value).sets)

pub put_cover-requires : goal.put_cover-requires
put_cover-requires c = (
  c.requires.low,
  c.requires.high,
  (room c.requires c.find_set.ensures c.in-None.is (ap length (c.vertices-from.ensures ∙ c.cover_of-c.ensures.from_value))).rows,
)

pub put_order-requires : goal.put_order-requires
put_order-requires c = omega (arith, (room c.requires c.find_set.ensures c.in-None.is c.cover_of-c.ensures.count_value).orders)

pub put_orders-requires : goal.put_orders-requires
put_orders-requires c =
    let here = room c.requires c.find_set.ensures c.in-None.is (ap length (c.vertices-from.ensures ∙ c.cover_of-c.ensures.from_value)) in
    omega (arith, here.orders, order-length _ _ _ _ _ c.put_order.ensures (omega (arith, here.orders)))

pub returns-in-Some : goal.returns-in-Some
returns-in-Some c = left_there _ _ _ _ _ _ _ _ c.find_set.ensures c.in-Some.is

pub returns-in-None : goal.returns-in-None
returns-in-None c =
    let here = room c.requires c.find_set.ensures c.in-None.is c.cover_of-c.ensures.count_value in
    left-new _ _ _ _ _ _ _ _ c.requires (omega arith) here (c.vertices-from.ensures ∙ c.cover_of-c.ensures.from_value)
    c.put_set.ensures c.put_cover.ensures c.put_order.ensures c.put_orders.ensures
