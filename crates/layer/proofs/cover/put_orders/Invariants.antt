use Rattle.std.proofs.Common.{◌≡◌, ◌*◌, take}
use Rattle.rows.specs.Number.{stored}
use Rattle.layer.specs.Cover.{cover_orders}
use Rattle.layer.proofs.cover.put_orders.Given as goal

abbrev pub invariant-loop-i : goal.invariant-loop-i
invariant-loop-i l =
    l.orders ≡ stored (l.row * 3) (cover_orders l.kind l.new (take l.i l.from)) l.initial.orders
