-- `layer::put_order` meets its contract: three numbers stored one after the other are one store of the row. Assumes nothing.
use mathlib.Core.Path.{◌≡◌}
use Prim.Native.Nat.{suc, ◌+◌, ◌*◌}
use native.Mathlib.Numerals.{add-one}
use native.Mathlib.Omega.{arith}
use Rattle.rows.proofs.Laws.{stored-sets}
use Rattle.layer.specs.Cover.{order_of}
use Rattle.layer.proofs.cover.put_order.Goals as goal

pub returns : goal.returns
returns c =
    let at = c.args.row * 3 in
    let two : at + 2 ≡ suc (suc at) = omega arith in
    rw (two, add-one) (stored-sets at (order_of c.args.kind c.args.a c.args.b) c.args.orders.now c.requires)
