use Rattle.std.proofs.Common.{◌≡◌, ◌*◌, take}
use Rattle.rows.specs.Number.{stored}
use Rattle.layer.specs.Cover.{cover_bytes}
use Rattle.layer.proofs.cover.put_cover.Given as goal

abbrev pub invariant-loop-i : goal.invariant-loop-i
invariant-loop-i l =
    l.tokens ≡ stored (l.row * l.width) (cover_bytes l.width l.new (take l.i l.from)) l.initial.tokens
