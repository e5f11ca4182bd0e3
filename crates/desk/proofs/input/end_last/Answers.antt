-- `desk::input::end_last` meets its contract. Assumes nothing.
use native.Mathlib.Omega.{arith}
use lib.ListN.{length-set}
use mathlib.Core.Path.{◌≡◌, refl}
use mathlib.Core.Bool.{true}
use mathlib.Core.Logic.{◌⊎◌, inl, inr}
use Prim.Native.Nat.{◌<◌}
use Rattle.desk.proofs.PendingLaws.{end_empty, end-some, end_line}
use borrow.Author.Tests.{not-true, not-false}
use Rattle.desk.proofs.input.end_last.Goals as goal
use Rattle.desk.proofs.input.end_last.Goals.{else-to-eq0-via-then-to-eq0+else-not-u, else-to-eq0-via-else-to-eq0}

pub returns-then-not-u : goal.returns-then-not-u
returns-then-not-u c =
    let u = c.args.u in
    let input = c.args.input.now in
    record {
      within = record { ordered = omega arith; inside = omega arith };
      ends = record { bytes = end_empty u input c.requires.kept c.if-to-eq0.true (not-true _ c.if-not-u.true); ended = refl };
    }

pub returns : goal.returns
returns c =
    let u = c.args.u in
    let input = c.args.input.now in
    let some : (0 < u.to) ⊎ (u.cut ≡ true) = elim c.else-to-eq0.branch [
      | else-to-eq0-via-then-to-eq0+else-not-u w ↦ inr (not-false _ w.if-not-u.false)
      | else-to-eq0-via-else-to-eq0 w ↦ inl (omega (arith, w.if-to-eq0.false))
    ] in
    record {
      within = record { ordered = omega arith; inside = simp length-set (omega arith) };
      ends = record { bytes = end_line u input c.requires.kept (end-some u input c.requires.kept c.requires.in_bounds some) (omega arith) c.requires.input_value; ended = refl };
    }
