-- `sound::marks::mark` meets its contract: the word of k before, and with its bit. Assumes nothing.
use mathlib.Core.Path.{refl, ap, ◌∙◌}
use Prim.Native.Nat.{◌/◌, ◌%◌, ◌^◌}
use native.Mathlib.Nat.{one-mul}
use native.Mathlib.Omega.{arith}
use lib.Dec.{lit<}
use lib.ListN.{get_or}
use lib.Pow.{shl_exact}
use Rattle.sets.specs.Sets.{union}
use Rattle.sound.specs.Marks.{marked}
use Rattle.sound.proofs.Seen.{with-mark}
use Rattle.sound.proofs.marks.mark.Goals as goal

pub bounds-marks-at : goal.bounds-marks-at
bounds-marks-at c = omega arith

pub overflow_shl-marks : goal.overflow_shl-marks
overflow_shl-marks c = omega arith

pub bounds-marks-at-2 : goal.bounds-marks-at-2
bounds-marks-at-2 c = omega arith

pub overflow_shr-result : goal.overflow_shr-result
overflow_shr-result c = omega arith

pub returns : goal.returns
unfolding marked
returns c =
    let bit = c.args.k % 64 in
    let word = get_or c.args.marks.now (c.args.k / 64) 0 in
    record {
      value = refl;
      marks_after = with-mark _ _ (ap (union word) (shl_exact 1 bit 64 (lit< tt) (omega arith) ∙ one-mul (2 ^ bit)));
    }
