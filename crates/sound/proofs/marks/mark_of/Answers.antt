-- `sound::marks::mark_of` meets its contract. Assumes nothing.
use mathlib.Core.Path.{ap}
use Prim.Native.Nat.{ℕ, ◌%◌}
use native.Mathlib.Omega.{arith}
use Rattle.sound.specs.Marks.{mark_of}
use Rattle.sound.proofs.marks.mark_of.Goals as goal

pub returns : goal.returns
unfolding mark_of
returns c = (ap (λ (x : ℕ). x % 16384) c.mixed.ensures, omega arith)
