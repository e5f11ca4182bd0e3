-- A text as its bytes. The texts of RULES 10 have ASCII characters only, one byte each.
-- Assumes nothing.
use Rattle.std.specs.Prelude.{ℕ, List, [], ◌∷◌}
use Prim.Native.Char.{code}
use Prim.Native.String.{String, [] as empty, ◌∷◌ as ◌then◌}

abbrev pub bytes : String → List ℕ
bytes empty = []
bytes (c then s) = code c ∷ bytes s
