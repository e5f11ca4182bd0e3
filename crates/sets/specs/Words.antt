-- A set of users by value, as the number of Sets, and its sizes. RULES 2.6, "64 bits". Assumes nothing.
use Rattle.std.specs.Prelude.{ℕ, ◌+◌, ◌*◌, ◌/◌, ◌%◌}
use Rattle.sets.specs.declared.Users.{Users}

-- how many users a set can name, and its bytes
abbrev pub people : ℕ
people = 64

abbrev pub bytes : ℕ
bytes = 8

-- the set that is kept, and the value that keeps a set
abbrev pub set_in : Users → ℕ
set_in s = s.0

abbrev pub users_of : ℕ → Users
users_of n = record { 0 = n }

-- nobody, as a value: what an array of sets has past its end
abbrev pub nobody : Users
nobody = users_of 0

-- a set's bits mixed: nothing is claimed of it but that it is one number for each set
unfoldable pub mixed : ℕ → ℕ
mixed s = (s % 4294967296 * 2654435769 % 4294967296 + s / 4294967296 * 2246822519 % 4294967296) / 262144
