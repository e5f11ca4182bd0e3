-- What is wrong with bytes, and where, run on books for each number and each clause of the order. RULES 9.10, 9.11. Proved of them: proofs/Places.antt, `each-place`.
-- Assumes nothing.
use Rattle.std.specs.Prelude.{ℕ, List, [], ◌∷◌, ◌++◌, take, drop}
use Rattle.std.proofs.Math.Option.{Option, some, none}
use Rattle.rows.specs.Number.{stored}
use Rattle.rules.specs.Layer.{token}
use Rattle.rules.specs.Book.{Resource}
use Rattle.rules.specs.Bytes.{write, read, fault_number, fault_place, fault, renewed}
use Rattle.rules.specs.Broken.{layer, folder, two, full, pair, owns, both, empty_bytes}
use Rattle.rules.specs.declared.Fault.{Fault}

-- number and place, two zeros where there is no fault
unfoldable pub told_by : Option Fault → List ℕ
told_by none = 0 ∷ 0 ∷ []
told_by (some f) = fault_number f ∷ fault_place f ∷ []

unfoldable pub told : List ℕ → List ℕ
told bs = told_by (fault bs)

-- two folders for both users
unfoldable pub twice : List Resource
twice = folder 3 2 65535 ∷ folder 3 2 65535 ∷ []

-- the bytes in version 1
unfoldable pub older : List ℕ → List ℕ
older bs = take 3 bs ++ (1 ∷ 0 ∷ []) ++ take 12 (drop 5 bs) ++ drop 25 bs

-- a sound delta book of 99 bytes: sections at 25, 49, 59, 75 and 75
unfoldable pub good : List ℕ
good = write (two pair owns twice)

-- the example of RULES 9.9: sections at 25, 49, 59, 75 and 75, 87 bytes
unfoldable pub example : List ℕ
example = write (two pair owns both)

unfoldable pub places : List (List ℕ × List ℕ)
places =
    -- a sound book
    (told good, 0 ∷ 0 ∷ [])
    -- no bytes; 16 bytes, with a wrong mark; 17, with a wrong mark, and by its counts too few, and enough; 18
    ∷ (told [], 24 ∷ 0 ∷ [])
    ∷ (told (take 16 (stored 0 (0 ∷ []) good)), 24 ∷ 16 ∷ [])
    ∷ (told (take 17 (stored 0 (0 ∷ []) good)), 20 ∷ 0 ∷ [])
    ∷ (told (take 17 good), 24 ∷ 17 ∷ [])
    ∷ (told (empty_bytes 0x54 1 1 11), 0 ∷ 0 ∷ [])
    ∷ (told (empty_bytes 0x54 1 1 12), 24 ∷ 18 ∷ [])
    -- version 2 has eight more: 17, 24, 25, 26; its header has not, so that a bad count of 17 bytes is told
    ∷ (told (empty_bytes 0x54 2 1 11), 24 ∷ 17 ∷ [])
    ∷ (told (empty_bytes 0x54 2 1 18), 24 ∷ 24 ∷ [])
    ∷ (told (empty_bytes 0x54 2 1 19), 0 ∷ 0 ∷ [])
    ∷ (told (empty_bytes 0x54 2 1 20), 24 ∷ 26 ∷ [])
    ∷ (told (take 17 (stored 6 (65 ∷ []) good)), 23 ∷ 6 ∷ [])
    -- the mark, before the version
    ∷ (told (stored 0 (84 ∷ 75 ∷ 67 ∷ 3 ∷ []) good), 20 ∷ 0 ∷ [])
    -- the version, a 16-bit number, before the mode; there is no 0 and no 3
    ∷ (told (stored 3 (1 ∷ 1 ∷ 2 ∷ []) good), 21 ∷ 3 ∷ [])
    ∷ (told (stored 3 (2 ∷ 1 ∷ []) good), 21 ∷ 3 ∷ [])
    ∷ (told (stored 3 (0 ∷ []) good), 21 ∷ 3 ∷ [])
    ∷ (told (stored 3 (3 ∷ []) good), 21 ∷ 3 ∷ [])
    -- the mode, before the counts
    ∷ (told (stored 5 (2 ∷ 65 ∷ []) good), 22 ∷ 5 ∷ [])
    -- the counts, users first, each at its own field; before the length
    ∷ (told (stored 6 (65 ∷ 1 ∷ 1 ∷ []) good), 23 ∷ 6 ∷ [])
    ∷ (told (stored 7 (1 ∷ 1 ∷ []) good), 23 ∷ 7 ∷ [])
    ∷ (told (stored 7 (0 ∷ 0 ∷ []) good), 23 ∷ 9 ∷ [])
    ∷ (told (stored 9 (5 ∷ 0 ∷ []) good), 23 ∷ 9 ∷ [])
    -- the length found, one more, one less
    ∷ (told (good ++ (0 ∷ [])), 24 ∷ 100 ∷ [])
    ∷ (told (take 98 good), 24 ∷ 98 ∷ [])
    -- before S1
    ∷ (told (take 98 (stored 17 (255 ∷ []) good)), 24 ∷ 98 ∷ [])
    -- inner tokens, outer vertices, outer tokens: one past the limit
    ∷ (told (stored 11 (1 ∷ 16 ∷ []) good), 23 ∷ 11 ∷ [])
    ∷ (told (stored 13 (195 ∷ 1 ∷ []) good), 23 ∷ 13 ∷ [])
    ∷ (told (stored 15 (1 ∷ 16 ∷ []) good), 23 ∷ 15 ∷ [])
    -- outer vertices at the limit: then the length
    ∷ (told (stored 13 (194 ∷ 1 ∷ []) good), 24 ∷ 99 ∷ [])
    -- a set, a kind, a number: the first row of the file that breaks S1
    ∷ (told (write (two (layer (1 ∷ 6 ∷ 3 ∷ []) (token 0 2 2 ∷ token 1 2 0 ∷ [])) owns twice)), 31 ∷ 33 ∷ [])
    ∷ (told (write (two (layer (1 ∷ 2 ∷ 3 ∷ []) (token 0 2 0 ∷ token 1 2 2 ∷ [])) (layer (1 ∷ 4 ∷ []) []) twice)), 31 ∷ 54 ∷ [])
    ∷ (told (write (two (layer (1 ∷ 2 ∷ 3 ∷ []) (token 0 2 0 ∷ token 65535 2 0 ∷ [])) owns twice)), 31 ∷ 54 ∷ [])
    ∷ (told (write (two (layer (1 ∷ 2 ∷ 3 ∷ []) (token 0 3 0 ∷ token 1 2 2 ∷ [])) owns twice)), 31 ∷ 49 ∷ [])
    -- outer sets, then outer tokens, then resources
    ∷ (told (write (two pair (layer (1 ∷ 2 ∷ 4 ∷ []) (token 0 3 0 ∷ [])) twice)), 31 ∷ 75 ∷ [])
    ∷ (told (write (two pair (layer (1 ∷ 2 ∷ 3 ∷ []) (token 0 2 0 ∷ token 1 3 0 ∷ [])) (folder 4 2 65535 ∷ folder 3 2 65535 ∷ []))), 31 ∷ 87 ∷ [])
    ∷ (told (write (two pair owns (folder 3 2 65535 ∷ folder 4 2 65535 ∷ []))), 31 ∷ 87 ∷ [])
    ∷ (told (write (two pair owns (folder 3 2 2 ∷ folder 3 65535 65535 ∷ []))), 31 ∷ 75 ∷ [])
    -- the set of leavers before all rows; a list that names a leaver, at its row; both
    ∷ (told (stored 17 (4 ∷ []) (write (two (layer (1 ∷ 6 ∷ 3 ∷ []) (token 0 2 0 ∷ token 1 2 0 ∷ [])) owns twice))), 31 ∷ 17 ∷ [])
    ∷ (told (stored 24 (128 ∷ []) good), 31 ∷ 17 ∷ [])
    ∷ (told (stored 17 (2 ∷ []) (write (two pair owns (folder 1 2 0 ∷ folder 3 2 65535 ∷ [])))), 31 ∷ 87 ∷ [])
    ∷ (told (stored 17 (2 ∷ []) (write (two pair owns (folder 1 2 0 ∷ folder 1 2 0 ∷ [])))), 0 ∷ 0 ∷ [])
    ∷ (told (stored 17 (6 ∷ []) good), 31 ∷ 17 ∷ [])
    -- the last row of S1 before any of S2
    ∷ (told (write (two (layer (1 ∷ 0 ∷ 3 ∷ []) (token 0 2 0 ∷ token 1 2 0 ∷ [])) owns (folder 3 2 65535 ∷ folder 3 3 65535 ∷ []))), 31 ∷ 87 ∷ [])
    -- a missing vertex, of the outer layer too, before an empty set in an earlier byte
    ∷ (told (write (two (layer (1 ∷ 0 ∷ 3 ∷ []) (token 0 2 0 ∷ token 1 2 0 ∷ [])) owns twice)), 32 ∷ 65535 ∷ [])
    ∷ (told (write (two (layer (0 ∷ 2 ∷ 1 ∷ []) (token 0 2 0 ∷ token 1 2 0 ∷ [])) (layer (1 ∷ 3 ∷ []) []) twice)), 32 ∷ 65535 ∷ [])
    -- and before a token into an own vertex
    ∷ (told (write (two (layer (1 ∷ 3 ∷ 3 ∷ []) (token 1 0 0 ∷ [])) owns twice)), 32 ∷ 65535 ∷ [])
    -- an empty inner set before the token into an own vertex; that token
    ∷ (told (write (two (layer (1 ∷ 2 ∷ 3 ∷ 0 ∷ []) (token 0 1 0 ∷ [])) owns twice)), 32 ∷ 49 ∷ [])
    ∷ (told (write (two (layer (1 ∷ 2 ∷ 3 ∷ []) (token 0 2 0 ∷ token 1 2 0 ∷ token 2 1 0 ∷ [])) (layer (1 ∷ 2 ∷ []) (token 0 1 0 ∷ [])) twice)), 32 ∷ 59 ∷ [])
    ∷ (told (write (two pair (layer (1 ∷ 2 ∷ []) (token 0 1 0 ∷ [])) twice)), 32 ∷ 75 ∷ [])
    -- a kind 1 token may enter; two vertices of one user are S2's where a token enters one, else S3's
    ∷ (told (write (two (layer (1 ∷ 2 ∷ 3 ∷ []) (token 0 2 0 ∷ token 1 2 0 ∷ token 0 1 1 ∷ [])) owns (folder 3 2 65535 ∷ []))), 0 ∷ 0 ∷ [])
    ∷ (told (write (two (layer (1 ∷ 2 ∷ 3 ∷ 2 ∷ []) (token 0 2 0 ∷ token 1 2 0 ∷ token 0 3 0 ∷ [])) owns twice)), 32 ∷ 67 ∷ [])
    ∷ (told (write (two (layer (1 ∷ 2 ∷ 3 ∷ 2 ∷ []) (token 0 2 0 ∷ token 1 2 0 ∷ [])) owns twice)), 33 ∷ 49 ∷ [])
    -- of equal sets the later; the outer layer's before S4 in the inner one
    ∷ (told (write (two (layer (1 ∷ 2 ∷ 3 ∷ 3 ∷ []) (token 0 2 0 ∷ token 1 2 0 ∷ [])) (layer (1 ∷ 1 ∷ 2 ∷ []) []) twice)), 33 ∷ 49 ∷ [])
    ∷ (told (write (two (layer (1 ∷ 2 ∷ 3 ∷ []) (token 0 2 0 ∷ token 2 2 0 ∷ [])) (layer (1 ∷ 2 ∷ 0 ∷ 0 ∷ []) []) twice)), 33 ∷ 83 ∷ [])
    -- S4: the token; from an empty set
    ∷ (told (write (two (layer (1 ∷ 2 ∷ 3 ∷ []) (token 0 2 0 ∷ token 2 2 0 ∷ [])) (layer (1 ∷ 2 ∷ 3 ∷ []) []) twice)), 34 ∷ 54 ∷ [])
    ∷ (told (write (two pair (layer (1 ∷ 2 ∷ 0 ∷ 3 ∷ []) (token 0 3 0 ∷ token 2 3 0 ∷ [])) twice)), 34 ∷ 95 ∷ [])
    -- S5: the vertex, not a token
    ∷ (told (write (two (layer (1 ∷ 2 ∷ 3 ∷ []) (token 0 2 0 ∷ [])) (layer (1 ∷ 2 ∷ 3 ∷ []) []) twice)), 35 ∷ 41 ∷ [])
    ∷ (told (write (two pair (layer (1 ∷ 2 ∷ 3 ∷ []) (token 1 2 0 ∷ [])) twice)), 35 ∷ 75 ∷ [])
    -- S6: a row twice, the later; a kind 1 row of a group, or to a set that has the user: whichever row is first
    ∷ (told (write (two (layer (1 ∷ 2 ∷ 3 ∷ []) (token 0 2 0 ∷ token 1 2 0 ∷ token 0 2 0 ∷ token 2 0 1 ∷ [])) owns twice)), 36 ∷ 59 ∷ [])
    ∷ (told (write (two (layer (1 ∷ 2 ∷ 3 ∷ []) (token 0 2 0 ∷ token 2 0 1 ∷ token 1 2 0 ∷ token 0 2 0 ∷ [])) owns twice)), 36 ∷ 54 ∷ [])
    ∷ (told (write (two (layer (1 ∷ 2 ∷ 3 ∷ []) (token 0 2 1 ∷ token 0 2 0 ∷ token 1 2 0 ∷ [])) (layer (1 ∷ 2 ∷ 3 ∷ []) (token 0 2 0 ∷ token 1 2 0 ∷ token 0 2 0 ∷ [])) twice)), 36 ∷ 49 ∷ [])
    ∷ (told (write (two pair (layer (1 ∷ 2 ∷ 3 ∷ []) (token 0 2 0 ∷ token 1 2 0 ∷ token 0 2 0 ∷ [])) (folder 3 0 65535 ∷ []))), 36 ∷ 91 ∷ [])
    -- S7, then S8: the resource
    ∷ (told (write (two pair pair (folder 3 2 2 ∷ folder 3 0 2 ∷ []))), 37 ∷ 103 ∷ [])
    ∷ (told (write (two pair owns (folder 3 2 65535 ∷ folder 1 2 65535 ∷ []))), 38 ∷ 87 ∷ [])
    ∷ (told (write (two pair pair (folder 3 2 65535 ∷ folder 3 2 2 ∷ []))), 38 ∷ 103 ∷ [])
    -- no outer key is S8's in mode full, not S1's
    ∷ (told (write (full pair owns twice)), 38 ∷ 75 ∷ [])
    -- the examples of RULES 9.12
    ∷ (told example, 0 ∷ 0 ∷ [])
    ∷ (told (stored 5 (2 ∷ []) example), 22 ∷ 5 ∷ [])
    ∷ (told (stored 7 (0 ∷ []) example), 23 ∷ 9 ∷ [])
    ∷ (told (stored 16 (1 ∷ []) example), 24 ∷ 87 ∷ [])
    ∷ (told (stored 3 (1 ∷ []) example), 24 ∷ 87 ∷ [])
    ∷ (told (stored 17 (4 ∷ []) example), 31 ∷ 17 ∷ [])
    ∷ (told (stored 17 (2 ∷ []) example), 31 ∷ 75 ∷ [])
    ∷ (told (stored 58 (2 ∷ []) example), 31 ∷ 54 ∷ [])
    ∷ (told (stored 58 (1 ∷ []) example), 35 ∷ 41 ∷ [])
    ∷ (told (stored 60 (1 ∷ []) example), 31 ∷ 59 ∷ [])
    ∷ (told (stored 59 (2 ∷ []) example), 32 ∷ 65535 ∷ [])
    ∷ (told (stored 85 (0 ∷ []) example), 31 ∷ 75 ∷ [])
    ∷ (told (stored 85 (0 ∷ 0 ∷ []) example), 38 ∷ 75 ∷ [])
    ∷ (told (older example), 0 ∷ 0 ∷ [])
    ∷ (told (stored 50 (2 ∷ []) (older example)), 31 ∷ 46 ∷ [])
    -- version 1, by its own layout: a row of each section, a length, an outer vertex that is missing
    ∷ (told (older good), 0 ∷ 0 ∷ [])
    ∷ (told (take 90 (older good)), 24 ∷ 90 ∷ [])
    ∷ (told (stored 17 (4 ∷ []) (older good)), 31 ∷ 17 ∷ [])
    ∷ (told (stored 25 (6 ∷ []) (older good)), 31 ∷ 25 ∷ [])
    ∷ (told (stored 75 (9 ∷ []) (older good)), 31 ∷ 67 ∷ [])
    ∷ (told (stored 51 (2 ∷ []) (older good)), 32 ∷ 65535 ∷ [])
    ∷ (told (stored 79 (1 ∷ []) (older good)), 38 ∷ 79 ∷ [])
    -- what is written for them is version 2
    ∷ (renewed (older good), good)
    ∷ (write (read (older good)), good)
    ∷ (renewed good, good)
    ∷ []
