-- What a line of the request program asks: the grammar of RULES 10.4, and its first line, 10.3. A line is its bytes without the newline: 32 is the space, 48
-- to 57 are the digits.
-- Assumes nothing.
use Rattle.std.specs.Prelude.{ℕ, zero, suc, ◌+◌, ◌*◌, ◌-◌, Bool, true, false, cond, ◌&&◌, ◌||◌, not, Option, Some, None, List, [], ◌∷◌, map, eqb, leb, ltb, length, get_or}
use Rattle.sets.specs.Sets.{single, union}
use Rattle.sets.specs.Words.{people}
use Rattle.rules.specs.Lists.{every, some, first}
use Rattle.lines.specs.Text.{bytes}
use Rattle.rules.specs.declared.Mode.{Mode}
use Rattle.lines.specs.declared.request.Asked.{Asked}

-- the same bytes
unfoldable pub same : List ℕ → List ℕ → Bool
same [] [] = true
same [] (y ∷ ys) = false
same (x ∷ xs) [] = false
same (x ∷ xs) (y ∷ ys) = eqb x y && same xs ys

-- ---- numbers

unfoldable pub digit : ℕ → Bool
digit c = leb 48 c && leb c 57

-- one to five bytes; it "starts with 0 only if it is `0`"
unfoldable pub shaped : List ℕ → Bool
shaped p = leb 1 (length p) && (leb (length p) 5 && (eqb (length p) 1 || not (eqb (get_or p 0 0) 48)))

-- a NUMBER: "one to five of the digits 0 to 9"
unfoldable pub is_number : List ℕ → Bool
is_number p = shaped p && every digit p

-- the number in decimal digits, behind others that make n
unfoldable pub value_from : ℕ → List ℕ → ℕ
value_from n [] = n
value_from n (c ∷ cs) = value_from (n * 10 + (c - 48)) cs

unfoldable pub value : List ℕ → ℕ
value p = value_from 0 p

unfoldable pub number_in : List ℕ → Option ℕ
number_in p = cond (is_number p) (Some (value p)) None

-- ---- pieces

unfoldable pub longer : ℕ → List (List ℕ) → List (List ℕ)
longer c [] = []
longer c (p ∷ ps) = (c ∷ p) ∷ ps

-- the pieces between spaces; two spaces in a row, or one at an end, give an empty piece
unfoldable pub pieces : List ℕ → List (List ℕ)
pieces [] = [] ∷ []
pieces (c ∷ cs) = let ps = pieces cs in cond (eqb c 32) ([] ∷ ps) (longer c ps)

-- ---- requests

unfoldable pub words : List (List ℕ)
words = bytes "join" ∷ bytes "insert" ∷ bytes "grant" ∷ bytes "revoke" ∷ bytes "open" ∷ bytes "leave" ∷ []

-- which of the words; 6 for none
unfoldable pub kind_of : List ℕ → ℕ
kind_of w = first (same w) words

-- "no NUMBER stands twice in an insert"
unfoldable pub twice : List ℕ → Bool
twice [] = false
twice (n ∷ ns) = some (eqb n) ns || twice ns

-- the set of those that a set can name
unfoldable pub users : List ℕ → ℕ
users [] = 0
users (n ∷ ns) = let s = users ns in cond (ltb n people) (union (single n) s) s

-- a user number over 63: 1 if there is one
unfoldable pub above : List ℕ → ℕ
above ns = cond (some (leb people) ns) 1 0

abbrev pub asking : ℕ → ℕ → ℕ → Option Asked
asking k a b = Some (record { kind = k; a = a; b = b })

unfoldable pub insert_of : List ℕ → Option Asked
insert_of ns = cond (twice ns) None (asking 1 (users ns) (above ns))

-- exactly n numbers, two at most; what a request has no number for is 0
unfoldable pub exactly : ℕ → ℕ → List ℕ → Option Asked
exactly n k ns = cond (eqb (length ns) n) (asking k (get_or ns 0 0) (get_or ns 1 0)) None

-- the request of a word and its numbers, as the row of numbers that `asked` of rules/specs/Calls reads
unfoldable pub row_of : ℕ → List ℕ → Option Asked
row_of zero ns = exactly 0 0 ns
row_of (suc zero) ns = insert_of ns
row_of (suc (suc zero)) ns = exactly 2 2 ns
row_of (suc (suc (suc zero))) ns = exactly 2 3 ns
row_of (suc (suc (suc (suc zero)))) ns = exactly 2 4 ns
row_of (suc (suc (suc (suc (suc zero))))) ns = exactly 1 5 ns
row_of (suc (suc (suc (suc (suc (suc k)))))) ns = None

unfoldable pub asks_for : ℕ → List (List ℕ) → Option Asked
asks_for k ps = cond (every is_number ps) (row_of k (map value ps)) None

unfoldable pub request_of : List (List ℕ) → Option Asked
request_of [] = None
request_of (w ∷ ps) = asks_for (kind_of w) ps

-- "it has at most 512 bytes"
unfoldable pub line_asks : List ℕ → Option Asked
line_asks bs = cond (leb (length bs) 512) (request_of (pieces bs)) None

-- ---- RULES 10.3 "the first line is `full` or `delta`": mode 0 full, 1 delta

unfoldable pub modes : List (List ℕ)
modes = bytes "full" ∷ bytes "delta" ∷ []

unfoldable pub mode_of : ℕ → Option Mode
mode_of k = cond (ltb k 2) (Some (record { 0 = k })) None

unfoldable pub first_line : List ℕ → Option Mode
first_line bs = mode_of (first (same bs) modes)
