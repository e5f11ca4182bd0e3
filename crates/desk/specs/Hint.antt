-- What stands in the way of a first line that is neither mode, as far as its bytes tell: what a person is told on standard error. The program's output does
-- not depend on it. 13 is the carriage return, 9 the tab, 32 the space, 65 to 90 are the capitals, 239 187 191 is the byte order mark.
-- Assumes nothing.
use Rattle.std.specs.Prelude.{ℕ, ◌-◌, ◌≡◌, refl, Bool, true, false, cond, ◌&&◌, ◌||◌, List, [], ◌∷◌, map, eqb, leb, length, get_or}
use Rattle.rules.specs.Lists.{some}
use Rattle.lines.specs.Request.{longer}
use Rattle.lines.specs.Text.{bytes}
use Rattle.lines.specs.Program.{lines_in, closed}
use Rattle.desk.specs.declared.hint.Hint.{Hint}
use Rattle.desk.specs.declared.hint.Hint.TheVariants.{Nothing, Empty, Marked, Returned, Blank, Capital, Other}

unfoldable pub blank : ℕ → Bool
blank c = eqb c 32 || eqb c 9

unfoldable pub capital : ℕ → Bool
capital c = leb 65 c && leb c 90

unfoldable pub marked : List ℕ → Bool
marked l = leb 3 (length l) && (eqb (get_or l 0 0) 239 && (eqb (get_or l 1 0) 187 && eqb (get_or l 2 0) 191))

unfoldable pub last_of : List ℕ → ℕ
last_of l = get_or l (length l - 1) 0

-- of a line: the first of these that holds
unfoldable pub hint_for : List ℕ → Hint
hint_for l =
    cond (eqb (length l) 0) Empty
    (cond (marked l) Marked
    (cond (eqb (last_of l) 13) Returned
    (cond (blank (get_or l 0 0) || blank (last_of l)) Blank
    (cond (some capital l) Capital Other))))

-- of the first line of the input; of one that is too long the start was dropped, and nothing is told of it
abbrev pub hint_in : Bool → List (List ℕ) → Hint
hint_in true ls = Other
hint_in false [] = Nothing
hint_in false (l ∷ ls) = hint_for l

-- ---- examples, run: the bytes of an input, and what it should be told

abbrev pub given : List ℕ × Hint → Hint
given row = hint_in false (lines_in (closed row.0))

abbrev pub wanted : List ℕ × Hint → Hint
wanted row = row.1

unfoldable pub hints : List (List ℕ × Hint)
hints =
    ([], Nothing)
    ∷ (bytes "\n", Empty)
    ∷ (bytes "\ndelta\n", Empty)
    ∷ (239 ∷ 187 ∷ 191 ∷ bytes "delta\n", Marked)
    ∷ (239 ∷ 187 ∷ 191 ∷ [], Marked)
    ∷ (239 ∷ 187 ∷ 191 ∷ bytes "delta\r\n", Marked)
    ∷ (239 ∷ 187 ∷ bytes "delta\n", Other)
    ∷ (bytes "delta\r\njoin\r\n", Returned)
    ∷ (bytes "\r", Returned)
    ∷ (bytes "Delta\r\n", Returned)
    ∷ (bytes " delta\n", Blank)
    ∷ (bytes "delta ", Blank)
    ∷ (bytes "full\t\njoin\n", Blank)
    ∷ (bytes "\tFULL\n", Blank)
    ∷ (bytes "Delta\n", Capital)
    ∷ (bytes "FULL", Capital)
    ∷ (bytes "deltA\njoin\n", Capital)
    ∷ (bytes "join\n", Other)
    ∷ (bytes "delta full\n", Other)
    ∷ (bytes "deltas\n", Other)
    ∷ (bytes "de\rlta\nFull\n", Other)
    ∷ []

pub hint-examples : map given hints ≡ map wanted hints
unfolding hints blank capital marked last_of hint_for some lines_in closed longer
hint-examples = refl
