-- Worked examples, run from the definitions: lines on both sides of each clause of RULES 10.3 and 10.4, and the answers of its sample.
-- A row: what the definitions give, and what it should be.
-- Assumes nothing.
use Rattle.std.specs.Prelude.{ℕ, ◌+◌, ◌≡◌, refl, Option, Some, None, List, [], ◌∷◌, ◌++◌, map}
use Prim.Native.String.{String}
use Rattle.rows.specs.Number.{joined}
use Rattle.rules.specs.Lists.{every, some, first, tabulate_from, tabulate}
use Rattle.lines.specs.Text.{bytes}
use Rattle.lines.specs.Request.{same, digit, shaped, is_number, value_from, value, longer, pieces, words, kind_of, twice, users, above, insert_of, exactly, row_of, asks_for, request_of, line_asks, modes, mode_of, first_line}
use Rattle.lines.specs.Answer.{digits_in, digits, numeral, of_open, row_text, rows_text, ok_text, no_text, answer_text}
use Rattle.rules.specs.declared.Mode.{Mode}
use Rattle.lines.specs.declared.request.Asked.{Asked}

abbrev pub given : List ℕ × List ℕ → List ℕ
given row = row.0

abbrev pub wanted : List ℕ × List ℕ → List ℕ
wanted row = row.1

-- ---- lines: a request's row of numbers, a first line's mode

unfoldable pub malformed : List ℕ
malformed = []

unfoldable pub row_in : Option Asked → List ℕ
row_in (Some r) = r.kind ∷ r.a ∷ r.b ∷ []
row_in None = malformed

unfoldable pub asks : String → List ℕ
asks s = row_in (line_asks (bytes s))

unfoldable pub mode_in : Option Mode → List ℕ
mode_in (Some m) = m.0 ∷ []
mode_in None = malformed

unfoldable pub starts : String → List ℕ
starts s = mode_in (first_line (bytes s))

-- an insert of 510 bytes: 84 numbers of 5 digits
unfoldable pub long : List ℕ
long = bytes "insert" ++ joined (tabulate 84 (λ i. 32 ∷ digits (10000 + i)))

unfoldable pub lines : List (List ℕ × List ℕ)
lines =
    (asks "join", 0 ∷ 0 ∷ 0 ∷ [])
    ∷ (asks "insert 0 1", 1 ∷ 3 ∷ 0 ∷ [])
    ∷ (asks "insert 1 0", 1 ∷ 3 ∷ 0 ∷ [])
    ∷ (asks "insert 63 64", 1 ∷ 9223372036854775808 ∷ 1 ∷ [])
    ∷ (asks "insert", 1 ∷ 0 ∷ 0 ∷ [])
    ∷ (asks "insert 99999", 1 ∷ 0 ∷ 1 ∷ [])
    ∷ (asks "grant 0 2", 2 ∷ 0 ∷ 2 ∷ [])
    ∷ (asks "revoke 65536 0", 3 ∷ 65536 ∷ 0 ∷ [])
    ∷ (asks "open 1 0", 4 ∷ 1 ∷ 0 ∷ [])
    ∷ (asks "leave 0", 5 ∷ 0 ∷ 0 ∷ [])
    ∷ (asks "leave 64", 5 ∷ 64 ∷ 0 ∷ [])
    ∷ (asks "leave 99999", 5 ∷ 99999 ∷ 0 ∷ [])
    ∷ (asks "", malformed)
    ∷ (asks " ", malformed)
    ∷ (asks " join", malformed)
    ∷ (asks "join ", malformed)
    ∷ (asks "join 0", malformed)
    ∷ (asks "Join", malformed)
    ∷ (asks "join\r", malformed)
    ∷ (asks "joined", malformed)
    ∷ (asks "insert ", malformed)
    ∷ (asks "insert  0", malformed)
    ∷ (asks "insert 0 ", malformed)
    ∷ (asks "insert\t0", malformed)
    ∷ (asks "insert 0 0", malformed)
    ∷ (asks "insert 70 70", malformed)
    ∷ (asks "insert 0 0 70", malformed)
    ∷ (asks "insert 100000", malformed)
    ∷ (asks "insert 70 100000", malformed)
    ∷ (asks "grant", malformed)
    ∷ (asks "grant 0", malformed)
    ∷ (asks "grant 0 1 2", malformed)
    ∷ (asks "grant 00 1", malformed)
    ∷ (asks "grant 01 1", malformed)
    ∷ (asks "grant +1 1", malformed)
    ∷ (asks "grant -0 1", malformed)
    ∷ (asks "grant 1.0 1", malformed)
    ∷ (asks "open 1 000001", malformed)
    ∷ (asks "leave", malformed)
    ∷ (asks "leave ", malformed)
    ∷ (asks "leave 0 1", malformed)
    ∷ (asks "Leave 0", malformed)
    ∷ (asks "leave 01", malformed)
    ∷ (asks "leave  0", malformed)
    ∷ (asks "leave 100000", malformed)
    ∷ (asks "view 1 0", malformed)
    ∷ (asks "section 1", malformed)
    ∷ (asks "delta", malformed)
    ∷ (row_in (line_asks (long ++ bytes " 0")), 1 ∷ 1 ∷ 1 ∷ [])
    ∷ (row_in (line_asks (long ++ bytes " 10")), malformed)
    ∷ (starts "full", 0 ∷ [])
    ∷ (starts "delta", 1 ∷ [])
    ∷ (starts "", malformed)
    ∷ (starts "delta ", malformed)
    ∷ (starts "delta\r", malformed)
    ∷ (starts "Full", malformed)
    ∷ []

pub line-examples : map given lines ≡ map wanted lines
unfolding lines long malformed row_in asks mode_in starts joined every some first tabulate_from tabulate digits_in digits same digit shaped is_number value_from value longer pieces words kind_of twice users above insert_of exactly row_of asks_for request_of line_asks modes mode_of first_line
line-examples = refl

-- ---- answers: number, view and rows, and the text

unfoldable pub texts : List (List ℕ × List ℕ)
texts =
    (answer_text 0 0 (4 ∷ 0 ∷ 0 ∷ 1 ∷ 0 ∷ 0 ∷ []), bytes "ok 2\n4 0 0\n1 0 0\n")
    ∷ (answer_text 0 0 (4 ∷ 2 ∷ 0 ∷ 5 ∷ 0 ∷ 2 ∷ 5 ∷ 1 ∷ 2 ∷ 7 ∷ 0 ∷ 2 ∷ []), bytes "ok 4\n4 2 0\n5 0 2\n5 1 2\n7 0 2\n")
    ∷ (answer_text 0 0 (105 ∷ 1 ∷ 0 ∷ []), bytes "ok 1\ni 1\n")
    ∷ (answer_text 0 0 (105 ∷ 40 ∷ 0 ∷ 111 ∷ 4095 ∷ 0 ∷ []), bytes "ok 2\ni 40\no 4095\n")
    ∷ (answer_text 0 0 (3 ∷ 0 ∷ 65535 ∷ []), bytes "ok 1\n3 0 65535\n")
    ∷ (answer_text 0 0 [], bytes "ok 0\n")
    ∷ (answer_text 11 1 [], bytes "no 11 1\n")
    ∷ (answer_text 14 0 [], bytes "no 14\n")
    ∷ (answer_text 1 0 [], bytes "no 1\n")
    ∷ (answer_text 15 0 [], bytes "no 15\n")
    ∷ []

pub text-examples : map given texts ≡ map wanted texts
unfolding texts digits_in digits numeral of_open row_text rows_text ok_text no_text answer_text
text-examples = refl
