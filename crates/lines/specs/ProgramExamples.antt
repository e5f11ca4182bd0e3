-- The request program run from its definition: the sample of RULES 10.9, P9 and P10, and both sides of the clauses about lines. A row: what the program prints, and what
-- it should.
-- Assumes nothing.
use Rattle.std.specs.Prelude.{ℕ, refl, List, [], ◌∷◌, ◌++◌}
use Prim.Native.String.{String}
use Rattle.sets.specs.Sets.{size_in, size}
use Rattle.rows.specs.Number.{joined}
use Rattle.rules.specs.Lists.{every, some, keep, first, numbered, tabulate_from, tabulate, up_to}
use Rattle.rules.specs.Layer.{set_of, of_size, by_size, takes, cover, vertex_for, found, with_vertex}
use Rattle.rules.specs.Book.{empty_layer, empty_book, resource, has_outer, with_inner, with_outer, with_resources, with_leavers, with_list, with_lock}
use Rattle.rules.specs.Holders.{into, sources, by_token, holders, holders_of, inner_known, outer_known, view}
use Rattle.rules.specs.Sound.{locked_for}
use Rattle.rules.specs.Requests.{done, ◌then◌, told_last, vertex_orders, inner_vertex, outer_vertex, relock, lock, unlock, lock_list, agrees, with_set, join, encrypt, lock_new, insert, let_in, neighbours, grouped, lock_all, settle, lock_near, grant, revoke, naming, revoke_all, gone, leave}
use Rattle.rules.specs.Open.{token_at, back, walk, chain, inner_chain, outer_chain}
use Rattle.rules.specs.Refusals.{verdict, no_such, work, own, limits, opened}
use Rattle.rules.specs.Calls.{order_row, order_rows, chain_rows, asked}
use Rattle.rules.specs.Numbers.{Right}
use Rattle.lines.specs.Text.{bytes}
use Rattle.lines.specs.Request.{same, digit, shaped, is_number, value_from, value, longer, pieces, words, kind_of, twice, users, above, insert_of, exactly, row_of, asks_for, request_of, line_asks, modes, mode_of, first_line}
use Rattle.lines.specs.Answer.{digits_in, digits, numeral, of_open, row_text, rows_text, ok_text, no_text, answer_text}
use Rattle.lines.specs.Program.{lines_in, closed, refused, change_told, open_told, answer_to, no14, line_told, answers, started, answered, program}
use Rattle.lines.specs.Examples.{long}

-- what is printed for a text
unfoldable pub prints : String → List ℕ
prints s = program (bytes s)

unfoldable pub inputs : List (List ℕ × List ℕ)
inputs = (
  prints "delta\njoin\njoin\ninsert 0 1\nopen 1 0\nrevoke 0 1\nopen 1 0\n",
  bytes "ok 2\n4 0 0\n1 0 0\nok 2\n4 1 0\n1 1 0\nok 4\n4 2 0\n5 0 2\n5 1 2\n7 0 2\nok 1\ni 1\nok 1\n3 0 0\nno 11 1\n",
)
    ∷ (prints "", bytes "no 14\n")
    ∷ (prints "\n", bytes "no 14\n")
    ∷ (prints "join\njoin\n", bytes "no 14\n")
    ∷ (prints "delta", [])
    ∷ (prints "delta\n", [])
    ∷ (prints "full\njoin\ninsert 0", bytes "ok 2\n4 0 0\n1 0 0\nok 2\n3 0 0\n7 0 0\n")
    ∷ (prints "full\njoin\njoin\ninsert 0\ngrant 0 1", bytes "ok 2\n4 0 0\n1 0 0\nok 2\n4 1 0\n1 1 0\nok 2\n3 0 0\n7 0 0\nok 5\n1 2 0\n2 0 2\n2 1 2\n3 0 2\n6 1 0\n")
    ∷ (prints "delta\n\n", bytes "no 14\n")
    ∷ (prints "delta\n\njoin \ninsert 0 0\ndelta\njoin", bytes "no 14\nno 14\nno 14\nno 14\nok 2\n4 0 0\n1 0 0\n")
    ∷ (prints "delta\ninsert\ninsert 64\ninsert 0\ngrant 0 0\nrevoke 0 99999", bytes "no 4\nno 1\nno 1\nno 1\nno 1\n")
    ∷ (
      prints "delta\njoin\njoin\ninsert 0 1\ninsert 1\nleave 1\nopen 1 0\nleave 1\ngrant 1 1\ninsert 0 1\nrevoke 0 1\nleave 2\nleave\nleave 0",
      bytes "ok 2\n4 0 0\n1 0 0\nok 2\n4 1 0\n1 1 0\nok 4\n4 2 0\n5 0 2\n5 1 2\n7 0 2\nok 1\n7 1 1\nok 3\n3 0 0\n1 2 0\n3 1 2\nno 11 1\nno 15\nno 15\nno 15\nno 6\nno 1\nno 14\nok 1\n3 0 2\n",
    )
    ∷ (program (bytes "delta\n" ++ (long ++ bytes " 0\n")), bytes "no 1\n")
    ∷ (program (bytes "delta\n" ++ (long ++ bytes " 10\n")), bytes "no 14\n")
    ∷ (program (bytes "delta\n" ++ (long ++ bytes " 0")), bytes "no 1\n")
    ∷ (program (bytes "delta\n" ++ (long ++ bytes " 10")), bytes "no 14\n")
    ∷ []

pub program-examples : Right inputs
unfolding Right inputs prints long order_row order_rows chain_rows asked joined
    size_in size every some keep first numbered tabulate_from tabulate up_to
    set_of of_size by_size takes cover vertex_for found with_vertex
    empty_layer empty_book resource has_outer with_inner with_outer with_resources with_leavers with_list with_lock
    into sources by_token holders holders_of inner_known outer_known view locked_for
    done ◌then◌ told_last vertex_orders inner_vertex outer_vertex relock lock unlock lock_list agrees with_set join encrypt lock_new insert
    let_in neighbours grouped lock_all settle lock_near grant revoke naming revoke_all gone leave
    token_at back walk chain inner_chain outer_chain verdict no_such work own limits opened
    same digit shaped is_number value_from value longer pieces words kind_of twice users above insert_of exactly row_of asks_for request_of line_asks modes mode_of first_line
    digits_in digits numeral of_open row_text rows_text ok_text no_text answer_text
    lines_in closed refused change_told open_told answer_to no14 line_told answers started answered program
program-examples = (refl, (refl, (refl, (refl, (refl, (refl, (refl, (refl, (refl, (refl, (refl, (refl, (refl, (refl, (refl, (refl, tt))))))))))))))))
