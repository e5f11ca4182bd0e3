-- What the check program prints for some inputs, run: the example of RULES 9.9, and its bytes with some of them changed.
-- Assumes nothing.
use Rattle.std.specs.Prelude.{ℕ, ◌≡◌, refl, List, [], ◌∷◌, ◌++◌, map, take}
use Rattle.sets.specs.Sets.{size_in, size}
use Rattle.rows.specs.Number as rows
use Rattle.rows.specs.Number.{bytes_of, cell, stored, rows_of, joined}
use Rattle.rules.specs.Lists as lists
use Rattle.rules.specs.Lists.{every, keep, first, numbered, tabulate_from, tabulate, up_to}
use Rattle.rules.specs.Tests.{unlike_earlier, broken, or_rule, first_rule, when, first_some}
use Rattle.rules.specs.Layer.{set_of}
use Rattle.rules.specs.Book.{has_outer}
use Rattle.rules.specs.Holders.{into, sources, by_token, holders}
use Rattle.rules.specs.Sound as sound
use Rattle.rules.specs.Sound.{joined_set, placed_row, plain_row, has_own, not_empty, enters_group, unequal, rising_row, united_vertex, lateral_row, other_row, new_row, count_limits, in_limit, placed, held, locked_for, locked, rows1, rows2, rows3, rows4, rows5, rows6, rows7, rows8}
use Rattle.rules.specs.Bytes.{set_row, inner_row, outer_row, resource_row, token_of, resource_of, sets_in, tokens_in, resources_in, set_bytes, inner_bytes, outer_bytes, resource_bytes, head_of, counts, book_in, header, write, version_in, fore, leavers_in, head_in, total, start, section, sections, read, limits_of, bad_count, place_of, rule_fault, fault}
use Rattle.rules.specs.Broken.{pair, owns, both}
use Rattle.rules.specs.Places.{example}
use Rattle.lines.specs.Text.{bytes}
use Rattle.lines.specs.Answer.{digits_in, digits, numeral}
use Rattle.inspect.specs.Text.{mode_text, people_text, layers_text, leavers_text, head_text, refused_text, limit_at, count_words, count_text, header_text, length_text, section_words, row_text, broken_text, answer_text, check_text}

abbrev pub given : List ℕ × List ℕ → List ℕ
given row = check_text row.0

abbrev pub wanted : List ℕ × List ℕ → List ℕ
wanted row = row.1

-- user 1 has left, and the folder is locked for user 0
unfoldable pub left : List ℕ
left = stored 17 (2 ∷ []) (stored 75 (1 ∷ []) (stored 85 (0 ∷ 0 ∷ []) example))

unfoldable pub texts : List (List ℕ × List ℕ)
texts =
    (example, bytes "sound\nmode delta\nusers 2\nfolders 1\ninner vertices 3\ninner tokens 2\nouter vertices 2\nouter tokens 0\nleavers 0\n")
    ∷ (left, bytes "sound\nmode delta\nusers 2\nfolders 1\ninner vertices 3\ninner tokens 2\nouter vertices 2\nouter tokens 0\nleavers 1\n")
    ∷ ([], bytes "no 24 0\nwrong length: a header has 17 bytes\n")
    ∷ (take 20 example, bytes "no 24 20\nwrong length: by its version and its counts the book has 87 bytes\n")
    ∷ (stored 7 (0 ∷ []) (take 20 example), bytes "no 23 9\nthe count of inner vertices is over its limit, users + folders, which is 2\n")
    ∷ (example ++ (0 ∷ []), bytes "no 24 88\nwrong length: by its version and its counts the book has 87 bytes\n")
    ∷ (stored 3 (1 ∷ []) example, bytes "no 24 87\nwrong length: by its version and its counts the book has 79 bytes\n")
    ∷ (stored 17 (4 ∷ []) example, bytes "no 31 17\nthe set of leavers: S1 is broken, numbers: kinds are 0 or 1, vertex numbers belong to vertices of that layer, sets and lists name only users who have joined, and no list names one who has left\n")
    ∷ (stored 59 (2 ∷ []) example, bytes "no 32 65535\na joined user has no own vertex: S2 is broken, own vertices: each joined user has one in each layer, no kind 0 or outer token leads to one, and no inner set is empty\n")
    ∷ (stored 85 (0 ∷ 0 ∷ []) example, bytes "no 38 75\nfolder row 0: S8 is broken, locks fit: in mode full each folder has an outer vertex with its list as set; in mode delta it has none exactly where the holders are the list, else such a one\n")
    ∷ []

pub each-text : map given texts ≡ map wanted texts
unfolding texts left mode_text people_text layers_text leavers_text head_text refused_text limit_at count_words count_text header_text length_text section_words row_text broken_text answer_text check_text digits_in digits numeral
    example pair owns both size_in size rows.number bytes_of cell stored rows_of joined lists.some every keep first numbered tabulate_from tabulate up_to unlike_earlier broken or_rule first_rule when first_some set_of has_outer into sources by_token holders
    joined_set placed_row plain_row has_own not_empty enters_group unequal rising_row united_vertex lateral_row other_row new_row count_limits in_limit placed held locked_for locked rows1 rows2 rows3 rows4 rows5 rows6 rows7 rows8 sound.rules
    set_row inner_row outer_row resource_row token_of resource_of sets_in tokens_in resources_in set_bytes inner_bytes outer_bytes resource_bytes head_of counts book_in header write version_in fore leavers_in head_in total start section sections read limits_of bad_count place_of rule_fault fault
each-text = refl
