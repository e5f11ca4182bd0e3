-- What specs/Places.antt says, computed from the definitions. Assumes nothing.
use Rattle.std.specs.Prelude.{refl}
use Rattle.sets.specs.Sets.{size_in, size}
use Rattle.rows.specs.Number as bytes
use Rattle.rows.specs.Number.{bytes_of, cell, stored, rows_of, joined}
use Rattle.rules.specs.Lists as lists
use Rattle.rules.specs.Lists.{every, keep, first, numbered, tabulate_from, tabulate, up_to}
use Rattle.rules.specs.Tests.{unlike_earlier, broken, or_rule, first_rule, when, first_some}
use Rattle.rules.specs.Layer.{set_of}
use Rattle.rules.specs.Book.{has_outer}
use Rattle.rules.specs.Holders.{into, sources, by_token, holders}
use Rattle.rules.specs.Sound as sound
use Rattle.rules.specs.Sound.{joined_set, placed_row, plain_row, has_own, not_empty, enters_group, unequal, rising_row, united_vertex, lateral_row, other_row, new_row, count_limits, in_limit, placed, held, locked_for, locked, rows1, rows2, rows3, rows4, rows5, rows6, rows7, rows8}
use Rattle.rules.specs.Bytes.{set_row, inner_row, outer_row, resource_row, token_of, resource_of, sets_in, tokens_in, resources_in, set_bytes, inner_bytes, outer_bytes, resource_bytes, head_of, counts, book_in, header, write, version_in, fore, leavers_in, head_in, total, start, section, sections, read, limits_of, bad_count, place_of, rule_fault, fault, renewed}
use Rattle.rules.specs.Numbers.{Right}
use Rattle.rules.specs.Broken.{pair, owns, both, empty_bytes}
use Rattle.rules.specs.Places.{told_by, told, twice, older, good, example, places}

pub each-place : Right places
unfolding places Right told told_by twice older good example empty_bytes pair owns both size_in size bytes.number bytes_of cell stored rows_of joined lists.some every keep first numbered tabulate_from tabulate up_to unlike_earlier broken or_rule first_rule when first_some set_of has_outer into sources by_token holders
    joined_set placed_row plain_row has_own not_empty enters_group unequal rising_row united_vertex lateral_row other_row new_row count_limits in_limit placed held locked_for locked rows1 rows2 rows3 rows4 rows5 rows6 rows7 rows8 sound.rules
    set_row inner_row outer_row resource_row token_of resource_of sets_in tokens_in resources_in set_bytes inner_bytes outer_bytes resource_bytes head_of counts book_in header write version_in fore leavers_in head_in total start section sections read limits_of bad_count place_of rule_fault fault renewed
each-place = (refl, (refl, (refl, (refl, (refl, (refl, (refl, (refl, (refl, (refl, (refl, (refl, (refl, (refl, (refl, (refl, (refl, (refl, (refl, (refl, (refl, (refl, (refl, (refl, (refl, (refl, (refl, (refl, (refl, (refl, (refl, (refl, (refl, (refl, (refl, (refl, (refl, (refl, (refl, (refl, (refl, (refl, (refl, (refl, (refl, (refl, (refl, (refl, (refl, (refl, (refl, (refl, (refl, (refl, (refl, (refl, (refl, (refl, (refl, (refl, (refl, (refl, (refl, (refl, (refl, (refl, (refl, (refl, (refl, (refl, (refl, (refl, (refl, (refl, (refl, (refl, (refl, (refl, (refl, (refl, (refl, (refl, (refl, (refl, (refl, (refl, (refl, (refl, (refl, (refl, (refl, tt)))))))))))))))))))))))))))))))))))))))))))))))))))))))))))))))))))))))))))))))))))))))))))
