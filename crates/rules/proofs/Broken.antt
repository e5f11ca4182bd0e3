-- What specs/Broken.antt says, computed from the definitions. Assumes nothing.
use Rattle.std.specs.Prelude.{◌≡◌, refl, true, false}
use Rattle.sets.specs.Sets.{size_in, size}
use Rattle.rows.specs.Number.{number, bytes_of, cell, rows_of, joined}
use Rattle.rules.specs.Lists.{every, some, keep, numbered, tabulate_from, tabulate, up_to, first}
use Rattle.rules.specs.Tests as tests
use Rattle.rules.specs.Tests.{unlike_earlier, all_pass, kept, all_kept, or_rule, first_rule, when, first_some}
use Rattle.rules.specs.Layer.{set_of, of_size, by_size, takes, cover, vertex_for, found, with_vertex}
use Rattle.rules.specs.Book.{empty_layer, empty_book, resource, has_outer, with_inner, with_outer, with_resources, with_leavers, with_list, with_lock}
use Rattle.rules.specs.Holders.{into, sources, by_token, holders, holders_of, inner_known, outer_known, view}
use Rattle.rules.specs.Open.{token_at, back, walk, chain, direct, inner_chain, outer_chain}
use Rattle.rules.specs.Bytes.{Tables, set_row, inner_row, outer_row, resource_row, token_of, resource_of, sets_in, tokens_in, resources_in, set_bytes, inner_bytes, outer_bytes, resource_bytes, head_of, book_in, header, write, version_in, fore, leavers_in, head_in, total, start, section, sections, read, place_of, limits_of, bad_count, rule_fault, fault}
use Rattle.rules.specs.Bytes as bytes
use Rattle.rules.specs.Sound.{joined_set, placed_row, plain_row, has_own, not_empty, enters_group, unequal, rising_row, united_vertex, lateral_row, other_row, new_row, count_limits, in_limit, counts, placed, held, locked_for, locked, rows1, rows2, rows3, rows4, rows5, rows6, rows7, rows8, rules, S1, S2, S3, S4, S5, S6, S7, S8, sound}
use Rattle.rules.specs.Requests.{done, ◌then◌, vertex_orders, inner_vertex, outer_vertex, relock, lock, unlock, lock_list, agrees, encrypt, lock_new, insert, let_in, neighbours, grouped, lock_all, settle, told_last, lock_near, grant, revoke, naming, revoke_all, gone, leave}
use Rattle.rules.specs.Refusals.{work, verdict, short, common, no_such, own, limits, refusal, refusal_view, opened, refusal_open, refusal_write, faulty_by, refusal_read, refusal_section}
use Rattle.rules.specs.Calls.{rows_lent, refusal_serve}
use Rattle.rules.specs.Numbers.{Right, bit, said, denied, of_lengths}
use Rattle.rules.specs.Broken.{breaks, owns, pair, pair_and, both, broken, large, counted, lengths, leading, closed, absent, bad, empty_bytes, refusals}

pub each-rule : Right broken
unfolding Right broken breaks pair pair_and owns both with_leavers size_in size some every keep numbered tabulate_from tabulate up_to set_of has_outer into sources by_token holders
    unlike_earlier all_pass kept joined_set placed_row plain_row has_own not_empty enters_group unequal rising_row united_vertex lateral_row other_row new_row count_limits in_limit counts placed held locked_for locked rows1 rows2 rows3 rows4 rows5 rows6 rows7 rows8
    S1 S2 S3 S4 S5 S6 S7 S8
each-rule = (refl, (refl, (refl, (refl, (refl, (refl, (refl, (refl, (refl, (refl, (refl, (refl, (refl, (refl, (refl, (refl, (refl, (refl, (refl, (refl, (refl, (refl, (refl, (refl, (refl, (refl, (refl, (refl, (refl, (refl, (refl, (refl, (refl, (refl, (refl, (refl, (refl, (refl, (refl, (refl, (refl, (refl, (refl, (refl, (refl, (refl, (refl, tt)))))))))))))))))))))))))))))))))))))))))))))))

pub each-count : Right counted
unfolding Right counted bit large every has_outer all_pass kept joined_set placed_row plain_row count_limits in_limit counts placed rows1 S1
each-count = (refl, (refl, (refl, (refl, (refl, tt)))))

pub each-length : Right lengths
unfolding Right lengths denied short of_lengths when first_some fault faulty_by refusal_read
each-length = (refl, (refl, (refl, (refl, (refl, (refl, tt))))))

pub each-refusal : (t s : Tables) → short t ≡ false → short s ≡ true → Right (refusals t s)
unfolding Right refusals said denied large leading closed absent bad empty_bytes pair owns
    size_in size some every keep first numbered tabulate_from tabulate up_to
    set_of of_size by_size takes cover vertex_for found with_vertex
    empty_layer empty_book resource has_outer with_inner with_outer with_resources with_leavers with_list with_lock
    into sources by_token holders holders_of inner_known outer_known view
    token_at back walk chain direct inner_chain outer_chain
    number bytes_of cell rows_of joined set_row inner_row outer_row resource_row token_of resource_of sets_in tokens_in resources_in
    set_bytes inner_bytes outer_bytes resource_bytes head_of bytes.counts book_in header write version_in fore leavers_in head_in total start section sections read place_of limits_of bad_count rule_fault fault
    unlike_earlier all_pass kept all_kept tests.broken or_rule first_rule when first_some joined_set placed_row plain_row has_own not_empty enters_group unequal rising_row united_vertex lateral_row other_row new_row count_limits in_limit counts placed held locked_for locked rows1 rows2 rows3 rows4 rows5 rows6 rows7 rows8 rules sound
    done ◌then◌ vertex_orders inner_vertex outer_vertex relock lock unlock lock_list agrees encrypt lock_new insert
    let_in neighbours grouped lock_all settle told_last lock_near grant revoke naming revoke_all gone leave work
    verdict common no_such own limits refusal refusal_view opened refusal_open refusal_write faulty_by refusal_read refusal_section rows_lent refusal_serve
each-refusal t s h k = rw (h, k) (refl, (refl, (refl, (refl, (refl, (refl, (refl, (refl, (refl, (refl, (refl, (refl, (refl, (refl, (refl, (refl, (refl, (refl, (refl, (refl, (refl, (refl, (refl, (refl, (refl, (refl, (refl, (refl, (refl, (refl, (refl, tt)))))))))))))))))))))))))))))))
