-- What specs/Numbers.antt says, computed from the definitions. Assumes nothing.
use Rattle.std.specs.Prelude.{refl}
use mathlib.Core.List.{flat_map}
use Rattle.sets.specs.Sets.{size_in, size}
use Rattle.rows.specs.Number.{bytes_of, joined}
use Rattle.rules.specs.Lists as lists
use Rattle.rules.specs.Lists.{every, keep, first, numbered, tabulate_from, tabulate, up_to}
use Rattle.rules.specs.Layer.{set_of, of_size, by_size, takes, cover, vertex_for, found, with_vertex}
use Rattle.rules.specs.Book.{empty_layer, empty_book, resource, has_outer, with_inner, with_outer, with_resources, with_list, with_lock}
use Rattle.rules.specs.Holders.{into, sources, by_token, holders, holders_of, inner_known, outer_known, view}
use Rattle.rules.specs.Tests.{unlike_earlier, all_pass, kept, all_kept}
use Rattle.rules.specs.Sound.{joined_set, placed_row, plain_row, has_own, not_empty, enters_group, unequal, rising_row, united_vertex, lateral_row, other_row, new_row, count_limits, in_limit, counts, placed, held, locked_for, locked, rows1, rows2, rows3, rows4, rows5, rows6, rows7, rows8, rules, sound}
use Rattle.rules.specs.Requests.{done, ◌then◌, vertex_orders, inner_vertex, outer_vertex, relock, lock, unlock, lock_list, agrees, with_set, join, encrypt, lock_new, insert, let_in, neighbours, grouped, lock_all, settle, told_last, lock_near, grant, revoke}
use Rattle.rules.specs.Open.{token_at, back, walk, chain, inner_chain, outer_chain, direct}
use Rattle.rules.specs.Bytes.{set_row, inner_row, outer_row, resource_row, set_bytes, inner_bytes, outer_bytes, resource_bytes, head_of, header, write}
use Rattle.rules.specs.Refusals.{work, verdict, short, common, no_such, own, limits, refusal, refusal_view, opened, refusal_open, refusal_write}
use Rattle.rules.specs.Calls.{order_row, order_rows}
use Rattle.rules.specs.Numbers.{told, after, step, delta_run, full_run, cover_run, five, six, ends, numbers, bit, said, of_lengths, roomy, judged, sounds, accepted, given, table, Right}

pub p1-to-p12 : Right table
unfolding Right table numbers accepted judged sounds given bit said roomy of_lengths told after step delta_run full_run cover_run five six ends work flat_map order_row order_rows bytes_of joined
    size_in size every lists.some keep first numbered tabulate_from tabulate up_to
    set_of of_size by_size takes cover vertex_for found with_vertex
    empty_layer empty_book resource has_outer with_inner with_outer with_resources with_list with_lock
    into sources by_token holders holders_of inner_known outer_known view locked_for
    done ◌then◌ vertex_orders inner_vertex outer_vertex relock lock unlock lock_list agrees with_set join encrypt lock_new insert
    let_in neighbours grouped lock_all settle told_last lock_near grant revoke
    token_at back walk chain inner_chain outer_chain direct
    set_row inner_row outer_row resource_row set_bytes inner_bytes outer_bytes resource_bytes head_of header write
    unlike_earlier all_pass kept all_kept joined_set placed_row plain_row has_own not_empty enters_group unequal rising_row united_vertex lateral_row other_row new_row count_limits in_limit
    counts placed held locked rows1 rows2 rows3 rows4 rows5 rows6 rows7 rows8 rules sound verdict short common no_such own limits refusal refusal_view opened refusal_open refusal_write
p1-to-p12 = (refl, (refl, (refl, (refl, (refl, (refl, (refl, (refl, (refl, (refl, (refl, (refl, (refl, (refl, (refl, (refl, (refl, (refl, (refl, (refl, (refl, (refl, (refl, (refl, (refl, (refl, (refl, (refl, tt))))))))))))))))))))))))))))
