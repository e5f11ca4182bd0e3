-- What specs/Leave.antt says, computed from the definitions. Assumes nothing.
use Rattle.std.specs.Prelude.{refl}
use mathlib.Core.List.{flat_map}
use Rattle.sets.specs.Sets.{size_in, size}
use Rattle.rows.specs.Number.{bytes_of, joined}
use Rattle.rules.specs.Lists.{every, some, keep, first, numbered, tabulate_from, tabulate, up_to}
use Rattle.rules.specs.Layer.{set_of, of_size, by_size, takes, cover, vertex_for, found, with_vertex}
use Rattle.rules.specs.Book.{empty_layer, empty_book, resource, has_outer, with_inner, with_outer, with_resources, with_leavers, with_list, with_lock}
use Rattle.rules.specs.Holders.{into, sources, by_token, holders, holders_of, inner_known, outer_known, view}
use Rattle.rules.specs.Tests.{unlike_earlier, all_pass, kept, all_kept}
use Rattle.rules.specs.Sound.{joined_set, placed_row, plain_row, has_own, not_empty, enters_group, unequal, rising_row, united_vertex, lateral_row, other_row, new_row, count_limits, in_limit, counts, placed, held, locked_for, locked, rows1, rows2, rows3, rows4, rows5, rows6, rows7, rows8, rules, sound}
use Rattle.rules.specs.Requests.{done, ◌then◌, vertex_orders, inner_vertex, outer_vertex, relock, lock, unlock, lock_list, agrees, with_set, join, encrypt, lock_new, insert, let_in, neighbours, grouped, lock_all, settle, told_last, lock_near, grant, revoke, naming, revoke_all, gone, leave}
use Rattle.rules.specs.Refusals.{work, verdict, no_such, own, limits}
use Rattle.rules.specs.Calls.{order_row, order_rows}
use Rattle.rules.specs.Runs.{access}
use Rattle.rules.specs.Numbers.{Right, bit, said, after, told}
use Rattle.rules.specs.Host.{has_key, add_key, add_token, put_inner, put_outer, put_keys, put_lock, can_obey, made, obeyed, obey, is_join, nothing_made, empty_store}
use Rattle.rules.specs.Examples.{orders}
use Rattle.rules.specs.HostRuns.{host_run}
use Rattle.rules.specs.Leave.{folders, before, departed, views, locks_at, leaving}

pub leave-examples : Right leaving
unfolding leaving locks_at host_run has_key add_key add_token put_inner put_outer put_keys put_lock can_obey made obeyed obey is_join nothing_made empty_store views folders before departed bit said verdict no_such limits own naming revoke_all gone leave access Right orders told after work flat_map order_row order_rows bytes_of joined
    size_in size every some keep first numbered tabulate_from tabulate up_to
    set_of of_size by_size takes cover vertex_for found with_vertex
    empty_layer empty_book resource has_outer with_inner with_outer with_resources with_leavers with_list with_lock
    into sources by_token holders holders_of inner_known outer_known view locked_for
    done ◌then◌ vertex_orders inner_vertex outer_vertex relock lock unlock lock_list agrees with_set join encrypt lock_new insert
    let_in neighbours grouped lock_all settle told_last lock_near grant revoke
    unlike_earlier all_pass kept all_kept joined_set placed_row plain_row has_own not_empty enters_group unequal rising_row united_vertex lateral_row other_row new_row count_limits in_limit
    counts placed held locked rows1 rows2 rows3 rows4 rows5 rows6 rows7 rows8 rules sound
leave-examples = (refl, (refl, (refl, (refl, (refl, (refl, (refl, (refl, (refl, (refl, (refl, (refl, (refl, (refl, (refl, tt)))))))))))))))
