-- What specs/Examples.antt says, computed from the definitions. Assumes nothing.
use Rattle.std.specs.Prelude.{refl}
use mathlib.Core.List.{flat_map}
use Rattle.sets.specs.Sets.{size_in, size}
use Rattle.rows.specs.Number.{bytes_of, joined}
use Rattle.rules.specs.Lists.{every, some, keep, first, numbered, tabulate_from, tabulate, up_to}
use Rattle.rules.specs.Layer.{set_of, of_size, by_size, takes, cover, vertex_for, found, with_vertex}
use Rattle.rules.specs.Book.{empty_layer, empty_book, resource, has_outer, with_inner, with_outer, with_resources, with_list, with_lock}
use Rattle.rules.specs.Holders.{into, sources, by_token, holders, holders_of, inner_known, outer_known, view}
use Rattle.rules.specs.Sound.{locked_for}
use Rattle.rules.specs.Requests.{done, ◌then◌, vertex_orders, inner_vertex, outer_vertex, relock, lock, unlock, lock_list, agrees, with_set, join, encrypt, lock_new, insert, let_in, neighbours, grouped, lock_all, settle, told_last, lock_near, grant, revoke}
use Rattle.rules.specs.Open.{token_at, back, walk, chain, direct, inner_chain, outer_chain}
use Rattle.rules.specs.Bytes.{set_row, inner_row, outer_row, resource_row, set_bytes, inner_bytes, outer_bytes, resource_bytes, head_of, header, write}
use Rattle.rules.specs.Refusals.{work, opened}
use Rattle.rules.specs.Calls.{order_row, order_rows}
use Rattle.rules.specs.Numbers.{Right, after, step, told}
use Rattle.rules.specs.Examples.{orders, begun, sample, matrix, four, matrix_delta, matrix_full, four_delta, four_full, late_run, late, both_run, both, worked}

pub worked-examples : Right worked
unfolding worked sample late late_run both both_run step begun orders matrix four matrix_delta matrix_full four_delta four_full direct inner_chain outer_chain opened Right told after work flat_map order_row order_rows bytes_of joined
    size_in size every some keep first numbered tabulate_from tabulate up_to
    set_of of_size by_size takes cover vertex_for found with_vertex
    empty_layer empty_book resource has_outer with_inner with_outer with_resources with_list with_lock
    into sources by_token holders holders_of inner_known outer_known view locked_for
    done ◌then◌ vertex_orders inner_vertex outer_vertex relock lock unlock lock_list agrees with_set join encrypt lock_new insert
    let_in neighbours grouped lock_all settle told_last lock_near grant revoke
    token_at back walk chain
    set_row inner_row outer_row resource_row set_bytes inner_bytes outer_bytes resource_bytes head_of header write
worked-examples = (refl, (refl, (refl, (refl, (refl, (refl, (refl, (refl, (refl, (refl, (refl, (refl, (refl, tt)))))))))))))
