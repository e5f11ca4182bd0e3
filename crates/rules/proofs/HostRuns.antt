-- What specs/HostRuns.antt says, computed from the definitions. Assumes nothing.
use Rattle.std.specs.Prelude.{ℕ, ◌<◌, ◌≡◌, refl, true, false, ◌⊎◌, length, take}
use Rattle.std.proofs.Common.{sym, ◌∙◌, true≢false, inl, inr, arith}
use mathlib.Core.List.Memᴰ
use mathlib.Core.List.{flat_map}
use Rattle.sets.specs.Sets.{has, size_in, size}
use Rattle.rules.specs.Lists.{every, some, keep, first, numbered, tabulate_from, tabulate, up_to}
use Rattle.rules.specs.Layer.{set_of, token, of_size, by_size, takes, cover, vertex_for, found, with_vertex}
use Rattle.rules.specs.Book.{Book, empty_layer, empty_book, resource, has_outer, with_inner, with_outer, with_resources, with_list, with_lock}
use Rattle.rules.specs.Holders.{into, sources, by_token, holders, holders_of}
use Rattle.rules.specs.Sound.{other_row, locked_for}
use Rattle.rules.specs.Requests.{done, ◌then◌, vertex_orders, inner_vertex, outer_vertex, relock, lock, unlock, lock_list, agrees, with_set, join, encrypt, lock_new, insert, let_in, neighbours, grouped, lock_all, settle, told_last, lock_near, grant, revoke}
use Rattle.rules.specs.Refusals.{inserts, grants, work}
use Rattle.rules.specs.Host.{Store, has_key, add_key, add_token, put_inner, put_outer, put_keys, put_lock, spoil, can_obey, made, obeyed, obey, has_token, is_there, again, obey_again, restarted, is_join, nothing_made, empty_store, start, given, HostOpens}
use Rattle.rules.specs.Stops.{old_list, Safe}
use Rattle.rules.specs.Numbers.{Right, bit, after, delta_run, full_run}
use Rattle.rules.specs.HostRuns.{host_run, delta_host, full_host, in_numbers, spoils, unobeyable, obeyable, before, p3, at_stop, all, after_p3, p5, after_p6, hosts, token_first, encrypted_first}

pub host-examples : Right hosts
unfolding Right bit hosts host_run delta_host full_host in_numbers spoils unobeyable obeyable before p3 at_stop all after_p3 p5 after_p6 after delta_run full_run work flat_map
    has_key add_key add_token put_inner put_outer put_keys put_lock spoil can_obey made obeyed obey is_join nothing_made empty_store
    has_token other_row is_there again obey_again restarted
    size_in size every some keep first numbered tabulate_from tabulate up_to
    set_of of_size by_size takes cover vertex_for found with_vertex
    empty_layer empty_book resource has_outer with_inner with_outer with_resources with_list with_lock
    into sources by_token holders holders_of locked_for
    done ◌then◌ vertex_orders inner_vertex outer_vertex relock lock unlock lock_list agrees with_set join encrypt lock_new insert
    let_in neighbours grouped lock_all settle told_last lock_near grant revoke
host-examples = (refl, (refl, (refl, (refl, (refl, (refl, (refl, (refl, (refl, (refl, (refl, (refl, (refl, tt)))))))))))))

neither : (b c : Book) (s : Store) (r : ℕ) → r < length s.keys → has (old_list b c r) 2 ≡ false → has (resource c r).list 2 ≡ false → HostOpens s 2 r → Safe b c s → ⊥
neither b c s r l x y o m = go (m.opens-only r l 2 o)
  where
    go : (has (old_list b c r) 2 ≡ true) ⊎ (has (resource c r).list 2 ≡ true) → ⊥
    go (inl e) = true≢false (sym e ∙ x)
    go (inr e) = true≢false (sym e ∙ y)

pub token-first-unsafe : let b = after (take 5 delta_run) (empty_book 1) in Safe b (work (grants 0 2) b).book token_first → ⊥
unfolding token_first old_list host_run before p3 after delta_run work
    has_key add_key add_token put_inner put_outer put_keys put_lock can_obey made obeyed obey is_join nothing_made empty_store
    size_in size some keep first numbered tabulate_from tabulate up_to set_of of_size by_size takes cover vertex_for found with_vertex
    empty_layer empty_book resource has_outer with_inner with_outer with_resources with_list with_lock into sources by_token holders holders_of locked_for
    done ◌then◌ vertex_orders inner_vertex outer_vertex relock lock unlock lock_list agrees with_set join encrypt lock_new insert
    let_in neighbours grouped lock_all settle told_last lock_near grant
token-first-unsafe =
    let b = after (take 5 delta_run) (empty_book 1) in
    neither b (work (grants 0 2) b).book token_first 1 (omega arith) refl refl
    (record { bel = given {t = token 2 3 1} (Memᴰ.tail (Memᴰ.tail (Memᴰ.head refl))) refl (start (omega arith)); sel = λ n. absurd (n refl) })

pub encrypted-first-unsafe : let b = after (take 6 delta_run) (empty_book 1) in Safe b (work (inserts 3) b).book encrypted_first → ⊥
unfolding encrypted_first old_list host_run after delta_run work
    has_key add_key add_token put_inner put_outer put_keys put_lock can_obey made obeyed obey is_join nothing_made empty_store
    size_in size some keep first numbered tabulate_from tabulate up_to set_of of_size by_size takes cover vertex_for found with_vertex
    empty_layer empty_book resource has_outer with_inner with_outer with_resources with_list with_lock into sources by_token holders holders_of locked_for
    done ◌then◌ vertex_orders inner_vertex outer_vertex relock lock unlock lock_list agrees with_set join encrypt lock_new insert
    let_in neighbours grouped lock_all settle told_last lock_near grant
encrypted-first-unsafe =
    let b = after (take 6 delta_run) (empty_book 1) in
    neither b (work (inserts 3) b).book encrypted_first 2 (omega arith) refl refl
    (record { bel = given {t = token 2 3 1} (Memᴰ.tail (Memᴰ.tail (Memᴰ.head refl))) refl (start (omega arith)); sel = λ n. absurd (n refl) })
