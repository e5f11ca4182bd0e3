-- Hosts that obey, run from the definitions: what they have after the runs of P1 to P10, which orders cannot be obeyed then, and what they have where they
-- stop in P3 and go on. A row: what the definitions give, and what it should be (proofs/HostRuns.antt, `host-examples`).
-- Assumes nothing.
use Rattle.std.specs.Prelude.{ℕ, false, length, take}
use mathlib.Core.List.{List, [], ◌∷◌, ◌++◌, map, flat_map}
use Rattle.rules.specs.Lists.{up_to}
use Rattle.rules.specs.Book.{Book, empty_book}
use Rattle.rules.specs.Requests.{order}
use Rattle.rules.specs.Refusals.{Request, grants, revokes, work}
use Rattle.rules.specs.Host.{Graph, Store, obeyed, obey, obey_again, restarted, is_join, empty_store}
use Rattle.rules.specs.Numbers.{bit, after, delta_run, full_run}
use Rattle.rules.specs.declared.Order.{Order}

-- a host that obeys the orders of requests one after the other
unfoldable pub host_run : List Request → Book → Store → Store
host_run [] b s = s
host_run (q ∷ qs) b s = host_run qs (work q b).book (obey (is_join q) (work q b).orders s)

unfoldable pub delta_host : Store
delta_host = host_run delta_run (empty_book 1) empty_store

unfoldable pub full_host : Store
full_host = host_run full_run (empty_book 0) empty_store

-- a graph in numbers: its vertices, its tokens (from, to, kind), and whose keys were handed out
unfoldable pub in_numbers : Graph → List ℕ
in_numbers g = g.vertices ++ (flat_map (λ t. t.from ∷ t.to ∷ t.kind ∷ []) g.tokens ++ g.handed)

-- 1 for an order that spoils the store
unfoldable pub spoils : Store → List Order → List ℕ
spoils s os = map (λ o. bit (obeyed false o s).spoilt) os

-- no such kind; a vertex that has a key, or whose second number is not 0; tokens from and to vertices without keys; a lock with one
unfoldable pub unobeyable : List Order
unobeyable =
    order 0 0 0 ∷ order 8 0 0 ∷ order 1 5 0 ∷ order 1 6 1 ∷ order 4 3 0 ∷ order 4 4 1
    ∷ order 2 6 0 ∷ order 2 0 6 ∷ order 5 4 0 ∷ order 5 0 4 ∷ order 6 4 0 ∷ order 6 0 4 ∷ order 3 0 6
    -- a resource that is encrypted, one that is not the next, the next with a vertex that has no key
    ∷ order 7 1 3 ∷ order 7 3 3 ∷ order 7 2 4 ∷ []

-- and one of each kind that can be obeyed; a resource may be locked before it is encrypted
unfoldable pub obeyable : List Order
obeyable =
    order 1 6 0 ∷ order 2 0 5 ∷ order 3 0 5 ∷ order 3 1 65535 ∷ order 3 2 0 ∷ order 4 4 0 ∷ order 5 0 3 ∷ order 6 0 3 ∷ order 7 2 3 ∷ []

-- ---- P3 with stops: the host before it, and its orders

unfoldable pub before : Store
before = host_run (take 5 delta_run) (empty_book 1) empty_store

unfoldable pub p3 : List Order
p3 = (work (grants 0 2) (after (take 5 delta_run) (empty_book 1))).orders

-- the lock of folder 1 and how many inner tokens there are, after the first k orders: the token comes when folder 1 is locked
unfoldable pub at_stop : ℕ → List ℕ
at_stop k = let s = obey false (take k p3) before in s.lock 1 ∷ length s.inner.tokens ∷ []

-- all that a host has, with the locks of folders 0 and 1, in numbers
unfoldable pub all : Store → List ℕ
all s = in_numbers s.inner ++ (in_numbers s.outer ++ (s.keys ++ (s.lock 0 ∷ s.lock 1 ∷ bit s.spoilt ∷ [])))

-- after P3
unfoldable pub after_p3 : List ℕ
after_p3 =
    0 ∷ 1 ∷ 2 ∷ 3 ∷ 0 ∷ 3 ∷ 0 ∷ 1 ∷ 3 ∷ 0 ∷ 2 ∷ 3 ∷ 1 ∷ 0 ∷ 1 ∷ 2 ∷ 0 ∷ 1 ∷ 2 ∷ 3 ∷ 0 ∷ 3 ∷ 0 ∷ 1 ∷ 3 ∷ 0 ∷ 0 ∷ 1 ∷ 2 ∷ 3 ∷ 3 ∷ 65535 ∷ 3 ∷ 0 ∷ []

unfoldable pub p5 : List Order
p5 = (work (revokes 0 1) (after (take 6 delta_run) (empty_book 1))).orders

unfoldable pub after_p6 : Store
after_p6 = host_run (take 8 delta_run) (empty_book 1) empty_store

unfoldable pub hosts : List (List ℕ × List ℕ)
hosts =
    (in_numbers delta_host.inner, 0 ∷ 1 ∷ 2 ∷ 3 ∷ 0 ∷ 3 ∷ 0 ∷ 1 ∷ 3 ∷ 0 ∷ 2 ∷ 3 ∷ 1 ∷ 0 ∷ 1 ∷ 2 ∷ [])
    ∷ (
      in_numbers delta_host.outer,
      0 ∷ 1 ∷ 2 ∷ 3 ∷ 4 ∷ 5 ∷ 0 ∷ 3 ∷ 0 ∷ 1 ∷ 3 ∷ 0 ∷ 0 ∷ 4 ∷ 0 ∷ 2 ∷ 4 ∷ 0 ∷ 0 ∷ 1 ∷ 2 ∷ [],
    )
    ∷ (delta_host.keys, 3 ∷ 3 ∷ [])
    ∷ (map delta_host.lock (0 ∷ 1 ∷ 2 ∷ []), 65535 ∷ 5 ∷ 65535 ∷ [])
    ∷ (full_host.keys ++ (full_host.lock 0 ∷ []), 0 ∷ 2 ∷ [])
    ∷ (bit delta_host.spoilt ∷ bit full_host.spoilt ∷ [], 0 ∷ 0 ∷ [])
    ∷ (spoils delta_host unobeyable, 1 ∷ 1 ∷ 1 ∷ 1 ∷ 1 ∷ 1 ∷ 1 ∷ 1 ∷ 1 ∷ 1 ∷ 1 ∷ 1 ∷ 1 ∷ 1 ∷ 1 ∷ 1 ∷ [])
    ∷ (spoils delta_host obeyable, 0 ∷ 0 ∷ 0 ∷ 0 ∷ 0 ∷ 0 ∷ 0 ∷ 0 ∷ 0 ∷ [])
    ∷ (flat_map at_stop (up_to 6), 65535 ∷ 2 ∷ 65535 ∷ 2 ∷ 65535 ∷ 2 ∷ 65535 ∷ 2 ∷ 3 ∷ 2 ∷ 3 ∷ 3 ∷ [])
    -- stopped after 2, 4, 1 and 5 orders, each time from the first; and once more to the end: what is there stays
    ∷ (all (restarted false p3 (2 ∷ 4 ∷ 1 ∷ 5 ∷ []) before), after_p3)
    ∷ (all (obey_again false p3 (obey false p3 before)), after_p3)
    -- orders that are obeyed twice as if they were new
    ∷ (bit (obey false p3 (obey false (take 1 p3) before)).spoilt ∷ [], 1 ∷ [])
    -- RULES 6.7 "a lock that has been changed since would come back": P5 obeyed again when P6 has taken the lock of folder 0 off
    ∷ (after_p6.lock 0 ∷ (obey_again false p5 after_p6).lock 0 ∷ [], 65535 ∷ 4 ∷ [])
    ∷ []

-- ---- other orders of the orders let somebody in: user 2, who is on neither list (proofs/HostRuns.antt, `token-first-unsafe`, `encrypted-first-unsafe`)

-- RULES 6.6 "if the token were published first, folder 1 would open for 2": after the token and the three orders before the lock
unfoldable pub token_first : Store
token_first = obey false (order 6 2 3 ∷ take 3 p3) before

-- RULES 12.6, H: a third folder for {0, 1}, encrypted before its lock, opens for 2
unfoldable pub encrypted_first : Store
encrypted_first = obey false (order 7 2 3 ∷ []) (host_run (take 6 delta_run) (empty_book 1) empty_store)
