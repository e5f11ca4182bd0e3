-- A leave (RULES 5.12) run on small books: its orders, the lists and views after it, and what is refused. A row: what the definitions give, and what it
-- should be (proofs/Leave.antt, `leave-examples`).
-- Assumes nothing.
use Rattle.std.specs.Prelude.{ℕ, false, length, take}
use mathlib.Core.List.{List, [], ◌∷◌, map, flat_map}
use Rattle.rules.specs.Lists.{tabulate, up_to}
use Rattle.rules.specs.Layer.{set_of}
use Rattle.rules.specs.Book.{Book, none, empty_book}
use Rattle.rules.specs.Holders.{view}
use Rattle.rules.specs.Sound.{sound}
use Rattle.rules.specs.Requests.{leave}
use Rattle.rules.specs.Refusals.{Request, joins, inserts, grants, revokes, leaves, work, view_number, verdict, own, limits}
use Rattle.rules.specs.Runs.{access}
use Rattle.rules.specs.Numbers.{bit, said, after, told}
use Rattle.rules.specs.Host.{obey, empty_store}
use Rattle.rules.specs.Examples.{orders}
use Rattle.rules.specs.HostRuns.{host_run}

-- the example of RULES 5.12: four users, and folders for {0, 1, 3}, {0, 1, 2, 3}, {2}, {3} and {0, 1, 3}
unfoldable pub folders : List Request
folders = joins ∷ joins ∷ joins ∷ joins ∷ inserts 11 ∷ inserts 15 ∷ inserts 4 ∷ inserts 8 ∷ inserts 11 ∷ []

unfoldable pub before : Book
before = after folders (empty_book 1)

unfoldable pub departed : Book
departed = (leave 3 before).book

-- the views of u on the first n folders
unfoldable pub views : Book → ℕ → ℕ → List ℕ
views b u n = tabulate n (λ r. view_number (view b u r))

-- the locks of the five folders, of a host that has obeyed the first k orders
unfoldable pub locks_at : ℕ → List ℕ
locks_at k = map (obey false (take k (leave 3 before).orders) (host_run folders (empty_book 1) empty_store)).lock (up_to 5)

unfoldable pub leaving : List (List ℕ × List ℕ)
leaving =
    -- a vertex for {0, 1}; the one for {0, 1, 2} has a token from it; folder 2 is left alone; the empty set; and {0, 1} is there
    (
      told (leave 3 before),
      1 ∷ 4 ∷ 0 ∷ 2 ∷ 0 ∷ 4 ∷ 2 ∷ 1 ∷ 4 ∷ 3 ∷ 0 ∷ 4
          ∷ 1 ∷ 5 ∷ 0 ∷ 2 ∷ 4 ∷ 5 ∷ 2 ∷ 2 ∷ 5 ∷ 3 ∷ 1 ∷ 5
          ∷ 1 ∷ 6 ∷ 0 ∷ 3 ∷ 3 ∷ 6
          ∷ 3 ∷ 4 ∷ 4 ∷ [],
    )
    -- the lists, the leavers, and that the book is sound
    ∷ ((access departed).lists, 3 ∷ 7 ∷ 4 ∷ 0 ∷ 3 ∷ [])
    ∷ (departed.users ∷ departed.leavers ∷ bit (sound departed) ∷ [], 4 ∷ 8 ∷ 1 ∷ [])
    -- the leaver opens nothing: the inner keys stay, the outer ones are out of reach; the others are as they were
    ∷ (views departed 3 5, 1 ∷ 1 ∷ 2 ∷ 1 ∷ 1 ∷ [])
    ∷ (views departed 0 5, 0 ∷ 0 ∷ 2 ∷ 3 ∷ 0 ∷ [])
    -- it is the revokes one after the other
    ∷ (told (leave 3 before), orders (revokes 0 3 ∷ revokes 1 3 ∷ revokes 3 3 ∷ revokes 4 3 ∷ []) before)
    -- the number is not used again: the next who joins is user 4
    ∷ (told (work joins departed), 4 ∷ 6 ∷ 0 ∷ 1 ∷ 7 ∷ 0 ∷ [])
    ∷ ((work joins departed).book.users ∷ (work joins departed).book.leavers ∷ [], 5 ∷ 8 ∷ [])
    ∷ (set_of (work joins departed).book.inner 6 ∷ set_of (work joins departed).book.outer 7 ∷ [], 16 ∷ 16 ∷ [])
    -- nobody lets the leaver in again, and a second leave is refused; a revoke is 6
    ∷ (map (λ q. said (verdict (own q departed))) (grants 0 3 ∷ inserts 8 ∷ leaves 3 ∷ revokes 0 3 ∷ grants 2 0 ∷ inserts 7 ∷ leaves 2 ∷ []), 15 ∷ 15 ∷ 15 ∷ 6 ∷ 0 ∷ 0 ∷ 0 ∷ [])
    -- someone on no list: no order, and the set has them
    ∷ (told (leave 1 (after (joins ∷ joins ∷ inserts 1 ∷ []) (empty_book 1))), [])
    ∷ ((leave 1 (after (joins ∷ joins ∷ inserts 1 ∷ []) (empty_book 1))).book.leavers ∷ [], 2 ∷ [])
    -- eleven orders in all, and one row fewer
    ∷ (length (leave 3 before).orders ∷ said (verdict (limits 11 (leave 3 before))) ∷ said (verdict (limits 10 (leave 3 before))) ∷ [], 11 ∷ 0 ∷ 10 ∷ [])
    -- a host that stops: the locks of folders 0 to 4 after 0, 3, 4, 7, 8, 10 and 11 orders
    ∷ (flat_map locks_at (0 ∷ 3 ∷ 4 ∷ []), none ∷ none ∷ none ∷ none ∷ none ∷ none ∷ none ∷ none ∷ none ∷ none ∷ 4 ∷ none ∷ none ∷ none ∷ none ∷ [])
    ∷ (flat_map locks_at (7 ∷ 8 ∷ 10 ∷ 11 ∷ []), 4 ∷ none ∷ none ∷ none ∷ none ∷ 4 ∷ 5 ∷ none ∷ none ∷ none ∷ 4 ∷ 5 ∷ none ∷ 6 ∷ none ∷ 4 ∷ 5 ∷ none ∷ 6 ∷ 4 ∷ [])
    ∷ []
