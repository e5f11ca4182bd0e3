-- Requests on records in a run: each is the request on as many rows of numbers, so demand 3 holds after them too. Assumes nothing.
use Prim.Native.Nat.{ℕ, ◌*◌}
use mathlib.Core.Path.{◌≡◌, refl, ap, ◌∙◌}
use mathlib.Core.Bool.{true}
use mathlib.Core.List.{List, [], ◌∷◌, map}
use native.Mathlib.Omega.{arith}
use lib.ListN.{length, replicate, length-replicate}
use Rattle.rules.specs.Sound.{sound}
use Rattle.rules.specs.Calls.{rows_lent}
use Rattle.rules.specs.Runs.{Kept, keep, book_of, head_changed, after, run}
use Rattle.theorems.proofs.Demand.{Demand, demand-3}
use Rattle.orders.specs.Runs.{RCall, on-records, another, after_r, run_r, on_numbers}
use Rattle.orders.proofs.Enough.{recorded-change}

-- n rows of zeros
rows_of : (n : ℕ) → rows_lent (replicate (n * 3) 0) ≡ n
unfolding rows_lent
rows_of n = omega (arith, length-replicate {A = ℕ} (n * 3) 0)

pub recorded-call : (c : RCall) (s : Kept) → after_r c s ≡ after (on_numbers c) s
unfolding after_r on_numbers after
recorded-call (on-records q list) s =
    let same = recorded-change q s.head s.tables list (replicate (length list * 3) 0) (rows_of (length list)) in
    λ i. keep (head_changed (same.0 i) s.head) (same.1 i)
recorded-call (another c) s = refl

-- a run with requests on records is a run of calls
pub recorded-run : (cs : List RCall) (s : Kept) → run_r cs s ≡ run (map on_numbers cs) s
unfolding run_r run
recorded-run [] s = refl
recorded-run (c ∷ cs) s = recorded-run cs (after_r c s) ∙ ap (run (map on_numbers cs)) (recorded-call c s)

-- demand 3: from any sound book, after any list of calls, requests on records among them
pub recorded-demand-3 : (cs : List RCall) (s : Kept) → sound (book_of s) ≡ true → Demand (book_of (run_r cs s))
recorded-demand-3 cs s h = rw (recorded-run cs s) (demand-3 (map on_numbers cs) s h)
