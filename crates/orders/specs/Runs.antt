-- Calls one after the other on what a host keeps (Rattle.rules.specs.Runs), some of them requests on records. Assumes nothing.
use Rattle.std.specs.Prelude.{◌*◌, List, [], ◌∷◌, length, replicate}
use Rattle.rules.specs.Refusals.{Request}
use Rattle.rules.specs.Runs.{Kept, keep, Call, to-change, head_changed, after}
use Rattle.rules.specs.declared.Order.{Order}
use Rattle.orders.specs.Records.{recorded}

-- a request with the records that are lent to it, or a call of Rattle.rules.specs.Runs
pub data RCall : Type 0 where
  on-records : Request → List Order → RCall
  another : Call → RCall

unfoldable pub after_r : RCall → Kept → Kept
after_r (on-records q list) s =
    let c = recorded q s.head s.tables list in
    keep (head_changed c.answer s.head) c.tables
after_r (another c) s = after c s

unfoldable pub run_r : List RCall → Kept → Kept
run_r [] s = s
run_r (c ∷ cs) s = run_r cs (after_r c s)

-- the call of Rattle.rules.specs.Runs that it is: the request with as many rows of three numbers as there are records
unfoldable pub on_numbers : RCall → Call
on_numbers (on-records q list) = to-change q (replicate (length list * 3) 0)
on_numbers (another c) = c
