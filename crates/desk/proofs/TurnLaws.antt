-- What a turn keeps: laws over plain variables.
-- Assumes nothing.
use Prim.Native.Nat.{ℕ, ◌*◌, ◌≤◌}
use mathlib.Core.Path.{◌≡◌, refl, sym, subst}
use mathlib.Core.Bool.{false}
use mathlib.Core.List.{List}
use native.Mathlib.Omega.{arith}
use lib.ListN.{length, take}
use lib.Seq.{length-take-le}
use borrow.Author.Tests.{le-ltb}
use Rattle.rules.specs.Book.{empty_book}
use Rattle.rules.specs.Bytes.{Tables, tables, head_of}
use Rattle.rules.specs.Refusals.{short}
use Rattle.rules.specs.Runs.{book_of}
use Rattle.rules.specs.declared.Head.{Head}
use Rattle.rules.specs.declared.Refusal.{Refusal}
use Rattle.rules.specs.declared.Served.{Served}
use Rattle.std.specs.Prelude.{Result, Ok, Err, IsOk}
use Rattle.theorems.proofs.RunLaws.{fresh, fresh-sound}
use Rattle.plan.specs.Judge.{Ready}
use Rattle.desk.specs.Input.{Within, pending, Whole}
use Rattle.desk.specs.Block.{most_in, Enough, Serves}
use Rattle.desk.specs.Turn.{Holds, Waits}
use Rattle.desk.specs.declared.State.{State}
use Rattle.desk.specs.declared.input.Unread.{Unread}

-- a block's requests are served
pub serves-ok : (t : Tables) (s : Result Served Refusal) → Serves s t → IsOk s
serves-ok t (Ok s) h = refl
serves-ok t (Err r) h = absurd h

pub ready_by : {h k : Head} {t : Tables} → h ≡ k → Ready k t → Ready h t
ready_by {h} {k} {t} e x = subst (λ (z : Head). Ready z t) (sym e) x

pub within_by : {u v : Unread} {input : List ℕ} → u ≡ v → Within v input → Within u input
within_by {u} {v} {input} e x = subst (λ (z : Unread). Within z input) (sym e) x

pub last-by : {u v : Unread} (input : List ℕ) → u ≡ v → Whole (pending v input) v.ended → Whole (pending u input) u.ended
last-by {u} {v} input e x = subst (λ (z : Unread). Whole (pending z input) z.ended) (sym e) x

pub holds-waits : {s : State} {h : Head} {t : Tables} {input out : List ℕ} → Ready h t → s.head ≡ h → Waits s input out → Holds s t input out
holds-waits k e w = record { ready = ready_by e k; waits = w }

-- the rows that were read, and what is lent for their answers and orders
pub enough : (rows : ℕ) (requests : List ℕ) {answers orders : List ℕ} → rows ≤ 128 → 384 ≤ length requests → 384 ≤ length answers → 18432 ≤ length orders
    → most_in (take (rows * 3) requests) ≤ 6144 → Enough (take (rows * 3) requests) answers orders
enough rows requests l q a o m =
    let long : length (take (rows * 3) requests) ≡ rows * 3 = length-take-le (rows * 3) requests (omega arith) in
    record { whole = omega arith; answered = omega arith; room = omega arith }

-- ---- the start

module _ (iv it ov ot rs : List ℕ) (a : 2560 ≡ length iv) (b : 20480 ≡ length it) (c : 4096 ≡ length ov) (d : 16384 ≡ length ot) (e : 3072 ≡ length rs) where
  all-long : short (tables iv it ov ot rs) ≡ false
  unfolding short
  all-long =
      rw (
        le-ltb (length iv) 2560 (omega arith),
        le-ltb (length it) 20480 (omega arith),
        le-ltb (length ov) 4096 (omega arith),
        le-ltb (length ot) 16384 (omega arith),
        le-ltb (length rs) 3072 (omega arith),
      )

  -- tables of their full lengths, with the head of the empty book
  pub fresh-ready : (m : ℕ) → m ≤ 1 → {h : Head} → h ≡ head_of (empty_book m) → Ready h (tables iv it ov ot rs)
  unfolding fresh book_of
  fresh-ready m l p = ready_by p (record { long = all-long; sound' = fresh-sound m l (tables iv it ov ot rs) })
