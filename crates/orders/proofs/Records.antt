-- The laws of rows of numbers that become records. Assumes nothing.
use Prim.Native.Nat.{ℕ, suc, ◌+◌, ◌*◌, ◌≤◌, ◌<◌}
use mathlib.Core.Path.{◌≡◌, refl, sym, ap, ap₂, ◌∙◌}
use mathlib.Core.List.{List, [], ◌∷◌, ◌++◌, append_assoc}
use native.Mathlib.Nat.{add-zero}
use native.Mathlib.Numerals.{add-one}
use native.Mathlib.Omega.{arith}
use lib.ListN.{length, take, drop, get_or, set, replicate, length-append, length-drop, length-replicate}
use lib.Seq.{take_all, take-suc, get_or-take, get_or-drop, drop-cons, set_at}
use Rattle.rows.specs.Number.{stored, rows_of}
use Rattle.rows.proofs.Table.{length-rows, row_at, rows-front}
use Rattle.rules.specs.Calls.{order_rows, order_at, order_of, orders_in}
use Rattle.rules.specs.declared.Order.{Order}
use Rattle.theorems.proofs.HostCallLaws.{orders-read}
use Rattle.orders.specs.Records.{over, most_numbers}

abbrev zero_order : Order
zero_order = record { kind = 0; a = 0; b = 0 }

-- row i of the numbers is the row in its three
at_row : (rows : List ℕ) (i : ℕ) → order_of (take 3 (drop (i * 3) rows)) ≡ order_at rows i
unfolding order_at order_of
at_row rows i =
    let at : (k : ℕ) → k < 3 → get_or (take 3 (drop (i * 3) rows)) k 0 ≡ get_or rows (i * 3 + k) 0 = λ k h. get_or-take 3 (drop (i * 3) rows) k 0 h ∙ get_or-drop (i * 3) rows k 0 in
    λ j. record { kind = (at 0 (omega arith) ∙ ap (λ (k : ℕ). get_or rows k 0) (add-zero (i * 3))) j; a = at 1 (omega arith) j; b = at 2 (omega arith) j }

pub length-orders-in : (n : ℕ) (rows : List ℕ) → length (orders_in n rows) ≡ n
unfolding orders_in
length-orders-in n rows = length-rows 3 order_of n rows

one_more : (n : ℕ) (rows : List ℕ) → orders_in (suc n) rows ≡ orders_in n rows ++ (order_at rows n ∷ [])
unfolding orders_in
one_more n rows =
    let all = rows_of 3 order_of (suc n) rows in
    let long : length all ≡ suc n = length-rows 3 order_of (suc n) rows in
    let here : n < length all = omega arith in
    sym (take_all (suc n) all (omega arith))
    ∙ take-suc all n zero_order here
    ∙ ap₂ (λ (xs : List Order) (x : Order). xs ++ (x ∷ [])) (rows-front 3 order_of (suc n) rows n (omega arith)) (row_at 3 order_of (suc n) rows n zero_order (omega arith) ∙ at_row rows n)

-- a loop that stores row after row
pub over_none : (list : List Order) (rows : List ℕ) → list ≡ over (orders_in 0 rows) list
unfolding over orders_in rows_of
over_none list rows = refl

pub over-more : (list : List Order) (rows : List ℕ) (i : ℕ) → i < length list → set (over (orders_in i rows) list) i (order_at rows i) ≡ over (orders_in (suc i) rows) list
unfolding over
over-more list rows i h =
    let n = length-orders-in i rows in
    let x = order_at rows i in
    rw (one_more i rows, length-append, n, add-one, drop-cons list i zero_order h)
    (set_at (orders_in i rows) (get_or list i zero_order) (drop (suc i) list) x i n ∙ sym (append_assoc (orders_in i rows) (x ∷ []) (drop (suc i) list)))

pub over-next : (list : List Order) (rows : List ℕ) (i : ℕ) → i < length list → set (over (orders_in i rows) list) i (order_at rows i) ≡ over (orders_in (i + 1) rows) list
over-next list rows i h = rw add-one (over-more list rows i h)

pub over-length : (list : List Order) (rows : List ℕ) (i : ℕ) → i ≤ length list → length (over (orders_in i rows) list) ≡ length list
unfolding over
over-length list rows i h = simp (length-append, length-drop, length-orders-in) (omega arith)

-- orders that were stored as rows of numbers are read back
pub orders-back : (os : List Order) (rows : List ℕ) → orders_in (length os) (stored 0 (order_rows os) rows) ≡ os
unfolding stored
orders-back os rows = orders-read os (drop (0 + length (order_rows os)) rows)

-- ---- the numbers at first; shut, since they are many

unfoldable pub zeros : List ℕ
zeros = replicate most_numbers 0

pub zeros-are : replicate most_numbers 0 ≡ zeros
unfolding zeros
zeros-are = refl

pub zeros-length : length zeros ≡ most_numbers
unfolding zeros
zeros-length = length-replicate {A = ℕ} most_numbers 0
