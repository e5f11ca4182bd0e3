-- A set in numbers of 16 bits, and a head in its numbers: how they are stored, and that what is stored is read back. Assumes nothing.
use Prim.Native.Nat.{ℕ, zero, suc, ◌*◌, ◌/◌, ◌%◌, ◌^◌, ◌≤◌, ◌<◌}
use mathlib.Core.Path.{◌≡◌, refl, ap, ◌∙◌}
use mathlib.Core.List.{List, ◌∷◌}
use native.Mathlib.Nat.{pow-succ'}
use native.Mathlib.Omega.{arith}
use lib.ListN.{length, take}
use lib.Seq.{sets}
use Rattle.sets.specs.Words.{set_in}
use Rattle.rows.specs.Number.{stored}
use Rattle.rows.proofs.Laws.{stored-sets, stored-add}
use Rattle.rules.specs.Bytes.{head}
use Rattle.rules.specs.declared.Head.{Head}
use Rattle.host.specs.Answers.{set_from, set_numbers, set_length, head_length, head_from, head_numbers}

set-behind : (k at x : ℕ) (l : List ℕ) → set_from k (suc at) (x ∷ l) ≡ set_from k at l
unfolding set_from
set-behind zero at x l = refl
set-behind (suc k) at x l = rw (set-behind k (suc at) x l)

pub set_back : (k s : ℕ) → s < 65536 ^ k → set_from k 0 (set_numbers k s) ≡ s
unfolding set_from set_numbers
set_back zero s l = omega arith
set_back (suc k) s l =
    let m : s < 65536 * 65536 ^ k = rw (← pow-succ') l in
    let e : set_from k 0 (set_numbers k (s / 65536)) ≡ s / 65536 = set_back k (s / 65536) (omega arith) in
    rw (set-behind k 0 (s % 65536) (set_numbers k (s / 65536)), e) (omega arith)

-- whatever stood in the numbers before
pub head-back : (h : Head) (l : List ℕ) → set_in h.leavers < 65536 ^ set_length → head_from (stored 0 (head_numbers h) l) ≡ h
unfolding stored set_from set_numbers
head-back h l n =
    ap (head h.mode.0 h.users.0 h.resources.0 h.inner_vertices.0 h.inner_tokens.0 h.outer_vertices.0 h.outer_tokens.0)
    (set_back set_length (set_in h.leavers) n)

-- mode and counts one after the other, then the set behind them
pub head-stored : (h : Head) (l : List ℕ) {e : List ℕ} → head_length ≤ length l
    → e ≡ stored 7 (set_numbers set_length (set_in h.leavers)) (sets l 0 (take 7 (head_numbers h))) → e ≡ stored 0 (head_numbers h) l
unfolding set_numbers
head-stored h l n e =
    let leavers = set_numbers set_length (set_in h.leavers) in
    e ∙ ap (stored 7 leavers) (stored-sets 0 (take 7 (head_numbers h)) l (omega arith)) ∙ stored-add 0 (take 7 (head_numbers h)) leavers l 7 refl (omega arith)
