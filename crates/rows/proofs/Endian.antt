-- What `byteorder` reads and writes, in the words of this crate. Assumes nothing.
use Rattle.std.proofs.Common.{◌≡◌, ◌+◌, ◌-◌, ◌*◌, ◌/◌, ◌%◌, ◌^◌, ◌≤◌, ℕ, zero, suc, List, [], ◌∷◌, ◌++◌, length, length-drop, take, drop, refl, ap, ap₂, sym, ◌∙◌, arith}
use Rattle.std.proofs.lemmas.List.{take_rest, drop_all, drop-drop, append-nil}
use Rattle.std.proofs.Math.Nat.{div-one, div-div-eq-div-mul, pow-suc, not-suc-le-zero, le_of_suc-le-suc}
use Rattle.std.specs.Int.{byte_at, bytes_low_first}
use Rattle.byteorder.specs.Endian.{little_number, little_bytes}
use Rattle.byteorder.specs.Numbers.{little_from-cons}
use borrow.Rule.Slice.PartMut.{put_mid}
use Rattle.rows.specs.Number.{number, bytes_of, cell, stored}
use Rattle.rows.proofs.Laws.{length-bytes}

little-number : (w : ℕ) (bs : List ℕ) → w ≤ length bs → little_number w bs ≡ number (take w bs)
unfolding number
little-number zero bs h = refl
little-number (suc w) [] h = absurd (not-suc-le-zero h)
little-number (suc w) (b ∷ bs) h =
    ap (λ (n : ℕ). b + 256 * n) (little_from-cons 0 w b bs ∙ little-number w bs (le_of_suc-le-suc h))

-- a read at the front of what stands from `at` on
pub cell_read : (w at x : ℕ) (t : List ℕ) → at + w ≤ length t → x ≡ little_number w (take (length t - at) (drop at t)) → x ≡ cell w at t
unfolding cell
cell_read w at x t h e = e ∙ ap (little_number w) (take_rest t at) ∙ little-number w (drop at t) (simp length-drop (omega arith))

byte-is : (i x : ℕ) → byte_at i x ≡ x / 256 ^ i % 256
byte-is zero x = ap (λ (n : ℕ). n % 256) (sym (div-one x))
byte-is (suc i) x = refl

bytes-from : (i w x : ℕ) → bytes_low_first i w x ≡ bytes_of w (x / 256 ^ i)
unfolding bytes_of
bytes-from i zero x = refl
bytes-from i (suc w) x =
    ap₂ (λ (b : ℕ) (bs : List ℕ). b ∷ bs) (byte-is i x)
    (bytes-from (suc i) w x ∙ ap (bytes_of w) (ap (λ (n : ℕ). x / n) (pow-suc 256 i) ∙ sym (div-div-eq-div-mul x (256 ^ i) 256)))

little-bytes : (w x : ℕ) → little_bytes w x ≡ bytes_of w x
little-bytes w x = bytes-from 0 w x ∙ ap (bytes_of w) (div-one x)

-- a write at the front of what stands from `at` on
pub stored_write : (w at x : ℕ) (t : List ℕ) {part : List ℕ} → part ≡ little_bytes w x ++ drop w (take (length t - at) (drop at t))
    → put_mid at (length t - at) t part ≡ stored at (bytes_of w x) t
unfolding stored
stored_write w at x t e =
    rw (e, little-bytes, take_rest, drop-drop, drop_all (length t - at) (drop at t) (simp length-drop (omega arith)), append-nil, length-bytes)
