-- The place that a C call on bytes tells (RULES 8.9): with 20 to 24 and 31 to 38 that of what is wrong first with the bytes, and else 0.
-- Assumes nothing.
use Prim.Native.Nat.{ℕ, zero, suc, ◌≤◌, ◌<◌}
use mathlib.Core.Path.{◌≡◌, refl}
use mathlib.Core.Bool.{Bool, true, false, not, cond}
use mathlib.Core.List.{List, [], ◌∷◌}
use mathlib.Core.Option.{Option, some, none}
use native.Mathlib.Omega.{arith}
use lib.Dec.{ltb}
use lib.ListN.{length}
use Rattle.rules.specs.Tests.{when, first_some}
use Rattle.rules.specs.Bytes.{Tables, rule_number, fault_number, fault_place, fault}
use Rattle.rules.specs.Refusals.{short, faulty_by, refusal_read, refusal_section}
use Rattle.rules.specs.Calls.{part_by, section_call, load_by, read_call}
use Rattle.rules.specs.declared.Letter.{Letter}
use Rattle.rules.specs.declared.Letter.TheVariants.{S1, S2, S3, S4, S5, S6, S7, S8}
use Rattle.rules.specs.declared.Fault.{Fault}
use Rattle.rules.specs.declared.Fault.TheVariants.{Mark, Version, Mode, Count, Length, Rule}
use Rattle.rules.specs.declared.Refusal.TheVariants.{ShortTable, NoSuch}
use Rattle.rules.specs.declared.Denial.TheVariants.{Refused}
use Rattle.host.specs.Answers.{head_length, loaded_as, read_by, read_answer, stretch_by, section_answer}

rule-number : (l : Letter) → 31 ≤ rule_number l
rule-number S1 = omega arith
rule-number S2 = omega arith
rule-number S3 = omega arith
rule-number S4 = omega arith
rule-number S5 = omega arith
rule-number S6 = omega arith
rule-number S7 = omega arith
rule-number S8 = omega arith

-- no other refusal of a call on bytes has the number of a fault, and 0 is none
pub fault-number : (f : Fault) → 20 ≤ fault_number f
fault-number Mark = omega arith
fault-number Version = omega arith
fault-number Mode = omega arith
fault-number (Count at) = omega arith
fault-number (Length n) = omega arith
fault-number (Rule l s at) = omega (arith, rule-number l)

-- the result and the place of a call on the bytes bs
pub data Places (bs : List ℕ) (r at : ℕ) : Type 0 where
  no_place : r < 20 → at ≡ 0 → Places bs r at
  the-place : (f : Fault) → fault bs ≡ some f → r ≡ fault_number f → at ≡ fault_place f → Places bs r at

pub c-read-place : (bs l : List ℕ) (t : Tables) → let a = read_answer bs l t in Places bs a.result a.place
unfolding read_answer read_by read_call load_by refusal_read first_some faulty_by when
c-read-place bs l t = go (ltb (length l) head_length) (short t) (fault bs) refl
  where
    go : (z s : Bool) (o : Option Fault) → fault bs ≡ o
        → let c = load_by (first_some (when s (Refused ShortTable) ∷ faulty_by o ∷ [])) bs t in
        let a = cond z (loaded_as 13 l t 0) (read_by c.answer l c.tables) in Places bs a.result a.place
    go true s o e = no_place (omega arith) refl
    go false true o e = no_place (omega arith) refl
    go false false none e = no_place (omega arith) refl
    go false false (some f) e = the-place f e refl refl

pub c-section-place : (bs : List ℕ) (k s n : ℕ) → let a = section_answer bs k s n in Places bs a.result a.place
unfolding section_answer stretch_by section_call part_by refusal_section first_some faulty_by when
c-section-place bs k s n = go (fault bs) (ltb k 5) refl
  where
    -- an answer has the result and the place that the section call gave
    by : (r at : ℕ) → Places bs r at → let a = stretch_by bs k s n at r in Places bs a.result a.place
    by zero at p = p
    by (suc r) at p = p

    go : (o : Option Fault) (b : Bool) → fault bs ≡ o
        → let c = part_by (first_some (faulty_by o ∷ when (not b) (Refused NoSuch) ∷ [])) bs k in
        let a = stretch_by bs k s n c.place c.cell in Places bs a.result a.place
    go (some f) b e = by (fault_number f) (fault_place f) (the-place f e refl refl)
    go none false e = by 1 0 (no_place (omega arith) refl)
    go none true e = by 0 0 (no_place (omega arith) refl)

-- so the place is 0 on an accepted call, and on 1 and 13
pub none_told : {bs : List ℕ} {r at : ℕ} → Places bs r at → r < 20 → at ≡ 0
none_told (no_place l e) m = e
none_told (the-place f o e p) m = absurd (omega (arith, fault-number f))
