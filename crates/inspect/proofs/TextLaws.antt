-- Texts one behind the other in the output buffer. Assumes nothing.
use Prim.Native.Nat.{ℕ, ◌+◌, ◌≤◌, ◌<◌}
use mathlib.Core.Path.{◌≡◌, refl, sym, ap, ◌∙◌}
use mathlib.Core.List.{List, [], ◌++◌}
use native.Mathlib.Numerals.{add-one}
use native.Mathlib.Omega.{arith}
use lib.Dec.{eqb}
use lib.ListN.{length, take, get_or, set}
use lib.Seq.{take-suc, take-length}
use borrow.Author.Tests.{ne_eqb, le-ltb}
use Rattle.rules.specs.Lists.{first}
use Rattle.rules.specs.Sound.{count_limits}
use Rattle.rules.specs.Bytes.{limits_of, count_places}
use Rattle.rules.specs.declared.Head.{Head}
use Rattle.rules.specs.declared.Fault.{Fault}
use Rattle.rules.specs.declared.Fault.TheVariants.{Mark, Version, Mode, Count, Length, Rule}
use Rattle.lines.specs.Text.{bytes}
use Rattle.lines.specs.Answer.{numeral, Puts}
use Rattle.inspect.specs.Text.{mode_text, people_text, layers_text, limit_at, length_text, sentence, Headed, grown}
use Rattle.lines.proofs.Putting.{put-none, put_byte, put_then}

-- ---- words, byte by byte

pub words-none : (at : ℕ) (out : List ℕ) → Puts [] at out (at + 0) out
words-none at out = record { ends = refl; holds = (put-none at out).holds }

-- one byte more
pub words_more : (words : List ℕ) (i at : ℕ) (out now : List ℕ) → i < length words → at + length words ≤ length out → length now ≡ length out
    → Puts (take i words) at out (at + i) now → Puts (take (i + 1) words) at out (at + (i + 1)) (set now (at + i) (get_or words i 0))
words_more words i at out now h room same p =
    let e : at + i + 1 ≡ at + (i + 1) = omega arith in
    rw (← e, add-one i, take-suc words i 0 h) (put_then (omega arith) p (put_byte (get_or words i 0) (at + i) now (omega arith)))

pub words-all : {words : List ℕ} {out now : List ℕ} (i at : ℕ) → i ≡ length words → Puts (take i words) at out (at + i) now → Puts words at out (at + i) now
words-all {words} i at e p =
    let all : take i words ≡ words = ap (λ (n : ℕ). take n words) e ∙ take-length words in
    rw all at p

-- ---- the fault of a longer input

pub grown-other : (n : ℕ) (f : Fault) → ((m : ℕ) → f ≡ Length m → ⊥) → f ≡ grown n f
grown-other n Mark h = refl
grown-other n Version h = refl
grown-other n Mode h = refl
grown-other n (Count place) h = refl
grown-other n (Length m) h = absurd (h m refl)
grown-other n (Rule r s at) h = refl

-- ---- the head, line by line

module _ {a b c r at : ℕ} {out one two three now : List ℕ} (h : Head) (w : at ≤ length out) (x : a ≤ length one) (y : b ≤ length two) where
  pub people-text : Puts (bytes "sound\n") at out a one → Puts (mode_text h.mode.0) a one b two
      → Puts (bytes "users " ++ numeral h.users.0 10) b two c three → Puts (bytes "folders " ++ numeral h.resources.0 10) c three r now
      → Puts (people_text h) at out r now
  unfolding people_text
  people-text p q s t = put_then {a = bytes "sound\n"} w p (put_then x q (put_then y s t))

  pub layers-text : Puts (bytes "inner vertices " ++ numeral h.inner_vertices.0 10) at out a one
      → Puts (bytes "inner tokens " ++ numeral h.inner_tokens.0 10) a one b two
      → Puts (bytes "outer vertices " ++ numeral h.outer_vertices.0 10) b two c three
      → Puts (bytes "outer tokens " ++ numeral h.outer_tokens.0 10) c three r now
      → Puts (layers_text h) at out r now
  unfolding layers_text
  layers-text p q s t = put_then w p (put_then x q (put_then y s t))

-- ---- sentences

-- no other byte starts a count
pub limit-none : (h : Head) (place : ℕ) → (place ≡ 6 → ⊥) → (place ≡ 7 → ⊥) → (place ≡ 9 → ⊥) → (place ≡ 11 → ⊥) → (place ≡ 13 → ⊥) → (place ≡ 15 → ⊥)
    → 0 ≡ limit_at h place
unfolding limit_at limits_of count_limits first
limit-none h place a b c d e f =
    let past : first (eqb place) count_places ≡ 6 = rw (ne_eqb place 6 a, ne_eqb place 7 b, ne_eqb place 9 c, ne_eqb place 11 d, ne_eqb place 13 e, ne_eqb place 15 f) in
    sym (ap (λ (i : ℕ). (get_or (limits_of h) i (0, 0)).1) past)

-- where the bytes have a header
pub sentence-length : (v : ℕ) (h : Head) (f : Fault) (n : ℕ) → f ≡ Length n → Headed f → sentence v h f ≡ length_text v h
sentence-length v h f n e p =
    let long : 17 ≤ n = rw e at p in
    rw (e, le-ltb n 17 long)
