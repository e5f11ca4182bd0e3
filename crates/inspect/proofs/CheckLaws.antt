-- The answer to the whole input, by its front and its length. Assumes nothing.
use Prim.Native.Nat.{ℕ, ◌+◌, ◌≤◌, ◌<◌}
use mathlib.Core.List.{List}
use mathlib.Core.Option.{Option, some, none}
use mathlib.Core.Path.{◌≡◌, refl, sym, ap, ap₂, ◌∙◌}
use native.Mathlib.Nat.{zero-add}
use native.Mathlib.Omega.{arith}
use lib.ListN.{length, take, drop, length-append}
use borrow.Author.Tests.{lt-ltb}
use Rattle.rows.specs.Number.{stored}
use Rattle.rows.proofs.Laws.{stored-first}
use Rattle.rules.specs.Tests.{when, first_some}
use Rattle.sets.specs.declared.Users.{Users}
use Rattle.rules.specs.Bytes.{version_in, head_in, counts, start, limits_of, fault, left_by}
use Rattle.rules.specs.declared.Head.{Head}
use Rattle.rules.specs.declared.Fault.{Fault}
use Rattle.rules.specs.declared.Fault.TheVariants.{Mark, Version, Mode, Count, Length, Rule}
use Rattle.std.specs.Prelude.{Result, Ok, Err}
use Rattle.sound.specs.Check.{unless}
use Rattle.lines.specs.Answer.{Puts}
use Rattle.inspect.specs.Input.{FrontOf}
use Rattle.inspect.specs.Text.{head_text, limit_at, count_text, length_text, broken_text, short_text, answer_text, check_text, Headed, grown, grown_by}
use Rattle.inspect.proofs.LongLaws.{fault-whole, version-whole, head-whole, short-whole}

-- what the call says of the front
fault-nothing : (o : Option Fault) → Ok tt ≡ unless o → o ≡ none
fault-nothing none e = refl
fault-nothing (some f) e = cc

fault-first : (o : Option Fault) (f : Fault) → Err f ≡ unless o → o ≡ some f
fault-first none f e = cc
fault-first (some g) f e = cc

pub headed : (n : ℕ) (f : Fault) → 17 ≤ n → Headed (grown n f)
headed n Mark h = tt
headed n Version h = tt
headed n Mode h = tt
headed n (Count place) h = tt
headed n (Length m) h = h
headed n (Rule l s at) h = tt

-- too few bytes for a header
fault-short : (bs : List ℕ) → length bs < 17 → fault bs ≡ some (Length (length bs))
unfolding fault first_some when
fault-short bs h = rw (lt-ltb (length bs) 17 h)

broken-short : (v : ℕ) (h : Head) (n : ℕ) → n < 17 → broken_text v h (Length n) ≡ short_text n
unfolding broken_text short_text
broken-short v h n l = rw (lt-ltb n 17 l)

-- who has left is not told of a book that is broken
broken-left : (v : ℕ) (s : Users) (h : Head) (f : Fault) → broken_text v (left_by s h) f ≡ broken_text v h f
unfolding broken_text count_text limit_at limits_of length_text start counts
broken-left v s h Mark = refl
broken-left v s h Version = refl
broken-left v s h Mode = refl
broken-left v s h (Count place) = refl
broken-left v s h (Length n) = refl
broken-left v s h (Rule l r at) = refl

module _ {front : List ℕ} {total : ℕ} {came : List ℕ} (f : FrontOf front total came) where
  pub check-short : length front < 17 → check_text came ≡ short_text total
  unfolding check_text answer_text
  check-short h =
      let (e, t) = short-whole f h in
      rw (e, t, fault-short front h) (broken-short (version_in front) (head_in front) (length front) h)

  module _ {w : Result (Unit {0}) Fault} (e : w ≡ unless (fault front)) where
    pub check_sound : w ≡ Ok tt → check_text came ≡ head_text (head_in front)
    unfolding check_text answer_text
    check_sound n = ap₂ (answer_text (version_in came)) (head-whole f) (fault-whole f ∙ ap (grown_by total) (fault-nothing (fault front) (sym n ∙ e)))

    pub check-broken : {x y : Fault} {v : ℕ} {h : Head} (s : Users) → w ≡ Err x → v ≡ version_in front → h ≡ left_by s (head_in front) → y ≡ grown total x
        → check_text came ≡ broken_text v h y
    unfolding check_text answer_text
    check-broken {x} {y} {v} {h} s n ev eh ey =
        ap₂ (answer_text (version_in came)) (head-whole f) (fault-whole f ∙ ap (grown_by total) (fault-first (fault front) x (sym n ∙ e)))
        ∙ ap₂ (λ (a : ℕ) (b : Fault). broken_text a (head_in front) b) (version-whole f ∙ sym ev) (sym ey)
        ∙ sym (ap (λ (g : Head). broken_text v g y) eh ∙ broken-left v s (head_in front) y)

-- a text that was put at the front of a buffer
module _ {text out now : List ℕ} {end : ℕ} (p : Puts text 0 out end now) where
  pub put_first : take end now ≡ text
  put_first =
      let e : end ≡ length text = p.ends ∙ zero-add (length text) in
      rw (e, p.holds) (stored-first text out)

  pub put-within : end ≤ length now
  unfolding stored
  put-within = omega (arith, p.ends, ap length p.holds, length-append text (drop (0 + length text) out))
