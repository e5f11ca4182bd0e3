-- What the output buffer holds after an answer, and after those of a block.
-- Assumes nothing.
use Prim.Native.Nat.{ℕ, zero, suc, ◌+◌, ◌*◌, ◌-◌, ◌/◌, ◌≤◌, ◌<◌}
use mathlib.Core.Path.{◌≡◌, refl, sym, ap, ap₂, subst, ◌∙◌}
use mathlib.Core.Bool.{Bool, true, false, cond, ◌&&◌, true≢false}
use mathlib.Core.List.{List, [], ◌∷◌, ◌++◌, append_assoc, append-nil}
use native.Mathlib.Omega.{arith}
use lib.Dec.{leb}
use lib.ListN.{length, take, drop, get_or, length-append, length-take}
use lib.Seq.{take_at}
use borrow.Author.Tests.{leb-true, le-leb}
use Rattle.sets.proofs.Laws.{both}
use Rattle.rows.specs.Number.{stored, joined}
use Rattle.rows.proofs.Laws.{stored-first}
use Rattle.lines.specs.Answer.{answer_text, room_for, writing, Written, put_answer}
use Rattle.std.specs.Prelude.{Option, Some, None}
use Rattle.desk.specs.Output.{counts, never_more, longest, told, Gathering, gathering, print_answer, texts, Gathered, most_orders}
use Rattle.desk.proofs.Laws.{some≢none}

-- ---- one answer

module _ (number view : ℕ) (rows : List ℕ) where
  abbrev text : List ℕ
  text = answer_text number view rows

  -- there was room
  record Room (out : List ℕ) (at end : ℕ) (now : List ℕ) : Type 0 where
    room : room_for rows at out ≡ true
    ends : end ≡ at + length text
    holds : now ≡ stored at text out

  put-room : {out now : List ℕ} {at end : ℕ} → writing (Some end) now ≡ put_answer number view rows out at → Room out at end now
  unfolding put_answer
  put-room {out} {now} {at} {end} p = go (room_for rows at out) refl p
    where
      go : (z : Bool) → room_for rows at out ≡ z → writing (Some end) now ≡ cond z (writing (Some (at + length text)) (stored at text out)) (writing None out) → Room out at end now
      go true r p =
          let a : Some end ≡ Some (at + length text) = ap (λ (w : Written). w.answer) p in
          record { room = r; ends = cc; holds = ap (λ (w : Written). w.out) p }
      go false r p = absurd (never p)
        where
          never : writing (Some end) now ≡ writing None out → ⊥
          never q =
              let a : Some end ≡ None = ap (λ (w : Written). w.answer) q in
              some≢none a

  -- there was none
  record Full (out : List ℕ) (at : ℕ) (now : List ℕ) : Type 0 where
    room : room_for rows at out ≡ false
    same : now ≡ out

  put_full : {out now : List ℕ} {at : ℕ} → writing None now ≡ put_answer number view rows out at → Full out at now
  unfolding put_answer
  put_full {out} {now} {at} p = go (room_for rows at out) refl p
    where
      go : (z : Bool) → room_for rows at out ≡ z → writing None now ≡ cond z (writing (Some (at + length text)) (stored at text out)) (writing None out) → Full out at now
      go true r p = absurd (never p)
        where
          never : writing None now ≡ writing (Some (at + length text)) (stored at text out) → ⊥
          never q =
              let a : None ≡ Some (at + length text) = ap (λ (w : Written). w.answer) q in
              some≢none (sym a)
      go false r p = record { room = r; same = ap (λ (w : Written). w.out) p }

  module _ (out : List ℕ) (at : ℕ) where
    -- behind those gathered
    pub print-behind : {p : Option ℕ} {end : ℕ} {now : List ℕ} → p ≡ Some end → writing p now ≡ put_answer number view rows out at → gathering (Some end) now ≡ print_answer true number view rows out at
    unfolding print_answer
    print-behind {p} {end} {now} e w =
        let r : Room out at end now = put-room (ap (λ (x : Option ℕ). writing x now) (sym e) ∙ w) in
        rw (r.room, r.ends, r.holds)

    module _ {p : Option ℕ} {mid : List ℕ} (e : p ≡ None) (w : writing p mid ≡ put_answer number view rows out at) where
      none : Full out at mid
      none = put_full (ap (λ (x : Option ℕ). writing x mid) (sym e) ∙ w)

      -- those could not be written out
      pub print-stuck : gathering None mid ≡ print_answer false number view rows out at
      unfolding print_answer
      print-stuck = rw (none.room, none.same)

      -- at the front
      pub print-front : {q : Option ℕ} {end : ℕ} {now : List ℕ} → q ≡ Some end → writing q now ≡ put_answer number view rows mid 0 → gathering (Some end) now ≡ print_answer true number view rows out at
      unfolding print_answer
      print-front {q} {end} {now} f v =
          let r : Room out 0 end now = put-room (ap (λ (x : Option ℕ). writing x now) (sym f) ∙ v ∙ ap (λ (x : List ℕ). put_answer number view rows x 0) none.same) in
          let ends : end ≡ length text = omega (arith, r.ends) in
          rw (none.room, ends, r.holds)

      -- it has room at the front
      pub print-never : room_for rows 0 out ≡ true → {q : Option ℕ} {now : List ℕ} → q ≡ None → writing q now ≡ put_answer number view rows mid 0 → ⊥
      print-never k {q} {now} f v =
          let r : Full out 0 now = put_full (ap (λ (x : Option ℕ). writing x now) (sym f) ∙ v ∙ ap (λ (x : List ℕ). put_answer number view rows x 0) none.same) in
          true≢false (sym k ∙ r.room)

-- ---- the pieces that a block gathers

-- nothing more is to come
pub gathered-all : (end : ℕ) (out : List ℕ) → Gathered (take end out ∷ []) end out
unfolding joined
gathered-all end out = record { gone = 0; last = omega arith; holds = sym (append-nil (take end out)) }

module _ {front text : List ℕ} {rest : List (List ℕ)} {end : ℕ} {out : List ℕ} where
  -- the next piece was put behind the others
  gathered-behind : Gathered ((front ++ text) ∷ rest) end out → Gathered (front ∷ text ∷ rest) end out
  unfolding joined
  gathered-behind g = go g.gone g.last g.holds
    where
      go : (k : ℕ) → k < length ((front ++ text) ∷ rest) → take end out ≡ joined (drop k ((front ++ text) ∷ rest)) → Gathered (front ∷ text ∷ rest) end out
      go zero l h = record { gone = 0; last = omega arith; holds = h ∙ append_assoc front text (joined rest) }
      go (suc k) l h = record { gone = suc (suc k); last = omega arith; holds = h }

  -- the others are gone
  gathered-alone : Gathered (text ∷ rest) end out → Gathered (front ∷ text ∷ rest) end out
  gathered-alone g = record { gone = suc g.gone; last = omega (arith, g.last); holds = g.holds }

-- what stands before the end of a store
pub taken-stored : (at : ℕ) (bs t : List ℕ) → at ≤ length t → take (at + length bs) (stored at bs t) ≡ take at t ++ bs
unfolding stored
taken-stored at bs t h =
    ap (λ (x : List ℕ). take (at + length bs) x) (sym (append_assoc (take at t) bs (drop (at + length bs) t)))
    ∙ take_at (take at t ++ bs) (drop (at + length bs) t) (at + length bs) (simp (length-append, length-take) (omega arith))

-- one answer more
module _ (number view : ℕ) (rows out : List ℕ) (at : ℕ) (written : Bool) (h : at ≤ length out) where
  pub gathered-more : {p : Option ℕ} {e : ℕ} {now : List ℕ} {rest : List (List ℕ)} → p ≡ Some e → gathering p now ≡ print_answer written number view rows out at
      → (r : ℕ) (fin : List ℕ) → Gathered (take e now ∷ rest) r fin → Gathered (take at out ∷ answer_text number view rows ∷ rest) r fin
  unfolding print_answer
  gathered-more {p} {e} {now} {rest} f q r fin g = go (room_for rows at out) (ap (λ (x : Option ℕ). gathering x now) (sym f) ∙ q)
    where
      text' : List ℕ
      text' = answer_text number view rows

      behind : gathering (Some e) now ≡ gathering (Some (at + length text')) (stored at text' out) → Gathered (take at out ∷ text' ∷ rest) r fin
      behind w =
          let a : Some e ≡ Some (at + length text') = ap (λ (x : Gathering). x.answer) w in
          let n : now ≡ stored at text' out = ap (λ (x : Gathering). x.out) w in
          let ends : e ≡ at + length text' = cc in
          let here : take e now ≡ take at out ++ text' = ap₂ (λ (k : ℕ) (x : List ℕ). take k x) ends n ∙ taken-stored at text' out h in
          gathered-behind (subst (λ (x : List ℕ). Gathered (x ∷ rest) r fin) here g)

      alone : gathering (Some e) now ≡ gathering (Some (length text')) (stored 0 text' out) → Gathered (take at out ∷ text' ∷ rest) r fin
      alone w =
          let a : Some e ≡ Some (length text') = ap (λ (x : Gathering). x.answer) w in
          let n : now ≡ stored 0 text' out = ap (λ (x : Gathering). x.out) w in
          let ends : e ≡ length text' = cc in
          let here : take e now ≡ text' = ap₂ (λ (k : ℕ) (x : List ℕ). take k x) ends n ∙ stored-first text' out in
          gathered-alone (subst (λ (x : List ℕ). Gathered (x ∷ rest) r fin) here g)

      never : gathering (Some e) now ≡ gathering None out → ⊥
      never w =
          let a : Some e ≡ None = ap (λ (x : Gathering). x.answer) w in
          some≢none a

      front : (y : Bool) → gathering (Some e) now ≡ cond y (gathering (Some (length text')) (stored 0 text' out)) (gathering None out)
          → Gathered (take at out ∷ text' ∷ rest) r fin
      front true w = alone w
      front false w = absurd (never w)

      go : (z : Bool)
          → gathering (Some e) now ≡ cond z (gathering (Some (at + length text')) (stored at text' out))
          (cond written (gathering (Some (length text')) (stored 0 text' out)) (gathering None out))
          → Gathered (take at out ∷ text' ∷ rest) r fin
      go true w = behind w
      go false w = front written w

-- ---- the first answer row of those left

pub counts-next : (answer answers : List ℕ) → length answer ≡ 3 → counts (answer ++ answers) ≡ get_or answer 2 0 + counts answers
unfolding counts
counts-next [] xs h = absurd (omega arith)
counts-next (n ∷ []) xs h = absurd (omega arith)
counts-next (n ∷ v ∷ []) xs h = absurd (omega arith)
counts-next (n ∷ v ∷ c ∷ []) xs h = refl
counts-next (n ∷ v ∷ c ∷ d ∷ ds) xs h = absurd (omega arith)

few-all : (answer answers : List ℕ) → length answer ≡ 3 → never_more (answer ++ answers) ≡ (leb (get_or answer 2 0) most_orders && never_more answers)
unfolding never_more
few-all [] xs h = absurd (omega arith)
few-all (n ∷ []) xs h = absurd (omega arith)
few-all (n ∷ v ∷ []) xs h = absurd (omega arith)
few-all (n ∷ v ∷ c ∷ []) xs h = refl
few-all (n ∷ v ∷ c ∷ d ∷ ds) xs h = absurd (omega arith)

module _ (answer answers : List ℕ) (h : length answer ≡ 3) (f : never_more (answer ++ answers) ≡ true) where
  few-parts : (leb (get_or answer 2 0) most_orders ≡ true) × (never_more answers ≡ true)
  few-parts = both (leb (get_or answer 2 0) most_orders) (never_more answers) (sym (few-all answer answers h) ∙ f)

  pub few-next : get_or answer 2 0 ≤ most_orders
  few-next = leb-true (get_or answer 2 0) most_orders few-parts.0

  pub few-rest : never_more answers ≡ true
  few-rest = few-parts.1

pub texts-next : (request requests answer answers orders : List ℕ) → length request ≡ 3 → length answer ≡ 3 → texts (request ++ requests) (answer ++ answers) orders
    ≡ answer_text (told (get_or request 0 0) (get_or answer 0 0)) (get_or answer 1 0) (take (get_or answer 2 0 * 3) orders)
    ∷ texts requests answers (drop (get_or answer 2 0 * 3) orders)
unfolding texts
texts-next request requests answer answers orders r a = go answer a
  where
    asked : (r : List ℕ) → length r ≡ 3 → (get_or (r ++ requests) 0 0 ≡ get_or r 0 0) × (drop 3 (r ++ requests) ≡ requests)
    asked [] h = absurd (omega arith)
    asked (x ∷ []) h = absurd (omega arith)
    asked (x ∷ y ∷ []) h = absurd (omega arith)
    asked (x ∷ y ∷ z ∷ []) h = (refl, refl)
    asked (x ∷ y ∷ z ∷ w ∷ ws) h = absurd (omega arith)

    go : (a : List ℕ) → length a ≡ 3 → texts (request ++ requests) (a ++ answers) orders
        ≡ answer_text (told (get_or request 0 0) (get_or a 0 0)) (get_or a 1 0) (take (get_or a 2 0 * 3) orders) ∷ texts requests answers (drop (get_or a 2 0 * 3) orders)
    go [] h = absurd (omega arith)
    go (n ∷ []) h = absurd (omega arith)
    go (n ∷ v ∷ []) h = absurd (omega arith)
    go (n ∷ v ∷ c ∷ []) h = let e = asked request r in rw (e.0, e.1)
    go (n ∷ v ∷ c ∷ d ∷ ds) h = absurd (omega arith)

pub texts-done : (requests answers orders : List ℕ) → length answers < 3 → texts requests answers orders ≡ []
unfolding texts
texts-done requests [] orders l = refl
texts-done requests (x ∷ []) orders l = refl
texts-done requests (x ∷ y ∷ []) orders l = refl
texts-done requests (x ∷ y ∷ z ∷ xs) orders l = absurd (omega arith)

-- the longest answer has room at the front
pub room-front : (c : ℕ) (orders out : List ℕ) → c ≤ most_orders → longest ≤ length out → room_for (take (c * 3) orders) 0 out ≡ true
unfolding room_for
room-front c orders out f l =
    let rows : List ℕ = take (c * 3) orders in
    le-leb (24 + 18 * (length rows / 3)) (length out - 0) (omega (arith, length-take (c * 3) orders))
