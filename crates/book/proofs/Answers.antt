-- What the calls on a book's bytes answer: what is wrong with them, their sections, reading and writing. Each law is one way out of a call.
-- Assumes nothing.
use Prim.Native.Nat.{ℕ, suc, ◌+◌, ◌*◌, ◌-◌, ◌≤◌, ◌<◌}
use mathlib.Core.Path.{◌≡◌, refl, sym, ap, ap₂, subst, ◌∙◌}
use mathlib.Core.Bool.{Bool, true, false, ◌&&◌, not, cond, true≢false}
use mathlib.Core.List.{List, [], ◌∷◌}
use mathlib.Core.Option as math
use mathlib.Core.Option.{some, none}
use Rattle.std.specs.Prelude.{Option, Some, None, Result, Ok, Err, is_some}
use native.Mathlib.Numerals.{add-one}
use native.Mathlib.Omega.{arith}
use denote.Ref.{Bor}
use lib.Dec.{eqb, ltb}
use lib.ListN.{length, get_or, take, drop}
use borrow.Author.Tests.{not-true, not-false, lt-ltb, le-ltb, ltb-true, eqb-true, eq-eqb}
use Rattle.std.specs.List.{starts_with}
use Rattle.sets.specs.declared.Users.{Users}
use Rattle.sets.proofs.Laws.{both}
use Rattle.rows.specs.Number.{cell, stored}
use Rattle.rows.proofs.Laws.{cell-add, cell-one}
use Rattle.rows.proofs.Fill.{row_within}
use Rattle.rules.specs.Lists.{first}
use Rattle.rules.specs.Tests.{first_rule, when, first_some}
use Rattle.rules.specs.Book.{Book}
use Rattle.rules.specs.Sound.{in_limit, rules, sound}
use Rattle.rules.specs.Bytes.{widths, Tables, newest, version_in, fore, head_of, head_in, counts, start, section, sections, read, limits_of, count_places, bad_count, place_of, rule_fault, fault, is_book, book_in, laid, write, Room, Bytes, left_by}
use Rattle.rules.specs.Refusals.{short, common, verdict, faulty_by, refusal_read, refusal_section, refusal_write, denial_number, denial_place}
use Rattle.rules.specs.Calls.{part, part_by, section_call, loading, load_by, read_call, writing, write_by, write_call}
use Rattle.rules.specs.declared.Head.{Head}
use Rattle.rules.specs.declared.Letter.{Letter}
use Rattle.rules.specs.declared.Spot.{Spot}
use Rattle.rules.specs.declared.Spot.TheVariants.{Row, Leavers, Missing}
use Rattle.rules.specs.declared.Fault.{Fault}
use Rattle.rules.specs.declared.Fault.TheVariants.{Count, Rule}
use Rattle.rules.specs.declared.Refusal.{Refusal}
use Rattle.rules.specs.declared.Refusal.TheVariants.{NoSuch, ShortTable, ShortList}
use Rattle.rules.specs.declared.Denial.{Denial}
use Rattle.rules.specs.declared.Denial.TheVariants.{Refused, Faulty}
use Rattle.sound.specs.Check.{counts_of, unless, checked}
use Rattle.sound.proofs.Counted.{bad_counts, six-limits, counts-hold}
use Rattle.theorems.proofs.RequestLaws.{common-none, common-passed, verdict-first}
use Rattle.theorems.proofs.FaultLaws.{fault-none}
use Rattle.theorems.proofs.TestedLaws.{same}
use Rattle.theorems.proofs.SpotLaws.{sizes_of, There, spot-there}
use Rattle.theorems.proofs.ByteLaws.{BookFits, sound-fits, sound-room, head-in}
use Rattle.theorems.proofs.WriteLaws.{Exact, BookBytes, book-bytes, head_read, length-write, start-next, start-le}
use Rattle.book.specs.Ready.{Loadable, Savable, Judgeable, Counted, PartOf}
use Rattle.book.proofs.Laws.{start_left, counts-left, start-fore, section-cut}

-- the answer x is no (the code tests `!x`)
pub no : {s x : Bool} → x ≡ s → not x ≡ true → s ≡ false
no {x = x} a e = sym a ∙ not-true x e

-- ---- first_fault

-- the mark's three bytes as one number
pub mark-bytes : (bs : List ℕ) → 3 ≤ length bs → cell 3 0 bs ≡ get_or bs 0 0 + 256 * get_or bs 1 0 + 65536 * get_or bs 2 0
mark-bytes bs l =
    omega (
      arith,
      cell-add 1 2 0 bs (omega arith),
      cell-add 1 1 1 bs (omega arith),
      cell-one 0 bs (omega arith),
      cell-one 1 bs (omega arith),
      cell-one 2 bs (omega arith),
    )

-- the mark, byte by byte
pub mark-is : (bs : List ℕ) → 3 ≤ length bs → get_or bs 0 0 ≡ 0x54 → get_or bs 1 0 ≡ 0x4B → get_or bs 2 0 ≡ 0x42 → cell 3 0 bs ≡ 0x424B54
mark-is bs l a b c = omega (arith, mark-bytes bs l)

pub marked : (bs : List ℕ) → Bytes bs → 3 ≤ length bs → cell 3 0 bs ≡ 0x424B54 → (get_or bs 0 0 ≡ 0x54) × (get_or bs 1 0 ≡ 0x4B) × (get_or bs 2 0 ≡ 0x42)
marked bs byte l k =
    let m : get_or bs 0 0 + 256 * get_or bs 1 0 + 65536 * get_or bs 2 0 ≡ 0x424B54 = sym (mark-bytes bs l) ∙ k in
    (omega (arith, byte 0, byte 1, byte 2), omega (arith, byte 0, byte 1, byte 2), omega (arith, byte 0, byte 1, byte 2))

-- the answer whether the bytes begin with it
pub mark-told : (bs : List ℕ) → Bytes bs → 3 ≤ length bs → starts_with eqb bs (0x54 ∷ 0x4B ∷ 0x42 ∷ []) ≡ eqb (cell 3 0 bs) 0x424B54
mark-told [] byte l = absurd (omega arith)
mark-told (x ∷ []) byte l = absurd (omega arith)
mark-told (x ∷ y ∷ []) byte l = absurd (omega arith)
mark-told (x ∷ y ∷ z ∷ bs) byte l =
    same (eqb 0x54 x && (eqb 0x4B y && (eqb 0x42 z && true))) (eqb (cell 3 0 (x ∷ y ∷ z ∷ bs)) 0x424B54)
    (λ t.
    let (a, rest) = both (eqb 0x54 x) (eqb 0x4B y && (eqb 0x42 z && true)) t in
    let (b, last) = both (eqb 0x4B y) (eqb 0x42 z && true) rest in
    let c = both (eqb 0x42 z) true last in
    eq-eqb (cell 3 0 (x ∷ y ∷ z ∷ bs)) 0x424B54
    (mark-is (x ∷ y ∷ z ∷ bs) l (sym (eqb-true 0x54 x a)) (sym (eqb-true 0x4B y b)) (sym (eqb-true 0x42 z c.0))))
    (λ t.
    let (a, b, c) = marked (x ∷ y ∷ z ∷ bs) byte l (eqb-true (cell 3 0 (x ∷ y ∷ z ∷ bs)) 0x424B54 t) in
    rw (eq-eqb 0x54 x (sym a), eq-eqb 0x4B y (sym b), eq-eqb 0x42 z (sym c)))

-- by the answer r
module _ (bs : List ℕ) (byte : Bytes bs) (long : 17 ≤ length bs) {r : Bool} (e : r ≡ starts_with eqb bs (0x54 ∷ 0x4B ∷ 0x42 ∷ [])) where
  pub mark-there : not r ≡ false → cell 3 0 bs ≡ 0x424B54
  mark-there q = eqb-true (cell 3 0 bs) 0x424B54 (sym (e ∙ mark-told bs byte (omega arith)) ∙ not-false r q)

  pub mark-missing : not r ≡ true → (cell 3 0 bs ≡ 0x424B54 → ⊥)
  mark-missing q t = true≢false (sym (eq-eqb (cell 3 0 bs) 0x424B54 t) ∙ sym (e ∙ mark-told bs byte (omega arith)) ∙ not-true r q)

-- the mode of a head that is read
pub mode-read : (bs : List ℕ) (s : Users) {h : Head} → h ≡ left_by s (head_in bs) → h.mode.0 ≡ cell 1 5 bs
unfolding head_in
mode-read bs s e = ap (λ (h : Head). h.mode.0) e

-- a count past its limit is found
pub count-found : (h : Head) {c : Option ℕ} {i : ℕ} → c ≡ bad_counts h → c ≡ Some i → (i < 6) × (bad_count h ≡ some (Count (get_or count_places i 0)))
unfolding bad_count when
count-found h {c = c} {i = i} e a = go (ltb k 6) refl (sym e ∙ a)
  where
    k : ℕ
    k = first (λ c. not (in_limit c)) (limits_of h)

    go : (b : Bool) → ltb k 6 ≡ b → cond b (Some k) None ≡ Some i → (i < 6) × (cond (ltb k (length (limits_of h))) (some (Count (get_or count_places k 0))) none ≡ some (Count (get_or count_places i 0)))
    go true l q =
        let z : k ≡ i = cc in
        (omega (arith, ltb-true k 6 l), rw (six-limits h, l) (ap (λ (n : ℕ). some (Count (get_or count_places n 0))) z))
    go false l q = let z : ◌≡◌ {A = ℕ} 0 1 = cc in absurd (omega arith)

-- and none is
pub count_none : (h : Head) {c : Option ℕ} → c ≡ bad_counts h → c ≡ None → bad_count h ≡ none
unfolding bad_count when
count_none h {c = c} e a = go (ltb k 6) refl (sym e ∙ a)
  where
    k : ℕ
    k = first (λ c. not (in_limit c)) (limits_of h)

    go : (b : Bool) → ltb k 6 ≡ b → cond b (Some k) None ≡ None → cond (ltb k (length (limits_of h))) (some (Count (get_or count_places k 0))) none ≡ none
    go true l q = let z : ◌≡◌ {A = ℕ} 0 1 = cc in absurd (omega arith)
    go false l q = rw (six-limits h, l)

-- what is no place is none
pub none-is : (o : Option ℕ) → ((i : ℕ) → o ≡ Some i → ⊥) → o ≡ None
none-is None n = refl
none-is (Some i) n = absurd (n i refl)

-- bytes of the exact length have all that stands before the sections
pub front-there : (bs : List ℕ) (h : Head) {v : ℕ} → v ≡ version_in bs → length bs ≡ start v h 5 → fore (version_in bs) ≤ length bs
front-there bs h {v = v} e exact = rw (sym e) (omega (arith, start-fore v h 5))

-- the code's start of section k is that of the bytes
pub start-read : (bs : List ℕ) (k : ℕ) {v a : ℕ} {h : Head} → a ≡ start v h k → v ≡ version_in bs → h ≡ head_in bs → a ≡ start (version_in bs) (head_in bs) k
start-read bs k e ev eh = e ∙ ap₂ (λ (x : ℕ) (y : Head). start x y k) ev eh

pub start-header : (bs : List ℕ) (s : Users) (k : ℕ) {v a : ℕ} {g : Head} → a ≡ start v g k → v ≡ version_in bs → g ≡ left_by s (head_in bs)
    → a ≡ start (version_in bs) (head_in bs) k
start-header bs s k {v = v} e ev eg = start-read bs k (e ∙ ap (λ (x : Head). start v x k) eg ∙ start_left v s (head_in bs) k) ev refl

-- with all before them passed, the rules decide: g is the head where nobody has left, which mode, counts and length are judged by
pub judgeable : (bs : List ℕ) (v : ℕ) (s : Users) (g h : Head) {c : Option ℕ} → v ≡ version_in bs → g ≡ left_by s (head_in bs) → h ≡ head_in bs → g.mode.0 ≤ 1
    → c ≡ bad_counts g → c ≡ None → length bs ≡ start v g 5 → Judgeable bs v h
judgeable bs v s g h ev eg eh m f n exact =
    let same : g ≡ left_by s h = eg ∙ ap (left_by s) (sym eh) in
    record {
      whole = record { version = ev; head = eh; exact = exact ∙ ap (λ (x : Head). start v x 5) same ∙ start_left v s h 5 };
      within = sym (counts-left s h) ∙ ap counts_of (sym same) ∙ sym (counts-hold g m f (ap is_some n));
    }

pub by-rules : (bs : List ℕ) (v : ℕ) (h : Head) {w : Result (Unit {0}) Fault} → Judgeable bs v h → fault bs ≡ rule_fault (version_in bs) (head_in bs) (first_rule (rules (read bs)))
    → w ≡ unless (rule_fault v h (first_rule (rules (read bs)))) → w ≡ unless (fault bs)
by-rules bs v h k r w =
    w ∙ ap₂ (λ (x : ℕ) (y : Head). unless (rule_fault x y (first_rule (rules (read bs))))) k.whole.version k.whole.head ∙ ap unless (sym r)

-- ---- place_of

-- the row at which a rule is broken lies within the book
pub row-counted : (h : Head) {s : Spot} {k i : ℕ} → s ≡ Row k i → Counted h s → (k < 5) × (i < get_or (counts h) k 0)
row-counted h e c = subst (Counted h) e c

pub row-within-book : (v : ℕ) (h : Head) (k i : ℕ) → k < 5 → i < get_or (counts h) k 0 → start v h k + i * get_or widths k 0 ≤ start v h 5
row-within-book v h k i l m =
    omega (arith, start-next v h k, start-le v h (suc k), row_within i (get_or (counts h) k 0) (get_or widths k 0) m)

pub row-place : (v : ℕ) (h : Head) {s : Spot} {k i a : ℕ} → s ≡ Row k i → a ≡ start v h k → a + i * get_or widths k 0 ≡ place_of v h s
unfolding place_of
row-place v h {k = k} {i = i} e p = ap (λ (n : ℕ). n + i * get_or widths k 0) p ∙ sym (ap (place_of v h) e)

pub leavers-place : (v : ℕ) (h : Head) {s : Spot} → s ≡ Leavers → 17 ≡ place_of v h s
unfolding place_of
leavers-place v h e = sym (ap (place_of v h) e)

pub missing-place : (v : ℕ) (h : Head) {s : Spot} → s ≡ Missing → 65535 ≡ place_of v h s
unfolding place_of
missing-place v h e = sym (ap (place_of v h) e)

-- ---- rule_fault

-- what the rules say j of the book in the sections t, they say of the one that is read
pub read-judged : (bs : List ℕ) (v : ℕ) (h : Head) {t : Tables} {j : Result (Unit {0}) (Letter × Spot)} → Judgeable bs v h → t ≡ sections bs
    → j ≡ unless (first_rule (rules (book_in h t))) → j ≡ unless (first_rule (rules (read bs)))
unfolding read
read-judged bs v h k cut e = e ∙ ap (λ (x : Book). unless (first_rule (rules x))) (ap₂ book_in k.whole.head cut)

-- what stands behind an answer
pub fine : {E : Type 0} (o : math.Option E) {u : Unit {0}} → Ok u ≡ unless o → o ≡ none
fine none e = refl
fine (some r) e = cc

pub against : {E : Type 0} (o : math.Option E) {r : E} → Err r ≡ unless o → o ≡ some r
against none e = cc
against (some q) e = cc

counted : (h : Head) (t : Tables) (s : Spot) → There (sizes_of (book_in h t)) s → Counted h s
unfolding counts head_of
counted h t s e = go s (subst (λ (x : Head). There (counts x) s) (head-in h t) (same s e))
  where
    same : (s : Spot) → There (sizes_of (book_in h t)) s → There (counts (head_of (book_in h t))) s
    same s e = e

    go : (s : Spot) → There (counts h) s → Counted h s
    go (Row k i) e = e
    go Leavers e = tt
    go Missing e = tt

-- by the answer j on the rules
module _ (bs : List ℕ) (v : ℕ) (h : Head) {j : Result (Unit {0}) (Letter × Spot)} (e : j ≡ unless (first_rule (rules (read bs)))) where
  pub rule-fine : {u : Unit {0}} → j ≡ Ok u → Ok tt ≡ unless (rule_fault v h (first_rule (rules (read bs))))
  unfolding rule_fault
  rule-fine a = rw (fine (first_rule (rules (read bs))) (sym a ∙ e))

  module _ {r : Letter × Spot} (a : j ≡ Err r) where
    -- a row that is told is one that the head counts
    pub spot-counted : Judgeable bs v h → Counted h r.1
    unfolding read
    spot-counted k =
        subst (λ (x : Head). Counted x r.1) (sym k.whole.head) (counted (head_in bs) (sections bs) r.1 (spot-there (read bs) (against (first_rule (rules (read bs))) (sym a ∙ e))))

    pub rule-first : {at : ℕ} → at ≡ place_of v h r.1 → Err (Rule r.0 r.1 at) ≡ unless (rule_fault v h (first_rule (rules (read bs))))
    unfolding rule_fault
    rule-first p = rw (against (first_rule (rules (read bs))) (sym a ∙ e)) (ap (λ (n : ℕ). Err (Rule r.0 r.1 n)) p)

-- ---- section

-- a book has all that stands before its sections
pub book-front : (bs : List ℕ) → is_book bs ≡ true → fore (version_in bs) ≤ length bs
book-front bs e = front-there bs (head_in bs) refl (book-bytes bs e).exact

pub section-within : (bs : List ℕ) (k a b : ℕ) → is_book bs ≡ true → a ≡ start (version_in bs) (head_in bs) k → b ≡ start (version_in bs) (head_in bs) (k + 1)
    → (a ≤ b) × (b ≤ length bs)
section-within bs k a b e ea eb =
    let v = version_in bs in
    let exact : Exact bs = (book-bytes bs e).exact in
    let next : b ≡ start v (head_in bs) (suc k) = eb ∙ ap (start v (head_in bs)) (add-one k) in
    (omega (arith, start-next v (head_in bs) k), omega (arith, start-le v (head_in bs) (suc k)))

-- the bytes are a book where nothing is wrong, and else f is wrong first
pub book-nothing : (bs : List ℕ) {w : Result (Unit {0}) Fault} {u : Unit {0}} → w ≡ unless (fault bs) → w ≡ Ok u → is_book bs ≡ true
book-nothing bs e a = (fault-none bs).0 (fine (fault bs) (sym a ∙ e))

fault-first : (bs : List ℕ) {w : Result (Unit {0}) Fault} {f : Fault} → w ≡ unless (fault bs) → w ≡ Err f → fault bs ≡ some f
fault-first bs e a = against (fault bs) (sym a ∙ e)

-- what is wrong first
pub part-broken : (bs : List ℕ) (k : ℕ) {w : Result (Unit {0}) Fault} {f : Fault} → w ≡ unless (fault bs) → w ≡ Err f → PartOf bs k (Err (Faulty f))
unfolding refusal_section first_some faulty_by
part-broken bs k e a = rw (fault-first bs e a)

pub part-none : (bs : List ℕ) (k : ℕ) → is_book bs ≡ true → 5 ≤ k → PartOf bs k (Err (Refused NoSuch))
unfolding refusal_section first_some faulty_by when
part-none bs k e l = rw ((fault-none bs).1 e, le-ltb k 5 l)

pub part-given : (bs : List ℕ) (k a b : ℕ) → is_book bs ≡ true → k < 5 → a ≡ start (version_in bs) (head_in bs) k
    → b ≡ start (version_in bs) (head_in bs) (k + 1) → (refusal_section bs k ≡ none) × (take (b - a) (drop a bs) ≡ section bs k)
unfolding refusal_section first_some faulty_by when
part-given bs k a b e l ea eb =
    (rw ((fault-none bs).1 e, lt-ltb k 5 l), section-cut bs k a b ea (eb ∙ ap (start (version_in bs) (head_in bs)) (add-one k)))

-- in the cells, by the answer r
module _ (bs : List ℕ) (k : ℕ) {r : Result (Bor (List ℕ)) Denial} (g : PartOf bs k r) where
  pub section-given : {p : Bor (List ℕ)} → r ≡ Ok p → part p.now 0 0 ≡ section_call bs k
  unfolding section_call part_by
  section-given a =
      let (none', is) = subst (PartOf bs k) a g in
      rw none' (ap (λ (s : List ℕ). part s 0 0) is)

  pub section-refused : {d : Denial} {n at : ℕ} → r ≡ Err d → n ≡ denial_number d → at ≡ denial_place d → part [] n at ≡ section_call bs k
  unfolding section_call part_by
  section-refused a en ep = rw (subst (PartOf bs k) a g) (ap₂ (part []) en ep)

-- ---- read

pub loadable : (bs : List ℕ) (v : ℕ) (h : Head) (t : Tables) → v ≡ version_in bs → h ≡ head_in bs → short t ≡ false → is_book bs ≡ true → Loadable bs v h t
loadable bs v h t ev eh s k =
    let b : BookBytes bs = book-bytes bs k in
    record {
      whole = record { version = ev; head = eh; exact = b.exact ∙ ap₂ (λ (x : ℕ) (y : Head). start x y 5) (sym ev) (sym eh) };
      room = subst (λ (x : Head). Room x t) (head_read bs ∙ sym eh) (sound-room (read bs) t b.sound' s);
    }

pub read_short : (bs : List ℕ) (t : Tables) → short t ≡ true → loading (Err (Refused ShortTable)) t ≡ read_call bs t
unfolding read_call load_by refusal_read first_some when
read_short bs t s = rw s

pub read-broken : (bs : List ℕ) (t : Tables) {w : Result (Unit {0}) Fault} {f : Fault} → short t ≡ false → w ≡ unless (fault bs) → w ≡ Err f → loading (Err (Faulty f)) t ≡ read_call bs t
unfolding read_call load_by refusal_read first_some when faulty_by
read-broken bs t s e a = rw (s, fault-first bs e a)

pub read-given : (bs : List ℕ) (h : Head) (t u : Tables) → short t ≡ false → is_book bs ≡ true → h ≡ head_in bs → u ≡ laid (read bs) t → loading (Ok h) u ≡ read_call bs t
unfolding read_call load_by refusal_read first_some when faulty_by
read-given bs h t u s e eh eu = rw (s, (fault-none bs).1 e) (ap₂ (λ (x : Head) (y : Tables). loading (Ok x) y) eh eu)

-- ---- write

-- the check passed
pub checked-sound : (h : Head) (t : Tables) {k : Result (Unit {0}) Refusal} {u : Unit {0}} → k ≡ Ok u → k ≡ checked h t → (short t ≡ false) × (sound (book_in h t) ≡ true)
unfolding checked common
checked-sound h t p q = let (s, k, n) = common-none t (book_in h t) [] (fine (verdict (common t (book_in h t))) (sym p ∙ q)) in (s, k)

-- the check answers 13 or 12
pub checked-no : (h : Head) (t : Tables) {r : Refusal} {k : Result (Unit {0}) Refusal} → k ≡ Err r → k ≡ checked h t → verdict (common t (book_in h t)) ≡ some r
unfolding checked
checked-no h t p q = against (verdict (common t (book_in h t))) (sym p ∙ q)

pub savable : (h : Head) (t : Tables) (buffer : List ℕ) → short t ≡ false → sound (book_in h t) ≡ true → start newest h 5 ≤ length buffer → Savable h t buffer
unfolding book_in
savable h t buffer s k l =
    let f : BookFits (book_in h t) = sound-fits (book_in h t) k in
    record {
      mode< = f.mode<;
      users< = f.users<;
      room = subst (λ (x : Head). Room x t) (head-in h t) (sound-room (book_in h t) t k s);
      long = l;
    }

length-saved : (h : Head) (t : Tables) → length (write (book_in h t)) ≡ start newest h 5
length-saved h t = length-write (book_in h t) ∙ ap (λ (x : Head). start newest x 5) (head-in h t)

-- 13 and 12
pub write-refused : (h : Head) (t : Tables) (buffer : List ℕ) (r : Refusal) → verdict (common t (book_in h t)) ≡ some r → writing (Err r) buffer ≡ write_call h t buffer
unfolding write_call write_by refusal_write
write-refused h t buffer r e = rw (verdict-first (common t (book_in h t)) ((ShortList, ltb (length buffer) (length (write (book_in h t)))) ∷ []) e)

pub write-short : (h : Head) (t : Tables) (buffer : List ℕ) → short t ≡ false → sound (book_in h t) ≡ true → length buffer < start newest h 5
    → writing (Err ShortList) buffer ≡ write_call h t buffer
unfolding write_call write_by refusal_write verdict
write-short h t buffer s k l =
    rw (common-passed t (book_in h t) ((ShortList, ltb (length buffer) (length (write (book_in h t)))) ∷ []) s k, length-saved h t, lt-ltb (length buffer) (start newest h 5) l)

pub write-given : (h : Head) (t : Tables) (buffer v : List ℕ) (n : ℕ) → short t ≡ false → sound (book_in h t) ≡ true → start newest h 5 ≤ length buffer
    → n ≡ start newest h 5 → v ≡ stored 0 (write (book_in h t)) buffer → writing (Ok n) v ≡ write_call h t buffer
unfolding write_call write_by refusal_write verdict
write-given h t buffer v n s k l en ev =
    rw (common-passed t (book_in h t) ((ShortList, ltb (length buffer) (length (write (book_in h t)))) ∷ []) s k, le-ltb (length buffer) (length (write (book_in h t))) (omega (arith, length-saved h t)))
    (ap₂ (λ (x : ℕ) (y : List ℕ). writing (Ok x) y) (en ∙ sym (length-saved h t)) ev)
