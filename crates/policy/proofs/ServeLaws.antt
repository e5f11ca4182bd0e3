-- Several requests in one call, served one after the other: what is served, with what the rest will give, is at each turn what the whole call gives.
-- Assumes nothing.
use Rattle.std.specs.Prelude.{Result, Ok, Err}
use Prim.Native.Nat.{ℕ, ◌+◌, ◌*◌, ◌/◌, ◌-◌, ◌≤◌, ◌<◌}
use mathlib.Core.Path.{◌≡◌, refl, sym, ap, ap₂, ◌∙◌, subst}
use mathlib.Core.Bool.{Bool, true, false, ◌&&◌, not, cond, true≢false}
use mathlib.Core.List.{List, ◌∷◌, ◌++◌, append_assoc}
use mathlib.Core.Option.{some, none}
use native.Mathlib.Nat.{add_assoc, add-zero, zero-add}
use native.Mathlib.Numerals.{add-one}
use native.Mathlib.Omega.{arith}
use lib.Dec.{ltb, lit≤}
use lib.ListN.{length, take, drop, get_or, length-append, take-append-drop, drop_of_length-le}
use lib.Seq.{length-take-le, take_at, drop_at, drop-cons, drop-drop}
use borrow.Author.Tests.{ltb-true, lt-ltb, le-ltb}
use borrow.Rule.Slice.PartMut.{put_mid}
use Rattle.rows.specs.Number.{stored}
use Rattle.rows.proofs.Laws.{stored-none, stored-both}
use Rattle.rows.proofs.Part.{take_behind, drop-behind, part-lent, part-back}
use Rattle.rules.specs.Bytes.{Tables, book_in}
use Rattle.rules.specs.Refusals.{Request, joins, inserts, grants, revokes, leaves, work, own, limits, verdict, no_such}
use Rattle.rules.specs.Calls.{rows_lent, change, change_by, Asked, changes, opens, nothing, asked, asked_in, One, one, change_one, open_one, All, all, Service, serving, serve_by, refusal_serve, serve_call, refused_one}
use Rattle.rules.specs.Runs.{keep, book_of}
use Rattle.rules.specs.declared.Head.{Head}
use Rattle.rules.specs.declared.Refusal.{Refusal}
use Rattle.rules.specs.declared.Refusal.TheVariants.{NoSuch, ShortList}
use Rattle.rules.specs.declared.Applied.{Applied}
use Rattle.theorems.proofs.ListLaws.{length-tabulate, get_or-tabulate}
use Rattle.theorems.proofs.RequestLaws.{Rows, such}
use Rattle.theorems.proofs.SoundLaws.{Counts, sound-counts}
use Rattle.theorems.proofs.ServeLaws.{own_orders, one-gives, ready-one, ready-refusal, ready-open}
use Rattle.theorems.proofs.ServeLaws as laws
use Rattle.plan.specs.Judge.{Ready}
use Rattle.sound.specs.Check.{checked}
use Rattle.policy.specs.Serve.{within16, narrow, answer_row, after}
use Rattle.policy.proofs.CheckLaws.{unsound, rest-decides}

-- ---- a number past 16 bits is no user's and no resource's

verdict-here : (n : Refusal) {z : Bool} (xs : Rows) → z ≡ true → verdict ((n, z) ∷ xs) ≡ some n
unfolding verdict
verdict-here n xs e = rw e

not_within : (a b : ℕ) → (ltb a 65536 && ltb b 65536) ≡ false → a < 65536 → b < 65536 → ⊥
not_within a b e x y = true≢false (sym (ap₂ (λ (p q : Bool). p && q) (lt-ltb a 65536 x) (lt-ltb b 65536 y)) ∙ e)

ready-kept : {h : Head} {t : Tables} → laws.Ready (keep h t) → Ready h t
unfolding book_of
ready-kept g = record { long = g.long; sound' = g.sound' }

module _ (h : Head) (t : Tables) (g : Ready h t) where
  kept-ready : laws.Ready (keep h t)
  unfolding book_of
  kept-ready = record { long = g.long; sound' = g.sound' }

  past : (u r : ℕ) → (u < 65536 → r < 65536 → ⊥) → no_such (book_in h t) u r ≡ true
  past u r w = go (no_such (book_in h t) u r) refl
    where
      go : (z : Bool) → no_such (book_in h t) u r ≡ z → z ≡ true
      go true e = refl
      go false e =
          let (x, y) = such (book_in h t) u r e in
          let c : Counts (book_in h t) = sound-counts (book_in h t) g.sound' in
          absurd (w (omega arith) (omega arith))

  module _ (list : List ℕ) where
    change-past : (q : Request) → verdict (own q (book_in h t) ++ limits (rows_lent list) (work q (book_in h t))) ≡ some NoSuch
        → one nothing h t list ≡ one (changes q) h t list
    unfolding one change change_by change_one book_of
    change-past q e = rw (ready-refusal (keep h t) (rows_lent list) q kept-ready ∙ e)

    grant-past : (r u : ℕ) → (u < 65536 → r < 65536 → ⊥) → one nothing h t list ≡ one (changes (grants r u)) h t list
    unfolding own
    grant-past r u w = change-past (grants r u) (verdict-here NoSuch _ (past u r w))

    revoke-past : (r u : ℕ) → (u < 65536 → r < 65536 → ⊥) → one nothing h t list ≡ one (changes (revokes r u)) h t list
    unfolding own
    revoke-past r u w = change-past (revokes r u) (verdict-here NoSuch _ (past u r w))

    leave-past : (u : ℕ) → (u < 65536 → ⊥) → one nothing h t list ≡ one (changes (leaves u)) h t list
    unfolding own
    leave-past u w = change-past (leaves u) (verdict-here NoSuch _ (go (ltb u (book_in h t).users) refl))
      where
        go : (z : Bool) → ltb u (book_in h t).users ≡ z → not z ≡ true
        go true e = absurd (w (omega (arith, ltb-true u (book_in h t).users e, (sound-counts (book_in h t) g.sound').users≤)))
        go false e = refl

    open-past : (u r : ℕ) → (u < 65536 → r < 65536 → ⊥) → one nothing h t list ≡ one (opens u r) h t list
    unfolding one open_one book_of
    open-past u r w = rw (ready-open (keep h t) (rows_lent list) u r kept-ready ∙ verdict-here NoSuch _ (past u r w))

    within-one : (a b : ℕ) (q : Asked) → ((a < 65536 → b < 65536 → ⊥) → one nothing h t list ≡ one q h t list) → one (within16 a b q) h t list ≡ one q h t list
    unfolding within16
    within-one a b q w = go (ltb a 65536 && ltb b 65536) refl
      where
        go : (z : Bool) → (ltb a 65536 && ltb b 65536) ≡ z → one (cond z q nothing) h t list ≡ one q h t list
        go true e = refl
        go false e = w (not_within a b e)

    pub narrow_one : (q : Asked) → one (narrow q) h t list ≡ one q h t list
    unfolding narrow
    narrow_one (changes joins) = refl
    narrow_one (changes (inserts l)) = refl
    narrow_one (changes (grants r u)) = within-one r u (changes (grants r u)) (λ w. grant-past r u (λ x y. w y x))
    narrow_one (changes (revokes r u)) = within-one r u (changes (revokes r u)) (λ w. revoke-past r u (λ x y. w y x))
    narrow_one (changes (leaves u)) = within-one u 0 (changes (leaves u)) (λ w. leave-past u (λ x. w x (lit≤ tt)))
    narrow_one (opens u r) = within-one u r (opens u r) (open-past u r)
    narrow_one nothing = refl

-- ---- the rows of requests

-- the i-th row asks
abbrev pub asked_at : List ℕ → ℕ → Asked
asked_at rows i = asked (get_or rows (i * 3) 0) (get_or rows (i * 3 + 1) 0) (get_or rows (i * 3 + 2) 0)

length-asked : (rows : List ℕ) → length (asked_in rows) ≡ length rows / 3
unfolding asked_in rows_lent
length-asked rows = length-tabulate (length rows / 3) (asked_at rows)

asked-next : (rows : List ℕ) (i : ℕ) → i < length rows / 3 → drop i (asked_in rows) ≡ asked_at rows i ∷ drop (i + 1) (asked_in rows)
unfolding asked_in rows_lent
asked-next rows i l =
    drop-cons (asked_in rows) i nothing (omega (arith, length-asked rows))
    ∙ ap₂ (λ (q : Asked) (n : ℕ). q ∷ drop n (asked_in rows)) (get_or-tabulate (length rows / 3) (asked_at rows) i nothing l) (sym (add-one i))

-- ---- one more of them

-- i requests are served, by `used` order rows, and a is what the others give
unfoldable pub with_rest : ℕ → ℕ → List ℕ → List ℕ → All → Service
with_rest i used answers list a =
    serving (Ok record { head = a.head; used = used + a.used }) a.tables (take (i * 3) answers ++ stored 0 a.answers (drop (i * 3) answers)) (take (used * 3) list ++ a.orders)

-- and those others are qs
abbrev pub served : List Asked → ℕ → ℕ → Head → Tables → List ℕ → List ℕ → Service
served qs i used h t answers list = with_rest i used answers list (all qs h t (drop (used * 3) list))

same-service : {h : Head} {t : Tables} {m n : ℕ} {xs ys os ps : List ℕ} → m ≡ n → xs ≡ ys → os ≡ ps → serving (Ok record { head = h; used = m }) t xs os ≡ serving (Ok record { head = h; used = n }) t ys ps
same-service e f g = rw (e, f, g)

-- an answer row behind the first k numbers
module _ (k : ℕ) (row rest answers : List ℕ) (wide : length row ≡ 3) (l : k + 3 ≤ length answers) where
  abbrev behind : List ℕ
  behind = drop (k + length row) answers

  row-taken : take (k + 3) (stored k row answers) ≡ take k answers ++ row
  unfolding stored
  row-taken = take_behind k 3 answers (row ++ behind) (omega arith) ∙ ap (λ (x : List ℕ). take k answers ++ x) (take_at row behind 3 wide)

  row-left : drop (k + 3) (stored k row answers) ≡ behind
  unfolding stored
  row-left = drop-behind k 3 answers (row ++ behind) (omega arith) ∙ drop_at row behind 3 wide

  answer-more : take k answers ++ stored 0 (row ++ rest) (drop k answers)
      ≡ take (k + 3) (stored k row answers) ++ stored 0 rest (drop (k + 3) (stored k row answers))
  answer-more =
      ap (λ (x : List ℕ). take k answers ++ x) (sym (stored-both row rest (drop k answers)) ∙ ap (λ (x : List ℕ). row ++ stored 0 rest x) (drop-drop (length row) k answers))
      ∙ sym (append_assoc (take k answers) row (stored 0 rest behind))
      ∙ sym (ap₂ (λ (x y : List ℕ). x ++ stored 0 rest y) row-taken row-left)

module _ (q : Asked) (qs : List Asked) (i used : ℕ) (h : Head) (t : Tables) (answers list : List ℕ) (row : i * 3 + 3 ≤ length answers) (room : used * 3 ≤ length list) where
  -- o is what the first of them leaves
  abbrev Next : One → Type 0
  Next o = served (q ∷ qs) i used h t answers list
      ≡ served qs (i + 1) (used + o.count) o.head o.tables (stored (i * 3) o.row answers) (take (used * 3) list ++ o.orders)

  first-served : length (one q h t (drop (used * 3) list)).row ≡ 3 → Next (one q h t (drop (used * 3) list))
  unfolding with_rest all
  first-served w =
      let o : One = one q h t (drop (used * 3) list) in
      let r : All = all qs o.head o.tables (drop (o.count * 3) o.orders) in
      let rows : List ℕ = stored (i * 3) o.row answers in
      let all-orders : List ℕ = take (used * 3) list ++ o.orders in
      let m : i * 3 + 3 ≡ (i + 1) * 3 = omega arith in
      let n : (used + o.count) * 3 ≡ used * 3 + o.count * 3 = omega arith in
      let first : take ((used + o.count) * 3) all-orders ≡ take (used * 3) list ++ take (o.count * 3) o.orders =
      ap (λ (k : ℕ). take k all-orders) n ∙ take_behind (used * 3) (o.count * 3) list o.orders room in
      let left : drop ((used + o.count) * 3) all-orders ≡ drop (o.count * 3) o.orders =
      ap (λ (k : ℕ). drop k all-orders) n ∙ drop-behind (used * 3) (o.count * 3) list o.orders room in
      same-service (sym (add_assoc used o.count r.used))
      (answer-more (i * 3) o.row r.answers answers w row ∙ ap (λ (k : ℕ). take k rows ++ stored 0 r.answers (drop k rows)) m)
      (sym (append_assoc (take (used * 3) list) (take (o.count * 3) o.orders) r.orders) ∙ ap (λ (x : List ℕ). x ++ r.orders) (sym first))
      ∙ ap (λ (l : List ℕ). with_rest (i + 1) (used + o.count) rows all-orders (all qs o.head o.tables l)) (sym left)

  served-next : {o : One} → o ≡ one q h t (drop (used * 3) list) → length o.row ≡ 3 → Next o
  served-next e = subst (λ (o : One). length o.row ≡ 3 → Next o) (sym e) first-served

-- ---- at each turn

-- the rows that an accepted one gives are within what it was lent
one-room : (q : Asked) (h : Head) (t : Tables) (list : List ℕ) → (one q h t list).count * 3 ≤ length (one q h t list).orders
unfolding stored
one-room q h t list =
    let g = one-gives q h t list in
    let rows : List ℕ = own_orders q (keep h t) list in
    omega (arith, g.count, ap length g.orders, length-append rows (drop (0 + length rows) list))

-- i requests of a call on h, t, answers₀ and list₀ are served: they left this
pub record Serving (requests : List ℕ) (h : Head) (t : Tables) (answers₀ list₀ : List ℕ) (i used : ℕ) (head : Head) (left : Tables) (answers list : List ℕ) : Type 0 where
  pub room : used * 3 ≤ length list
  pub ready : Ready head left
  pub whole : served (drop i (asked_in requests)) i used head left answers list ≡ serve_by none (all (asked_in requests) h t list₀) t answers₀ list₀

-- what a request answers, by its answer row and what is after it
one-told : (h : Head) (a : Result Applied Refusal) (t : Tables) (list : List ℕ)
    → change_one a h t list ≡ record { row = answer_row a; count = (after h a).count; head = (after h a).head; tables = t; orders = list }
unfolding change_one refused_one
one-told h (Ok a) t list = refl
one-told h (Err r) t list = refl

answer-width : (a : Result Applied Refusal) → length (answer_row a) ≡ 3
answer-width (Ok a) = refl
answer-width (Err r) = refl

module _ (requests : List ℕ) (h : Head) (t : Tables) (answers₀ list₀ : List ℕ) where
  pub serving-first : Ready h t → Serving requests h t answers₀ list₀ 0 0 h t answers₀ list₀
  unfolding with_rest serve_by
  serving-first g =
      record {
        room = omega arith;
        ready = g;
        whole = same-service (zero-add (all (asked_in requests) h t list₀).used) refl refl;
      }

  module _ {i used : ℕ} {head : Head} {left : Tables} {answers list : List ℕ} (s : Serving requests h t answers₀ list₀ i used head left answers list) where
    pub serving-last : length requests / 3 ≤ i → serving (Ok record { head = head; used = used }) left answers list ≡ serve_by none (all (asked_in requests) h t list₀) t answers₀ list₀
    unfolding with_rest all
    serving-last l =
        same-service (sym (add-zero used)) (sym (ap (λ (x : List ℕ). take (i * 3) answers ++ x) (stored-none 0 (drop (i * 3) answers)) ∙ take-append-drop (i * 3) answers))
        (sym (take-append-drop (used * 3) list))
        ∙ ap (λ (qs : List Asked). served qs i used head left answers list) (sym (drop_of_length-le (asked_in requests) {i = i} (omega (arith, length-asked requests))))
        ∙ s.whole

    -- a is what the next one answers, on the order rows left, and f the head and the count after it
    pub serving-next : i * 3 + 3 ≤ length answers → i < length requests / 3 → {q : Asked} → q ≡ narrow (asked_at requests i)
        → (a : Result Applied Refusal) {left' : Tables} (os : List ℕ) → change_one a head left' os ≡ one q head left (take (length list - used * 3) (drop (used * 3) list))
        → {f : Applied} → f ≡ after head a → {rows : List ℕ} → rows ≡ stored (i * 3) (answer_row a) answers
        → Serving requests h t answers₀ list₀ (i + 1) (used + f.count) f.head left' rows (put_mid (used * 3) (length list - used * 3) list os)
    serving-next row l {q} asks a {left'} os told {f} is-after {rows} put =
        let q' : Asked = asked_at requests i in
        let rest : List ℕ = drop (used * 3) list in
        let lent : take (length list - used * 3) rest ≡ rest = part-lent (used * 3) list in
        let back : put_mid (used * 3) (length list - used * 3) list os ≡ take (used * 3) list ++ os = part-back (used * 3) list os in
        let o : One = record { row = answer_row a; count = f.count; head = f.head; tables = left'; orders = os } in
        let is : o ≡ one q' head left rest =
        rw is-after (sym (one-told head a left' os)) ∙ told ∙ ap₂ (λ (x : Asked) (y : List ℕ). one x head left y) asks lent ∙ narrow_one head left s.ready rest q' in
        let much : f.count * 3 ≤ length os = subst (λ (x : One). x.count * 3 ≤ length x.orders) (sym is) (one-room q' head left rest) in
        let sums : length (put_mid (used * 3) (length list - used * 3) list os) ≡ used * 3 + length os =
        ap length back ∙ length-append (take (used * 3) list) os ∙ ap (λ (n : ℕ). n + length os) (length-take-le (used * 3) list s.room) in
        record {
          room = omega (arith, sums);
          ready = ready-kept (subst (λ (x : One). laws.Ready (keep x.head x.tables)) (sym is) (ready-one q' head left rest (kept-ready head left s.ready)));
          whole = ap₂ (λ (x y : List ℕ). served (drop (i + 1) (asked_in requests)) (i + 1) (used + f.count) f.head left' x y) put back
              ∙ sym (served-next q' (drop (i + 1) (asked_in requests)) i used head left answers list row s.room is (answer-width a))
              ∙ ap (λ (qs : List Asked). served qs i used head left answers list) (sym (asked-next requests i l))
              ∙ s.whole;
        }

-- ---- the call

module _ (requests : List ℕ) (h : Head) (t : Tables) (answers list : List ℕ) where
  -- 13 or 12
  pub serve-unsound : {k : Result Unit Refusal} {n : Refusal} → k ≡ checked h t → k ≡ Err n → serving (Err n) t answers list ≡ serve_call requests h t answers list
  unfolding serve_call serve_by refusal_serve
  serve-unsound is e = rw (unsound h t is e _)

  module _ (g : Ready h t) where
    -- 10
    pub serve-short : length answers / 3 < length requests / 3 → serving (Err ShortList) t answers list ≡ serve_call requests h t answers list
    unfolding serve_call serve_by refusal_serve rows_lent verdict
    serve-short l = rw (rest-decides h t g _, lt-ltb (length answers / 3) (length requests / 3) l)

    -- none
    pub serve-served : length requests / 3 ≤ length answers / 3 → {c : Service} → c ≡ serve_by none (all (asked_in requests) h t list) t answers list
        → c ≡ serve_call requests h t answers list
    unfolding serve_call refusal_serve rows_lent verdict
    serve-served l {c} e = e ∙ rw (rest-decides h t g _, le-ltb (length answers / 3) (length requests / 3) l)
