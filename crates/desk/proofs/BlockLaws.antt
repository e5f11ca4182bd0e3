-- RULES 10.7 "10 is never given": requests whose most order rows lie within the list are served without that refusal, and their
-- answers count no more rows than the list has.
-- Assumes nothing.
use Prim.Native.Nat.{ℕ, zero, suc, ◌+◌, ◌*◌, ◌/◌, ◌≤◌, ◌<◌}
use mathlib.Core.Path.{◌≡◌, refl, sym, ap, ap₂, ◌∙◌}
use mathlib.Core.Bool.{Bool, true, false, ◌&&◌, ◌||◌, not, cond}
use mathlib.Core.Logic.{◌⊎◌, inl, inr}
use mathlib.Core.List.{List, [], ◌∷◌, ◌++◌}
use mathlib.Core.Option.{Option, some, none, some-ne-none}
use native.Mathlib.Omega.{arith}
use lib.Dec.{eqb, ltb}
use lib.ListN.{length, take, drop, get_or, length-drop}
use borrow.Author.Tests.{le-ltb, le-leb, eqb-true, eqb-false, not-true, not-false, ltb-true, ne_eqb}
use Rattle.sets.proofs.Laws.{both, either}
use Rattle.rows.specs.Number.{stored}
use Rattle.rows.proofs.Laws.{length-stored, stored-first}
use Rattle.rules.specs.Lists.{every, tabulate, tabulate_from}
use Rattle.rules.specs.Book.{Book}
use Rattle.rules.specs.Sound.{sound}
use Rattle.rules.specs.Holders.{view}
use Rattle.rules.specs.Requests as requests
use Rattle.rules.specs.Bytes.{Tables, book_in}
use Rattle.rules.specs.Refusals.{Request, joins, inserts, grants, revokes, leaves, verdict, no_such, work, own, limits, refusal, refusal_open, opened, number, view_number, view_told}
use Rattle.rules.specs.Runs.{keep, book_of}
use Rattle.rules.specs.Calls.{order_rows, chain_rows, rows_lent, Change, change, change_by, Asked, changes, opens, nothing, asked, asked_in, One, one, change_one, open_one, refused_one, All, all, Service, serving, serve_by, refusal_serve, serve_call}
use Rattle.rules.specs.declared.Head.{Head}
use Rattle.rules.specs.declared.Served.{Served}
use Rattle.std.specs.Prelude.{Result, Ok}
use Rattle.rules.specs.declared.View.{View}
use Rattle.rules.specs.declared.View.TheVariants as views
use Rattle.rules.specs.declared.Refusal.{Refusal}
use Rattle.rules.specs.declared.Refusal.TheVariants.{NoSuch, Closed, ShortList}
use Rattle.theorems.proofs.RequestLaws.{Rows, verdict-none, verdict-passed, verdict-first, common-passed, accepted, work-sound}
use Rattle.theorems.proofs.ListLaws.{length-tabulate, every_append}
use Rattle.theorems.proofs.ViewLaws.{view-open}
use Rattle.theorems.proofs.OpensLaws.{opens-list}
use Rattle.theorems.proofs.OrderLaws.{most_rows, allowed-rows, rows-enough, open-rows}
use Rattle.theorems.proofs.CallLaws.{all-leads}
use Rattle.theorems.proofs.ServeLaws.{Ready, ready-one, ready-refusal, ready-open, own_orders, each, one-gives, all-serves, length-orders, length-chains}
use Rattle.theorems.proofs.ByteLaws.{sound-book-laid}
use Rattle.plan.specs.Judge as plan
use Rattle.lines.specs.Answer.{answer_text}
use Rattle.lines.specs.Program.{Told, refused, change_told, open_told, answer_to}
use Rattle.desk.specs.Block.{most_of, most_in, Enough, Answered}
use Rattle.desk.specs.Output.{counts, never_ten, never_more, most_orders}

-- ---- the most rows of what is asked

abbrev pub most_asked : Asked → ℕ
most_asked (changes q) = most_rows q
most_asked (opens u r) = 126
most_asked nothing = 0

unfoldable pub most_all : List Asked → ℕ
most_all [] = 0
most_all (q ∷ qs) = most_asked q + most_all qs

most-asked : (k a b : ℕ) → most_asked (asked k a b) ≤ most_of k
unfolding asked most_of
most-asked zero a b = omega arith
most-asked (suc zero) a b = go (eqb b 0)
  where
    go : (z : Bool) → most_asked (cond z (changes (inserts a)) nothing) ≤ 132
    go true = omega arith
    go false = omega arith
most-asked (suc (suc zero)) a b = omega arith
most-asked (suc (suc (suc zero))) a b = omega arith
most-asked (suc (suc (suc (suc zero)))) a b = omega arith
most-asked (suc (suc (suc (suc (suc zero))))) a b = omega arith
most-asked (suc (suc (suc (suc (suc (suc k)))))) a b = omega arith

most-few : (q : Asked) → most_asked q ≤ most_orders
most-few (changes joins) = omega arith
most-few (changes (inserts l)) = omega arith
most-few (changes (grants r u)) = omega arith
most-few (changes (revokes r u)) = omega arith
most-few (changes (leaves u)) = omega arith
most-few (opens u r) = omega arith
most-few nothing = omega arith

-- ---- request rows, the first and the others

abbrev asked_at : List ℕ → ℕ → Asked
asked_at rows i = asked (get_or rows (i * 3) 0) (get_or rows (i * 3 + 1) 0) (get_or rows (i * 3 + 2) 0)

module _ {A : Type 0} where
  tabulate-later : (i n : ℕ) (f g : ℕ → A) → ((j : ℕ) → f (suc j) ≡ g j) → tabulate_from (suc i) n f ≡ tabulate_from i n g
  unfolding tabulate_from
  tabulate-later i zero f g e = refl
  tabulate-later i (suc n) f g e = rw (e i, tabulate-later (suc i) n f g e)

pub asked-cons : (k a b : ℕ) (rows : List ℕ) → asked_in (k ∷ a ∷ b ∷ rows) ≡ asked k a b ∷ asked_in rows
unfolding asked_in rows_lent tabulate tabulate_from
asked-cons k a b rows = ap (λ (n : ℕ). tabulate_from 0 n (asked_at xs)) more ∙ ap (λ (qs : List Asked). asked k a b ∷ qs) (tabulate-later 0 (length rows / 3) (asked_at xs) (asked_at rows) later)
  where
    xs : List ℕ
    xs = k ∷ a ∷ b ∷ rows

    more : length xs / 3 ≡ suc (length rows / 3)
    more = omega arith

    at : ℕ → ℕ → ℕ → Asked
    at x y z = asked (get_or xs x 0) (get_or xs y 0) (get_or xs z 0)

    later : (j : ℕ) → asked_at xs (suc j) ≡ asked_at rows j
    later j =
        let one' : suc j * 3 ≡ suc (suc (suc (j * 3))) = omega arith in
        let two : suc j * 3 + 1 ≡ suc (suc (suc (j * 3 + 1))) = omega arith in
        let three : suc j * 3 + 2 ≡ suc (suc (suc (j * 3 + 2))) = omega arith in
        ap (λ (x : ℕ). at x (suc j * 3 + 1) (suc j * 3 + 2)) one'
        ∙ (ap (λ (y : ℕ). at (suc (suc (suc (j * 3)))) y (suc j * 3 + 2)) two
        ∙ ap (λ (z : ℕ). at (suc (suc (suc (j * 3)))) (suc (suc (suc (j * 3 + 1)))) z) three)

none-asked : (rows : List ℕ) → length rows < 3 → most_all (asked_in rows) ≡ 0
unfolding most_all asked_in rows_lent tabulate tabulate_from
none-asked rows h = let e : length rows / 3 ≡ 0 = omega arith in rw e

pub most-rows : (rows : List ℕ) → most_all (asked_in rows) ≤ most_in rows
unfolding most_all most_in
most-rows [] = omega (arith, none-asked [] (omega arith))
most-rows (k ∷ []) = omega (arith, none-asked (k ∷ []) (omega arith))
most-rows (k ∷ a ∷ []) = omega (arith, none-asked (k ∷ a ∷ []) (omega arith))
most-rows (k ∷ a ∷ b ∷ rows) = rw (asked-cons k a b rows) (omega (arith, most-asked k a b, most-rows rows))

-- ---- 10 is not among the refusals whose tests hold

unfoldable past : Refusal × Bool → Bool
past x = not (eqb (number x.0) 10) || not x.1

not-ten : (xs : Rows) → every past xs ≡ true → {r : Refusal} → verdict xs ≡ some r → number r ≡ 10 → ⊥
unfolding verdict every past
not-ten [] p {r} e n = some-ne-none r (sym e)
not-ten ((k, true) ∷ xs) p {r} e n = go (either (not (eqb (number k) 10)) false (both (not (eqb (number k) 10) || false) (every past xs) p).0)
  where
    go : (not (eqb (number k) 10) ≡ true) ⊎ (false ≡ true) → ⊥
    go (inl q) = let same : k ≡ r = cc in eqb-false (number k) 10 (not-true (eqb (number k) 10) q) (ap number same ∙ n)
    go (inr q) = let z : ◌≡◌ {A = ℕ} 0 1 = cc in omega arith
not-ten ((k, false) ∷ xs) p e n = not-ten xs (both (not (eqb (number k) 10) || true) (every past xs) p).1 e n

own-past : (q : Request) (b : Book) → every past (own q b) ≡ true
unfolding every past own
own-past joins b = refl
own-past (inserts l) b = refl
own-past (grants r u) b = refl
own-past (revokes r u) b = refl
own-past (leaves u) b = refl

-- with as many rows lent as there are orders
limits-past : (d : requests.Done) → every past (limits (length d.orders) d) ≡ true
unfolding every past limits
limits-past d = rw (le-ltb (length d.orders) (length d.orders) (omega arith))

-- ---- one request

-- its answer row: no more order rows than the most, and no 10; its text and the book that it leaves are those of the program's definition
pub record Roomy (most : ℕ) (a : Told) (o : One) : Type 0 where
  pub number' : ℕ
  pub view' : ℕ
  pub row : o.row ≡ number' ∷ view' ∷ o.count ∷ []
  pub few : o.count ≤ most
  pub never : number' ≡ 10 → ⊥
  pub text : answer_text number' view' (take (o.count * 3) o.orders) ≡ a.text
  pub book : book_in o.head o.tables ≡ a.book

refused-roomy : (most : ℕ) (r : Refusal) (h : Head) (t : Tables) (list : List ℕ) {a : Told} → (number r ≡ 10 → ⊥) → a ≡ refused r (book_in h t) → Roomy most a (refused_one r h t list)
unfolding refused_one refused
refused-roomy most r h t list n e =
    record {
      number' = number r;
      view' = view_told r;
      row = refl;
      few = omega arith;
      never = n;
      text = sym (ap (λ (x : Told). x.text) e);
      book = sym (ap (λ (x : Told). x.book) e);
    }

refused-nothing : (h : Head) (t : Tables) (list : List ℕ) → Roomy 0 (answer_to nothing (book_in h t)) (one nothing h t list)
unfolding one answer_to
refused-nothing h t list = refused-roomy 0 NoSuch h t list (λ n. omega arith) refl

-- the rows stored are those that the answer counts
rows-counted : (n : ℕ) (rows list : List ℕ) → length rows ≡ n → take n (stored 0 rows list) ≡ rows
rows-counted n rows list e = ap (λ (m : ℕ). take m (stored 0 rows list)) (sym e) ∙ stored-first rows list

module _ (h : Head) (t : Tables) (list : List ℕ) (k : Ready (keep h t)) where
  abbrev b : Book
  b = book_in h t

  abbrev room : ℕ
  room = rows_lent list

  sound-book : sound b ≡ true
  unfolding book_of
  sound-book = k.sound'

  refusal-own : (q : Request) → refusal t b room q ≡ verdict (own q b ++ limits room (work q b))
  unfolding book_of
  refusal-own q = ready-refusal (keep h t) room q k

  -- enough order rows are as good as those that the request gives
  change-enough : (q : Request) → most_rows q ≤ room → refusal t b room q ≡ verdict (own q b ++ limits (length (work q b).orders) (work q b))
  change-enough q m = refusal-own q ∙ go (verdict (own q b)) refl
    where
      d : requests.Done
      d = work q b

      n : ℕ
      n = length d.orders

      go : (z : Option Refusal) → verdict (own q b) ≡ z → verdict (own q b ++ limits room d) ≡ verdict (own q b ++ limits n d)
      go (some r) f = verdict-first (own q b) (limits room d) f ∙ sym (verdict-first (own q b) (limits n d) f)
      go none f = verdict-passed (own q b) (limits room d) f ∙ (rows-enough q b sound-book f room m ∙ sym (verdict-passed (own q b) (limits n d) f))

  change-never : (q : Request) → most_rows q ≤ room → {r : Refusal} → refusal t b room q ≡ some r → number r ≡ 10 → ⊥
  change-never q m e =
      let rows : Rows = limits (length (work q b).orders) (work q b) in
      not-ten (own q b ++ rows) (every_append past (own q b) rows (own-past q b) (limits-past (work q b))) (sym (change-enough q m) ∙ e)

  change-roomy : (q : Request) → most_rows q ≤ room → Roomy (most_rows q) (answer_to (changes q) b) (one (changes q) h t list)
  unfolding one change change_by change_one answer_to change_told
  change-roomy q m = go (refusal t b room q) refl (change-enough q m)
    where
      d : requests.Done
      d = work q b

      c : Option Refusal → Change
      c z = change_by z d t list

      v : Option Refusal
      v = verdict (own q b ++ limits (length d.orders) d)

      go : (z : Option Refusal) → refusal t b room q ≡ z → refusal t b room q ≡ v → Roomy (most_rows q) (change_told v d b) (change_one (c z).answer h (c z).tables (c z).orders)
      go (some r) e f = refused-roomy (most_rows q) r h t list (change-never q m e) (ap (λ (z : Option Refusal). change_told z d b) (sym f ∙ e))
      go none e f =
          let k' = accepted t b room q e in
          let is : change_told v d b ≡ change_told none d b = ap (λ (z : Option Refusal). change_told z d b) (sym f ∙ e) in
          record {
            number' = 0;
            view' = 0;
            row = refl;
            few = allowed-rows q b sound-book k'.allowed k'.fits.outer_tokens≤;
            never = λ n. omega arith;
            text = ap (λ (x : List ℕ). answer_text 0 0 x) (rows-counted (length d.orders * 3) (order_rows d.orders) list (length-orders d.orders)) ∙ sym (ap (λ (x : Told). x.text) is);
            book = sound-book-laid d.book t (work-sound t b room q e) ∙ sym (ap (λ (x : Told). x.book) is);
          }

  open-table : (u r : ℕ) → Rows
  open-table u r =
      (NoSuch, no_such b u r)
      ∷ (Closed (view b u r), not (eqb (view_number (view b u r)) 0))
      ∷ (ShortList, ltb room (length (opened b u r)))
      ∷ []

  refusal-shown : (u r : ℕ) → refusal_open t b room u r ≡ verdict (open-table u r)
  unfolding book_of open-table
  refusal-shown u r = ready-open (keep h t) room u r k

  -- an open that is not refused with 1 or 11 shows no more rows than any
  shown-few : (u r : ℕ) → no_such b u r ≡ false → not (eqb (view_number (view b u r)) 0) ≡ false → length (opened b u r) ≤ 126
  unfolding no_such
  shown-few u r p q =
      let there : r < length b.resources = ltb-true r (length b.resources) (both (ltb u b.users) (ltb r (length b.resources)) (not-false (ltb u b.users && ltb r (length b.resources)) p)).1 in
      let seen : view b u r ≡ views.Open = view-zero (view b u r) (eqb-true (view_number (view b u r)) 0 (not-false (eqb (view_number (view b u r)) 0) q)) in
      open-rows b sound-book u r there ((opens-list b sound-book r there u).0 ((view-open b sound-book u r).0 seen))
    where
      view-zero : (v : View) → view_number v ≡ 0 → v ≡ views.Open
      view-zero views.Open e = refl
      view-zero views.SelLocked e = absurd (omega arith)
      view-zero views.BelLocked e = absurd (omega arith)
      view-zero views.Locked e = absurd (omega arith)

  open-few : (u r : ℕ) → verdict (open-table u r) ≡ none → length (opened b u r) ≤ 126
  unfolding open-table
  open-few u r e =
      let (p, f) = verdict-none NoSuch (no_such b u r) ((Closed (view b u r), not (eqb (view_number (view b u r)) 0)) ∷ (ShortList, ltb room (length (opened b u r))) ∷ []) e in
      let (q, g) = verdict-none (Closed (view b u r)) (not (eqb (view_number (view b u r)) 0)) ((ShortList, ltb room (length (opened b u r))) ∷ []) f in
      shown-few u r p q

  open-never : (u r : ℕ) → 126 ≤ room → {n : Refusal} → refusal_open t b room u r ≡ some n → number n ≡ 10 → ⊥
  unfolding open-table verdict
  open-never u r m {n} e = go (no_such b u r) (not (eqb (view_number (view b u r)) 0)) refl refl (sym (refusal-shown u r) ∙ e)
    where
      go : (x y : Bool) → no_such b u r ≡ x → not (eqb (view_number (view b u r)) 0) ≡ y
          → verdict ((NoSuch, x) ∷ (Closed (view b u r), y) ∷ (ShortList, ltb room (length (opened b u r))) ∷ []) ≡ some n → number n ≡ 10 → ⊥
      go true y p q f g = let same : NoSuch ≡ n = cc in let z : number NoSuch ≡ 10 = ap number same ∙ g in omega arith
      go false true p q f g =
          let same : Closed (view b u r) ≡ n = cc in
          let z : number (Closed (view b u r)) ≡ 10 = ap number same ∙ g in
          omega arith
      go false false p q f g = some-ne-none n (sym f ∙ short)
        where
          short : verdict ((NoSuch, false) ∷ (Closed (view b u r), false) ∷ (ShortList, ltb room (length (opened b u r))) ∷ []) ≡ none
          short = rw (le-ltb room (length (opened b u r)) (omega (arith, shown-few u r p q)))

  open-enough : (u r : ℕ) → 126 ≤ room
      → refusal_open t b room u r ≡ verdict ((NoSuch, no_such b u r) ∷ (Closed (view b u r), not (eqb (view_number (view b u r)) 0)) ∷ [])
  unfolding open-table verdict
  open-enough u r m = refusal-shown u r ∙ go (no_such b u r) (not (eqb (view_number (view b u r)) 0)) refl refl
    where
      go : (x y : Bool) → no_such b u r ≡ x → not (eqb (view_number (view b u r)) 0) ≡ y
          → verdict ((NoSuch, x) ∷ (Closed (view b u r), y) ∷ (ShortList, ltb room (length (opened b u r))) ∷ []) ≡ verdict ((NoSuch, x) ∷ (Closed (view b u r), y) ∷ [])
      go true y p q = refl
      go false true p q = refl
      go false false p q = rw (le-ltb room (length (opened b u r)) (omega (arith, shown-few u r p q)))

  open-roomy : (u r : ℕ) → 126 ≤ room → Roomy 126 (answer_to (opens u r) b) (one (opens u r) h t list)
  unfolding one open_one answer_to open_told
  open-roomy u r m = go (refusal_open t b room u r) refl (open-enough u r m)
    where
      v : Option Refusal
      v = verdict ((NoSuch, no_such b u r) ∷ (Closed (view b u r), not (eqb (view_number (view b u r)) 0)) ∷ [])

      go : (z : Option Refusal) → refusal_open t b room u r ≡ z → refusal_open t b room u r ≡ v → Roomy 126 (open_told v u r b) (open_one z b u r h t list)
      go (some n) e f = refused-roomy 126 n h t list (open-never u r m e) (ap (λ (z : Option Refusal). open_told z u r b) (sym f ∙ e))
      go none e f =
          let is : open_told v u r b ≡ open_told none u r b = ap (λ (z : Option Refusal). open_told z u r b) (sym f ∙ e) in
          record {
            number' = 0;
            view' = 0;
            row = refl;
            few = open-few u r (sym (refusal-shown u r) ∙ e);
            never = λ n. omega arith;
            text = ap (λ (x : List ℕ). answer_text 0 0 x) (rows-counted (length (opened b u r) * 3) (chain_rows b u r) list (length-chains b u r)) ∙ sym (ap (λ (x : Told). x.text) is);
            book = sym (ap (λ (x : Told). x.book) is);
          }

  pub one-roomy : (q : Asked) → most_asked q ≤ room → Roomy (most_asked q) (answer_to q b) (one q h t list)
  one-roomy (changes q) m = change-roomy q m
  one-roomy (opens u r) m = open-roomy u r m
  one-roomy nothing m = refused-nothing h t list

-- ---- all of them

pub record AllRoomy (qs : List Asked) (a : All) : Type 0 where
  pub few : a.used ≤ most_all qs
  pub counted : counts a.answers ≡ a.used
  pub long : length a.answers ≡ length qs * 3
  pub never : never_ten a.answers ≡ true
  pub short : never_more a.answers ≡ true

-- the order rows left for the others
pub rest-room : (q : Asked) (h : Head) (t : Tables) (list : List ℕ) (m : ℕ) → (one q h t list).count + m ≤ rows_lent list
    → m ≤ rows_lent (drop ((one q h t list).count * 3) (one q h t list).orders)
unfolding rows_lent
rest-room q h t list m e =
    let o : One = one q h t list in
    let g = one-gives q h t list in
    let whole : length o.orders ≡ length list = ap length g.orders ∙ length-stored 0 (own_orders q (keep h t) list) list (omega (arith, g.count)) in
    rw length-drop (omega arith)

pub all-roomy : (qs : List Asked) (h : Head) (t : Tables) (list : List ℕ) → Ready (keep h t) → most_all qs ≤ rows_lent list → AllRoomy qs (all qs h t list)
unfolding all most_all counts never_ten never_more
all-roomy [] h t list k m = record { few = omega arith; counted = refl; long = refl; never = refl; short = refl }
all-roomy (q ∷ qs) h t list k m =
    let o : One = one q h t list in
    let r : Roomy (most_asked q) (answer_to q (book_in h t)) o = one-roomy h t list k q (omega arith) in
    let i : AllRoomy qs (all qs o.head o.tables (drop (o.count * 3) o.orders)) =
    all-roomy qs o.head o.tables (drop (o.count * 3) o.orders) (ready-one q h t list k) (rest-room q h t list (most_all qs) (omega (arith, r.few))) in
    let rest : List ℕ = (all qs o.head o.tables (drop (o.count * 3) o.orders)).answers in
    record {
      few = omega (arith, r.few, i.few);
      counted = ap (λ (x : List ℕ). counts (x ++ rest)) r.row ∙ ap (λ (n : ℕ). o.count + n) i.counted;
      long = ap (λ (x : List ℕ). length (x ++ rest)) r.row ∙ omega (arith, i.long);
      never = ap (λ (x : List ℕ). never_ten (x ++ rest)) r.row ∙ rw (ne_eqb r.number' 10 r.never) i.never;
      short = ap (λ (x : List ℕ). never_more (x ++ rest)) r.row ∙ rw (le-leb o.count most_orders (omega (arith, r.few, most-few q))) i.short;
    }

-- ---- the call

length-asked : (rows : List ℕ) → length (asked_in rows) ≡ length rows / 3
unfolding asked_in rows_lent
length-asked rows = length-tabulate (length rows / 3) (asked_at rows)

module _ (requests : List ℕ) (h : Head) (t : Tables) (answers list : List ℕ) (k : plan.Ready h t) (e : Enough requests answers list) where
  pub kept : Ready (keep h t)
  unfolding book_of
  kept = record { long = k.long; sound' = k.sound' }

  abbrev pub a : All
  a = all (asked_in requests) h t list

  roomy : AllRoomy (asked_in requests) a
  unfolding rows_lent
  roomy = all-roomy (asked_in requests) h t list kept (omega (arith, most-rows requests, e.room))

  -- neither 13 nor 12 nor 10 for the whole call
  passed : refusal_serve t (book_in h t) requests answers ≡ none
  unfolding refusal_serve rows_lent book_of verdict
  passed =
      common-passed t (book_in h t) ((ShortList, ltb (length answers / 3) (length requests / 3)) ∷ []) k.long k.sound'
      ∙ rw (le-ltb (length answers / 3) (length requests / 3) (omega (arith, e.answered)))

  pub served : serve_call requests h t answers list ≡ serve_by none a t answers list
  unfolding serve_call
  served = ap (λ (z : Option Refusal). serve_by z a t answers list) passed

  after-ready : plan.Ready a.head a.tables
  unfolding book_of
  after-ready = let m = all-leads (asked_in requests) h t list in record { long = m.long ∙ k.long; sound' = m.sound' k.sound' }

  pub rows_long : length a.answers ≡ length requests
  rows_long = omega (arith, roomy.long, length-asked requests, e.whole)

  used-few : a.used * 3 ≤ length list
  used-few = omega (arith, roomy.few, most-rows requests, e.room)

  list-long : length a.orders ≡ length list
  list-long =
      let v = all-serves (asked_in requests) h t list in
      ap length v.stores ∙ length-stored 0 (each own_orders (asked_in requests) (keep h t) list) list (omega (arith, v.uses, used-few))

  pub block-served : {s : Result Served Refusal} {t' : Tables} {answers' list' : List ℕ} → serving s t' answers' list' ≡ serve_call requests h t answers list
      → Answered s t' (take (length requests) answers') list'
  unfolding serve_by
  block-served {s} {t'} {answers'} {list'} p =
      let q = p ∙ served in
      let done : s ≡ Ok (record { head = a.head; used = a.used }) = ap (λ (c : Service). c.answer) q in
      let left : t' ≡ a.tables = ap (λ (c : Service). c.tables) q in
      let told : answers' ≡ stored 0 a.answers answers = ap (λ (c : Service). c.answers) q in
      let list-is : list' ≡ a.orders = ap (λ (c : Service). c.orders) q in
      let rows : take (length requests) answers' ≡ a.answers =
      ap₂ (λ (n : ℕ) (l : List ℕ). take n l) (sym rows_long) told ∙ stored-first a.answers answers in
      record {
        serves = rw (done, left) after-ready;
        within = omega (arith, ap counts rows, roomy.counted, used-few, ap length list-is, list-long);
        never = ap never_ten rows ∙ roomy.never;
        few = ap never_more rows ∙ roomy.short;
      }
