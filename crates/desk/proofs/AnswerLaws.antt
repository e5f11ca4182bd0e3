-- The rows of a block are answered as the program's definition answers their lines, with the same texts and the same book; so it does not matter how the
-- lines are put into blocks.
-- Assumes nothing.
use Prim.Native.Nat.{ℕ, ◌+◌, ◌*◌, ◌%◌, ◌≤◌, ◌<◌}
use mathlib.Core.Path.{◌≡◌, refl, sym, ap, ap₂, subst, ◌∙◌}
use mathlib.Core.Bool.{Bool, true, false}
use mathlib.Core.List.{List, [], ◌∷◌, ◌++◌, append_assoc}
use native.Mathlib.Omega.{arith}
use lib.Dec.{eqb}
use lib.ListN.{length, take, drop}
use lib.Seq.{take_at, drop_at, length-take-le}
use borrow.Author.Tests.{eqb-true, ne_eqb}
use Rattle.rows.specs.Number.{joined}
use Rattle.rows.proofs.Laws.{length-stored, stored-first}
use Rattle.rules.specs.Lists.{tabulate, tabulate_from}
use Rattle.rules.specs.Book.{Book}
use Rattle.rules.specs.Bytes.{Tables, book_in}
use Rattle.rules.specs.Runs.{keep}
use Rattle.rules.specs.Calls.{rows_lent, Asked, asked, asked_in, One, one, refused_one, All, all, Service, serving, serve_by, serve_call}
use Rattle.rules.specs.declared.Head.{Head}
use Rattle.rules.specs.declared.Refusal.{Refusal}
use Rattle.rules.specs.declared.Served.{Served}
use Rattle.std.specs.Prelude.{Result, Ok}
use Rattle.plan.specs.Judge as plan
use Rattle.theorems.proofs.ServeLaws.{Ready, ready-one, own_orders, one-gives}
use Rattle.lines.specs.Answer.{answer_text}
use Rattle.lines.specs.Request.{line_asks}
use Rattle.lines.specs.Program.{Told, no14, line_told, answer_to, answers, leaves}
use Rattle.lines.proofs.ProgramLaws.{Kind, asks-kind}
use Rattle.std.specs.Prelude.{Option, Some, None}
use Rattle.lines.specs.declared.request.Asked.{Asked as Row}
use Rattle.desk.specs.Block.{Enough, row_of, rows_of, row_told, rows_answers, rows_leave}
use Rattle.desk.specs.Output.{told, texts}
use Rattle.desk.proofs.BlockLaws.{most_asked, most_all, most-rows, asked-cons, Roomy, one-roomy, rest-room, kept, served, rows_long, block-served}

-- ---- one row

record RowTold (kind : ℕ) (a : Told) (o : One) : Type 0 where
  number' : ℕ
  view' : ℕ
  row : o.row ≡ number' ∷ view' ∷ o.count ∷ []
  text : answer_text (told kind number') view' (take (o.count * 3) o.orders) ≡ a.text
  book : book_in o.head o.tables ≡ a.book

module _ (h : Head) (t : Tables) (list : List ℕ) (k : Ready (keep h t)) where
  row-malformed : (a b : ℕ) → RowTold 14 (row_told 14 a b (book_in h t)) (one (asked 14 a b) h t list)
  unfolding row_told asked one refused_one told line_told no14
  row-malformed a b = record { number' = 1; view' = 0; row = refl; text = refl; book = refl }

  row-told : (kind a b : ℕ) → most_asked (asked kind a b) ≤ rows_lent list → RowTold kind (row_told kind a b (book_in h t)) (one (asked kind a b) h t list)
  unfolding row_told told line_told
  row-told kind a b m = go (eqb kind 14) refl
    where
      as-malformed : kind ≡ 14 → RowTold kind (row_told kind a b (book_in h t)) (one (asked kind a b) h t list)
      as-malformed e = subst (λ (n : ℕ). RowTold n (row_told n a b (book_in h t)) (one (asked n a b) h t list)) (sym e) (row-malformed a b)

      go : (z : Bool) → eqb kind 14 ≡ z → RowTold kind (row_told kind a b (book_in h t)) (one (asked kind a b) h t list)
      go true e = as-malformed (eqb-true kind 14 e)
      go false e =
          let r : Roomy (most_asked (asked kind a b)) (answer_to (asked kind a b) (book_in h t)) (one (asked kind a b) h t list) = one-roomy h t list k (asked kind a b) m in
          record { number' = r.number'; view' = r.view'; row = r.row; text = rw e r.text; book = rw e r.book }

-- ---- all of them

rows_in : (list : List ℕ) → rows_lent list * 3 ≤ length list
unfolding rows_lent
rows_in list = omega arith

list-kept : (q : Asked) (h : Head) (t : Tables) (list : List ℕ) → Ready (keep h t) → most_asked q ≤ rows_lent list → length (one q h t list).orders ≡ length list
list-kept q h t list k m =
    let g = one-gives q h t list in
    ap length g.orders ∙ length-stored 0 (own_orders q (keep h t) list) list (omega (arith, g.count, (one-roomy h t list k q m).few, rows_in list))

pub record AllTold (rows : List ℕ) (book₀ : Book) (a : All) : Type 0 where
  pub text : joined (texts rows a.answers a.orders) ≡ rows_answers rows book₀
  pub book : book_in a.head a.tables ≡ rows_leave rows book₀

none_told : (rows : List ℕ) (h : Head) (t : Tables) (list : List ℕ) → length rows < 3 → AllTold rows (book_in h t) (all (asked_in rows) h t list)
unfolding asked_in rows_lent tabulate tabulate_from all texts joined rows_answers rows_leave
none_told [] h t list l = record { text = refl; book = refl }
none_told (k ∷ []) h t list l = record { text = refl; book = refl }
none_told (k ∷ a ∷ []) h t list l = record { text = refl; book = refl }
none_told (k ∷ a ∷ b ∷ rows) h t list l = absurd (omega arith)

pub rows_told : (rows : List ℕ) (h : Head) (t : Tables) (list : List ℕ) → Ready (keep h t) → most_all (asked_in rows) ≤ rows_lent list
    → AllTold rows (book_in h t) (all (asked_in rows) h t list)
unfolding most_all all texts joined rows_answers rows_leave
rows_told [] h t list k m = none_told [] h t list (omega arith)
rows_told (x ∷ []) h t list k m = none_told (x ∷ []) h t list (omega arith)
rows_told (x ∷ y ∷ []) h t list k m = none_told (x ∷ y ∷ []) h t list (omega arith)
rows_told (x ∷ y ∷ z ∷ rows) h t list k m =
    let q : Asked = asked x y z in
    let e : asked_in (x ∷ y ∷ z ∷ rows) ≡ q ∷ asked_in rows = asked-cons x y z rows in
    let enough : most_asked q + most_all (asked_in rows) ≤ rows_lent list = subst (λ (qs : List Asked). most_all qs ≤ rows_lent list) e m in
    let o : One = one q h t list in
    let few = (one-roomy h t list k q (omega arith)).few in
    let r : RowTold x (row_told x y z (book_in h t)) o = row-told h t list k x y z (omega arith) in
    let left : List ℕ = drop (o.count * 3) o.orders in
    let a : All = all (asked_in rows) o.head o.tables left in
    let i : AllTold rows (book_in o.head o.tables) a =
    rows_told rows o.head o.tables left (ready-one q h t list k) (rest-room q h t list (most_all (asked_in rows)) (omega (arith, few))) in
    let front : List ℕ = take (o.count * 3) o.orders in
    let long : length front ≡ o.count * 3 = length-take-le (o.count * 3) o.orders (omega (arith, few, list-kept q h t list k (omega arith), rows_in list)) in
    let n : ℕ = told x r.number' in
    subst (λ (qs : List Asked). AllTold (x ∷ y ∷ z ∷ rows) (book_in h t) (all qs h t list)) (sym e)
    (record {
      text = ap (λ (row : List ℕ). joined (texts (x ∷ y ∷ z ∷ rows) (row ++ a.answers) (front ++ a.orders))) r.row
          ∙ (ap₂ (λ (mine others : List ℕ). answer_text n r.view' mine ++ joined (texts rows a.answers others))
          (take_at front a.orders (o.count * 3) long) (drop_at front a.orders (o.count * 3) long)
          ∙ (ap₂ (λ (u w : List ℕ). u ++ w) r.text i.text
          ∙ ap (λ (c : Book). (row_told x y z (book_in h t)).text ++ rows_answers rows c) r.book));
      book = i.book ∙ ap (rows_leave rows) r.book;
    })

-- ---- blocks do not matter

pub answers-rows : (xs ys : List ℕ) → length xs % 3 ≡ 0 → (b : Book) → rows_answers (xs ++ ys) b ≡ rows_answers xs b ++ rows_answers ys (rows_leave xs b)
unfolding rows_answers rows_leave
answers-rows [] ys e b = refl
answers-rows (x ∷ []) ys e b = absurd (omega arith)
answers-rows (x ∷ y ∷ []) ys e b = absurd (omega arith)
answers-rows (x ∷ y ∷ z ∷ xs) ys e b =
    let t : Told = row_told x y z b in
    ap (λ (w : List ℕ). t.text ++ w) (answers-rows xs ys (omega arith) t.book) ∙ sym (append_assoc t.text (rows_answers xs t.book) (rows_answers ys (rows_leave xs t.book)))

pub leave-rows : (xs ys : List ℕ) → length xs % 3 ≡ 0 → (b : Book) → rows_leave (xs ++ ys) b ≡ rows_leave ys (rows_leave xs b)
unfolding rows_leave
leave-rows [] ys e b = refl
leave-rows (x ∷ []) ys e b = absurd (omega arith)
leave-rows (x ∷ y ∷ []) ys e b = absurd (omega arith)
leave-rows (x ∷ y ∷ z ∷ xs) ys e b = leave-rows xs ys (omega arith) (row_told x y z b).book

-- ---- the rows of lines

module _ (b : Book) where
  line_row : (q : Option Row) → Kind q → row_told (row_of q).kind (row_of q).a (row_of q).b b ≡ line_told q b
  unfolding row_told
  line_row (Some q) k = rw (ne_eqb q.kind 14 (λ e. omega arith))
  line_row None k = refl

pub lines_rows : (ls : List (List ℕ)) (b : Book) → rows_answers (rows_of false ls) b ≡ answers ls b
unfolding rows_answers rows_of answers
lines_rows [] b = refl
lines_rows (l ∷ ls) b =
    let e = line_row b (line_asks l) (asks-kind l) in
    ap (λ (t : Told). t.text ++ rows_answers (rows_of false ls) t.book) e ∙ ap (λ (w : List ℕ). (line_told (line_asks l) b).text ++ w) (lines_rows ls (line_told (line_asks l) b).book)

pub lines-leave : (ls : List (List ℕ)) (b : Book) → rows_leave (rows_of false ls) b ≡ leaves ls b
unfolding rows_leave rows_of leaves
lines-leave [] b = refl
lines-leave (l ∷ ls) b =
    let e = line_row b (line_asks l) (asks-kind l) in
    ap (λ (t : Told). rows_leave (rows_of false ls) t.book) e ∙ lines-leave ls (line_told (line_asks l) b).book

-- ---- the call that serves a block, and its texts

module _ (requests : List ℕ) (h : Head) (t : Tables) (answers₀ list : List ℕ) (k : plan.Ready h t) (e : Enough requests answers₀ list) where
  all_told : AllTold requests (book_in h t) (all (asked_in requests) h t list)
  unfolding rows_lent
  all_told = rows_told requests h t list (kept requests h t answers₀ list k e) (omega (arith, most-rows requests, e.room))

  pub serve-told : {s : Result Served Refusal} {t' : Tables} {answers' list' : List ℕ} → serving s t' answers' list' ≡ serve_call requests h t answers₀ list
      → (joined (texts requests (take (length requests) answers') list') ≡ rows_answers requests (book_in h t))
      × ((h' : Head) (n : ℕ) → s ≡ Ok (record { head = h'; used = n }) → book_in h' t' ≡ rows_leave requests (book_in h t))
  unfolding serve_by
  serve-told {s} {t'} {answers'} {list'} p =
      let a : All = all (asked_in requests) h t list in
      let q = p ∙ served requests h t answers₀ list k e in
      let done : s ≡ Ok (record { head = a.head; used = a.used }) = ap (λ (c : Service). c.answer) q in
      let left : t' ≡ a.tables = ap (λ (c : Service). c.tables) q in
      let rows : take (length requests) answers' ≡ a.answers =
      ap₂ (λ (n : ℕ) (l : List ℕ). take n l) (sym (rows_long requests h t answers₀ list k e)) (ap (λ (c : Service). c.answers) q) ∙ stored-first a.answers answers₀ in (
        ap₂ (λ (x y : List ℕ). joined (texts requests x y)) rows (ap (λ (c : Service). c.orders) q) ∙ all_told.text,
        λ h' n f.
            let same : ◌≡◌ {A = Served} (record { head = h'; used = n }) (record { head = a.head; used = a.used }) = cc in
            ap₂ (λ (x : Head) (y : Tables). book_in x y) (ap (λ (x : Served). x.head) same) left ∙ all_told.book,
      )

-- ---- one call or two

module _ (xs ys : List ℕ) (w : length xs % 3 ≡ 0) (h : Head) (t : Tables) (k : plan.Ready h t) where
  -- the rows of both in one call, or the first and then the others on what is left: the same texts, and the same book
  pub serve-parts : (answers₀ list : List ℕ) → Enough (xs ++ ys) answers₀ list → {s : Result Served Refusal} {t' : Tables} {answers' list' : List ℕ}
      → serving s t' answers' list' ≡ serve_call (xs ++ ys) h t answers₀ list
      → (answers₁ list₁ : List ℕ) → Enough xs answers₁ list₁ → {h₁ : Head} {n₁ : ℕ} {t₁ : Tables} {answers₁' list₁' : List ℕ}
      → serving (Ok (record { head = h₁; used = n₁ })) t₁ answers₁' list₁' ≡ serve_call xs h t answers₁ list₁
      → (answers₂ list₂ : List ℕ) → Enough ys answers₂ list₂ → {h₂ : Head} {n₂ : ℕ} {t₂ : Tables} {answers₂' list₂' : List ℕ}
      → serving (Ok (record { head = h₂; used = n₂ })) t₂ answers₂' list₂' ≡ serve_call ys h₁ t₁ answers₂ list₂
      → (joined (texts (xs ++ ys) (take (length (xs ++ ys)) answers') list')
      ≡ joined (texts xs (take (length xs) answers₁') list₁') ++ joined (texts ys (take (length ys) answers₂') list₂'))
      × ((h' : Head) (n : ℕ) → s ≡ Ok (record { head = h'; used = n }) → book_in h' t' ≡ book_in h₂ t₂)
  serve-parts answers₀ list e p answers₁ list₁ e₁ {h₁} {n₁} {t₁} p₁ answers₂ list₂ e₂ {h₂} {n₂} {t₂} p₂ =
      let b : Book = book_in h t in
      let whole = serve-told (xs ++ ys) h t answers₀ list k e p in
      let one' = serve-told xs h t answers₁ list₁ k e₁ p₁ in
      let k₁ : plan.Ready h₁ t₁ = (block-served xs h t answers₁ list₁ k e₁ p₁).serves in
      let left : book_in h₁ t₁ ≡ rows_leave xs b = one'.1 h₁ n₁ refl in
      let two = serve-told ys h₁ t₁ answers₂ list₂ k₁ e₂ p₂ in (
        whole.0 ∙ (answers-rows xs ys w b ∙ sym (ap₂ (λ (u v : List ℕ). u ++ v) one'.0 (two.0 ∙ ap (rows_answers ys) left))),
        λ h' n f. whole.1 h' n f ∙ (leave-rows xs ys w b ∙ sym (two.1 h₂ n₂ refl ∙ ap (rows_leave ys) left)),
      )
