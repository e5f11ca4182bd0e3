-- Reading and writing undo each other, as calls: what a write leaves is read as the same head and rows, and what a read leaves is written as the same bytes, in the newest version.
-- Assumes nothing.
use Prim.Native.Nat.{ℕ, ◌≤◌}
use mathlib.Core.Path.{◌≡◌, refl, sym, ap, ap₂, subst, ◌∙◌}
use mathlib.Core.Bool.{Bool, true, false}
use mathlib.Core.List.{List, [], ◌∷◌}
use mathlib.Core.Option.{Option, some, none}
use Rattle.std.specs.Prelude.{Ok}
use native.Mathlib.Omega.{arith}
use lib.Dec.{ltb}
use lib.ListN.{length, take}
use Rattle.rows.specs.Number.{stored}
use Rattle.rows.proofs.Laws.{stored-first}
use Rattle.rules.specs.Book.{Book}
use Rattle.rules.specs.Sound.{sound}
use Rattle.rules.specs.Tests.{when, first_some}
use Rattle.rules.specs.Bytes.{Bytes, Tables, newest, version_in, head_of, head_in, start, read, fault, is_book, renewed, book_in, laid, write}
use Rattle.rules.specs.Refusals.{short, faulty_by, refusal_read, refusal_write}
use Rattle.rules.specs.Calls.{loading, load_by, read_call, writing, write_by, write_call}
use Rattle.rules.specs.declared.Head.{Head}
use Rattle.rules.specs.declared.Refusal.{Refusal}
use Rattle.rules.specs.declared.Refusal.TheVariants.{ShortTable, ShortList}
use Rattle.rules.specs.declared.Denial.{Denial}
use Rattle.rules.specs.declared.Denial.TheVariants.{Refused}
use Rattle.rules.specs.declared.Fault.{Fault}
use Rattle.theorems.proofs.RequestLaws.{common-none}
use Rattle.theorems.proofs.FaultLaws.{fault-none}
use Rattle.theorems.proofs.ByteLaws.{sound-fits, sound-book-laid, sound-room, short-laid, head-in}
use Rattle.theorems.proofs.WriteLaws.{BookBytes, book-bytes, head_read, head-write, length-write, is-book, sound-read-write, write_read, is-renewed, read-renewed, read-laid}
use Rattle.book.proofs.Answers.{read-given, write-given}

-- ---- what an answer tells

-- of a write that answers n
pub record Wrote (h : Head) (t : Tables) (buffer : List ℕ) (n : ℕ) : Type 0 where
  pub long : short t ≡ false
  pub sound' : sound (book_in h t) ≡ true
  pub bytes : n ≡ length (write (book_in h t))
  pub buffer' : (write_call h t buffer).buffer ≡ stored 0 (write (book_in h t)) buffer

pub wrote : (h : Head) (t : Tables) (buffer : List ℕ) (n : ℕ) → (write_call h t buffer).answer ≡ Ok n → Wrote h t buffer n
unfolding write_call write_by refusal_write
wrote h t buffer n = go (refusal_write t b (length buffer)) refl
  where
    b : Book
    b = book_in h t

    go : (o : Option Refusal) → refusal_write t b (length buffer) ≡ o → (write_by o b buffer).answer ≡ Ok n → Wrote h t buffer n
    go (some r) e a = let z : ◌≡◌ {A = ℕ} 0 1 = cc in absurd (omega arith)
    go none e a =
        let (l, s, room) = common-none t b ((ShortList, ltb (length buffer) (length (write b))) ∷ []) e in
        record { long = l; sound' = s; bytes = cc; buffer' = ap (λ (o : Option Refusal). (write_by o b buffer).buffer) e }

-- of a read that answers h
pub record Loads (bs : List ℕ) (t : Tables) (h : Head) : Type 0 where
  pub long : short t ≡ false
  pub book : is_book bs ≡ true
  pub head : h ≡ head_in bs
  pub tables' : (read_call bs t).tables ≡ laid (read bs) t

passed : (s : Bool) (o : Option Fault) → first_some (when s (Refused ShortTable) ∷ faulty_by o ∷ []) ≡ none → (s ≡ false) × (o ≡ none)
unfolding first_some when faulty_by
passed true o e = let z : ◌≡◌ {A = ℕ} 0 1 = cc in absurd (omega arith)
passed false (some f) e = let z : ◌≡◌ {A = ℕ} 0 1 = cc in absurd (omega arith)
passed false none e = (refl, refl)

pub loads : (bs : List ℕ) (t : Tables) (h : Head) → (read_call bs t).answer ≡ Ok h → Loads bs t h
unfolding read_call load_by refusal_read
loads bs t h = go (refusal_read t bs) refl
  where
    go : (o : Option Denial) → refusal_read t bs ≡ o → (load_by o bs t).answer ≡ Ok h → Loads bs t h
    go (some r) e a = let z : ◌≡◌ {A = ℕ} 0 1 = cc in absurd (omega arith)
    go none e a =
        let (l, b) = passed (short t) (fault bs) e in
        record { long = l; book = (fault-none bs).0 b; head = cc; tables' = ap (λ (o : Option Denial). (load_by o bs t).tables) e }

-- ---- reading what was written

-- the bytes that a write left are read, into any tables that are long enough: the head that was written, and the rows of its book
pub written_read : (h : Head) (t u : Tables) (buffer : List ℕ) (n : ℕ) → (write_call h t buffer).answer ≡ Ok n → short u ≡ false
    → read_call (take n (write_call h t buffer).buffer) u ≡ loading (Ok h) (laid (book_in h t) u)
written_read h t u buffer n a s =
    let w : Wrote h t buffer n = wrote h t buffer n a in
    let b : Book = book_in h t in
    let bs : take n (write_call h t buffer).buffer ≡ write b = ap₂ take w.bytes w.buffer' ∙ stored-first (write b) buffer in
    let head : h ≡ head_in (write b) = sym (head-write b (sound-fits b w.sound') ∙ head-in h t) in
    ap (λ (x : List ℕ). read_call x u) bs
    ∙ sym (read-given (write b) h u (laid b u) s (is-book b w.sound') head (ap (λ (x : Book). laid x u) (sym (sound-read-write b w.sound'))))

-- the tables then hold the same book
pub same_rows : (h : Head) (t u : Tables) (buffer : List ℕ) (n : ℕ) → (write_call h t buffer).answer ≡ Ok n → short u ≡ false
    → book_in h (read_call (take n (write_call h t buffer).buffer) u).tables ≡ book_in h t
same_rows h t u buffer n a s =
    ap (λ l. book_in h l.tables) (written_read h t u buffer n a s)
    ∙ subst (λ (k : Head). book_in k (laid (book_in h t) u) ≡ book_in h t) (head-in h t) (sound-book-laid (book_in h t) u (wrote h t buffer n a).sound')

-- ---- writing what was read

-- the head and tables that a read left are written, into any buffer with room: the bytes that were read, in the newest version
pub read-written : (bs : List ℕ) (t : Tables) (h : Head) (buffer : List ℕ) → Bytes bs → (read_call bs t).answer ≡ Ok h → length (renewed bs) ≤ length buffer
    → write_call h (read_call bs t).tables buffer ≡ writing (Ok (length (renewed bs))) (stored 0 (renewed bs) buffer)
read-written bs t h buffer byte a room =
    let l : Loads bs t h = loads bs t h a in
    let k : BookBytes bs = book-bytes bs l.book in
    let u : Tables = laid (read bs) t in
    let same : book_in h u ≡ read bs = ap (λ (x : Head). book_in x u) l.head ∙ read-laid bs t l.book in
    let long : short u ≡ false = short-laid (read bs) t (sound-room (read bs) t k.sound' l.long) ∙ l.long in
    let new : write (read bs) ≡ renewed bs = write_read bs byte l.book in
    let end : length (renewed bs) ≡ start newest h 5 = ap length (sym new) ∙ length-write (read bs) ∙ ap (λ (x : Head). start newest x 5) (head_read bs ∙ sym l.head) in
    ap (λ (x : Tables). write_call h x buffer) l.tables'
    ∙ sym (
    write-given h u buffer (stored 0 (renewed bs) buffer) (length (renewed bs)) long (ap sound same ∙ k.sound') (omega arith) end
    (ap (λ (x : List ℕ). stored 0 x buffer) (sym (ap write same ∙ new)))
    )

-- the buffer then begins with them
pub new-bytes : (bs : List ℕ) (t : Tables) (h : Head) (buffer : List ℕ) → Bytes bs → (read_call bs t).answer ≡ Ok h → length (renewed bs) ≤ length buffer
    → take (length (renewed bs)) (write_call h (read_call bs t).tables buffer).buffer ≡ renewed bs
new-bytes bs t h buffer byte a room =
    ap (λ w. take (length (renewed bs)) w.buffer) (read-written bs t h buffer byte a room) ∙ stored-first (renewed bs) buffer

-- with the very bytes that were read, where they are of that version
pub same_bytes : (bs : List ℕ) (t : Tables) (h : Head) (buffer : List ℕ) → Bytes bs → version_in bs ≡ newest → (read_call bs t).answer ≡ Ok h → length bs ≤ length buffer
    → take (length bs) (write_call h (read_call bs t).tables buffer).buffer ≡ bs
unfolding renewed
same_bytes bs t h buffer byte v a room =
    let same : renewed bs ≡ bs = rw v in
    subst (λ (x : List ℕ). length x ≤ length buffer → take (length x) (write_call h (read_call bs t).tables buffer).buffer ≡ x) same (new-bytes bs t h buffer byte a) room

-- a book of version 1 and what is written of it are read as the same head and rows
pub read_again : (bs : List ℕ) (t u : Tables) (h : Head) → Bytes bs → (read_call bs t).answer ≡ Ok h → short u ≡ false
    → read_call (renewed bs) u ≡ loading (Ok h) (laid (read bs) u)
read_again bs t u h byte a s =
    let l : Loads bs t h = loads bs t h a in
    let same : read (renewed bs) ≡ read bs = read-renewed bs byte l.book in
    let head : h ≡ head_in (renewed bs) = l.head ∙ sym (head_read bs) ∙ ap head_of (sym same) ∙ head_read (renewed bs) in
    sym (read-given (renewed bs) h u (laid (read bs) u) s (is-renewed bs byte l.book) head (ap (λ (x : Book). laid x u) (sym same)))
