-- The book's bytes as code reads and writes them: sections cut out of them, and stores one behind the other. Assumes nothing.
use Prim.Native.Nat.{ℕ, suc, ◌+◌, ◌*◌, ◌-◌, ◌≤◌, ◌<◌}
use mathlib.Core.Path.{◌≡◌, refl, sym, ap, ap₂, subst, ◌∙◌}
use mathlib.Core.Bool.{Bool, true, false, cond}
use mathlib.Core.List.{List, [], ◌∷◌, ◌++◌}
use native.Mathlib.Nat.{mod-eq_of_lt}
use native.Mathlib.Omega.{arith}
use lib.Dec.{eqb}
use lib.ListN.{length, get_or, take, drop, set, length-append, length-take, length-drop}
use native.Mathlib.Numerals.{add-one}
use lib.Seq.{sets, length-take-le, take-suc}
use borrow.Author.Tests.{ne_eqb}
use Rattle.sets.specs.Words.{bytes, set_in, users_of}
use Rattle.sets.specs.declared.Users.{Users}
use Rattle.rows.specs.Number.{bytes_of, cell, stored}
use Rattle.rows.proofs.Laws.{stored-add, stored-sets, length-stored}
use Rattle.rules.specs.Bytes.{Bytes, widths, Tables, tables, set_row, newest, header, version_in, fore, leavers_in, head_of, head_in, limits_of, bad_count, counts, total, start, section, sections, read, laid, book_in, write, left_by, Room}
use Rattle.rules.specs.declared.Head.{Head}
use Rattle.sound.specs.Check.{counts_of}
use Rattle.theorems.proofs.ByteLaws.{TableBytes, head-in, sections-in}
use Rattle.theorems.proofs.WriteLaws.{front, length_front, Exact, start-next, sections-read}
use Rattle.book.specs.Ready.{Whole, Loadable, Savable}

-- ---- version, set of leavers and head

pub fore-within : (v : ℕ) → (17 ≤ fore v) × (fore v ≤ 17 + bytes)
unfolding fore
fore-within v = go (eqb v 1)
  where
    go : (p : Bool) → (17 ≤ cond p 17 (17 + bytes)) × (cond p 17 (17 + bytes) ≤ 17 + bytes)
    go true = omega arith
    go false = omega arith

pub fore-first : (v : ℕ) → v ≡ 1 → 17 ≡ fore v
unfolding fore
fore-first v e = rw e

pub fore-later : (v : ℕ) → (v ≡ 1 → ⊥) → 17 + bytes ≡ fore v
unfolding fore
fore-later v n = rw (ne_eqb v 1 n)

-- the set s is that of the bytes
pub none_left : (bs : List ℕ) {v s : ℕ} → v ≡ version_in bs → v ≡ 1 → s ≡ 0 → s ≡ leavers_in bs
unfolding leavers_in
none_left bs e one z = rw (sym e ∙ one) z

pub some_left : (bs : List ℕ) {v s : ℕ} → v ≡ version_in bs → (v ≡ 1 → ⊥) → s ≡ cell bytes 17 bs → s ≡ leavers_in bs
unfolding leavers_in
some_left bs e n z = rw (ne_eqb (version_in bs) 1 (λ q. n (e ∙ q))) z

pub head-left : (bs : List ℕ) (s : Users) {h : Head} → set_in s ≡ leavers_in bs → h ≡ left_by s (head_in bs) → h ≡ head_in bs
unfolding head_in
head-left bs s e k = k ∙ ap (λ (n : ℕ). left_by (users_of n) (head_in bs)) e

-- who has left moves no section and breaks no count
pub start_left : (v : ℕ) (s : Users) (h : Head) (k : ℕ) → start v (left_by s h) k ≡ start v h k
unfolding start counts
start_left v s h k = refl

pub count_left : (s : Users) (h : Head) → bad_count (left_by s h) ≡ bad_count h
unfolding bad_count limits_of
count_left s h = refl

pub counts-left : (s : Users) (h : Head) → counts_of (left_by s h) ≡ counts_of h
unfolding counts_of limits_of
counts-left s h = refl

-- ---- stores one behind the other

-- a store right behind the first bytes makes one store of both
pub stored-behind : (k : ℕ) (a b t u v : List ℕ) → length a ≡ k → k + length b ≤ length t → u ≡ stored 0 a t → v ≡ stored k b u → v ≡ stored 0 (a ++ b) t
stored-behind k a b t u v e l p q = q ∙ ap (stored k b) p ∙ stored-add 0 a b t k (omega arith) l

-- the same, byte by byte
pub sets_behind : (k : ℕ) (a b t u v : List ℕ) → length a ≡ k → k + length b ≤ length t → u ≡ stored 0 a t → v ≡ sets u k b → v ≡ stored 0 (a ++ b) t
sets_behind k a b t u v e l p q =
    let n : length u ≡ length t = ap length p ∙ length-stored 0 a t (omega arith) in
    stored-behind k a b t u v e l p (q ∙ stored-sets k b u (omega arith))

-- the next byte of some that are stored one by one
pub byte-stored : (at i : ℕ) (bs t : List ℕ) {u : List ℕ} → u ≡ stored at (take i bs) t → i < length bs → at + length bs ≤ length t
    → set u (at + i) (get_or bs i 0) ≡ stored at (take (i + 1) bs) t
byte-stored at i bs t {u} e l r =
    let long : length (take i bs) ≡ i = length-take-le i bs (omega arith) in
    let n : length u ≡ length t = ap length e ∙ length-stored at (take i bs) t (omega arith) in
    stored-sets (at + i) (get_or bs i 0 ∷ []) u (omega arith)
    ∙ ap (stored (at + i) (get_or bs i 0 ∷ [])) e
    ∙ stored-add at (take i bs) (get_or bs i 0 ∷ []) t (at + i) (omega arith) (omega arith)
    ∙ ap (λ (x : List ℕ). stored at x t) (sym (rw add-one (take-suc bs i 0 l)))

-- the stores of a header, and of the set of leavers
pub front-stored : (h : Head) (t m a b c d e f g : List ℕ) → 17 + bytes ≤ length t → h.mode.0 < 256 → h.users.0 < 256
    → m ≡ stored 0 (0x54 ∷ 0x4B ∷ 0x42 ∷ []) t
    → a ≡ stored 3 (bytes_of 2 newest) m
    → b ≡ stored 7 (bytes_of 2 h.resources.0) (sets a 5 (h.mode.0 ∷ h.users.0 ∷ []))
    → c ≡ stored 9 (bytes_of 2 h.inner_vertices.0) b
    → d ≡ stored 11 (bytes_of 2 h.inner_tokens.0) c
    → e ≡ stored 13 (bytes_of 2 h.outer_vertices.0) d
    → f ≡ stored 15 (bytes_of 2 h.outer_tokens.0) e
    → g ≡ stored 17 (bytes_of bytes (set_in h.leavers)) f
    → g ≡ stored 0 (front h) t
unfolding header set_row bytes_of
front-stored h t m a b c d e f g l mode user em ea eb ec ed ee ef eg =
    let mark : List ℕ = 0x54 ∷ 0x4B ∷ 0x42 ∷ [] in
    let modes : List ℕ = h.mode.0 ∷ h.users.0 ∷ [] in
    let a' = stored-behind 3 mark (bytes_of 2 newest) t m a refl (omega arith) em ea in
    let m' = sets_behind 5 (mark ++ bytes_of 2 newest) modes t a (sets a 5 modes) refl (omega arith) a' refl in
    let b' = stored-behind 7 _ (bytes_of 2 h.resources.0) t (sets a 5 modes) b refl (omega arith) m' eb in
    let c' = stored-behind 9 _ (bytes_of 2 h.inner_vertices.0) t b c refl (omega arith) b' ec in
    let d' = stored-behind 11 _ (bytes_of 2 h.inner_tokens.0) t c d refl (omega arith) c' ed in
    let e' = stored-behind 13 _ (bytes_of 2 h.outer_vertices.0) t d e refl (omega arith) d' ee in
    let f' = stored-behind 15 _ (bytes_of 2 h.outer_tokens.0) t e f refl (omega arith) e' ef in
    let g' = stored-behind 17 _ (bytes_of bytes (set_in h.leavers)) t f g refl (omega arith) f' eg in
    g' ∙ rw (mod-eq_of_lt mode, mod-eq_of_lt user)

-- ---- where the sections start

pub start-fore : (v : ℕ) (h : Head) (k : ℕ) → fore v ≤ start v h k
unfolding start
start-fore v h k = omega arith

-- from one start to the next
pub record Cuts (v : ℕ) (h : Head) (z a b c d : ℕ) : Type 0 where
  pub front' : z ≡ fore v
  pub inner_vertices : a ≡ z + h.inner_vertices.0 * bytes
  pub inner_tokens : b ≡ a + h.inner_tokens.0 * 5
  pub outer_vertices : c ≡ b + h.outer_vertices.0 * bytes
  pub outer_tokens : d ≡ c + h.outer_tokens.0 * 4
  pub resources : start v h 5 ≡ d + h.resources.0 * (bytes + 4)

pub cuts : (v : ℕ) (h : Head) (z a b c d : ℕ) → z ≡ start v h 0 → a ≡ start v h 1 → b ≡ start v h 2 → c ≡ start v h 3 → d ≡ start v h 4 → Cuts v h z a b c d
unfolding start total counts
cuts v h z a b c d ez ea eb ec ed = record {
  front' = omega arith;
  inner_vertices = omega arith;
  inner_tokens = omega arith;
  outer_vertices = omega arith;
  outer_tokens = omega arith;
  resources = omega arith;
}

-- a section is what lies between its start and the next one's
pub section-cut : (bs : List ℕ) (k a b : ℕ) → a ≡ start (version_in bs) (head_in bs) k → b ≡ start (version_in bs) (head_in bs) (suc k)
    → take (b - a) (drop a bs) ≡ section bs k
unfolding section
section-cut bs k a b ea eb =
    let n : b - a ≡ get_or (counts (head_in bs)) k 0 * get_or widths k 0 = omega (arith, start-next (version_in bs) (head_in bs) k) in
    rw (n, ea)

-- the stretches between the starts
abbrev pub parts : List ℕ → ℕ → ℕ → ℕ → ℕ → ℕ → Tables
parts bs z a b c d =
    tables (take (a - z) (drop z bs)) (take (b - a) (drop a bs)) (take (c - b) (drop b bs)) (take (d - c) (drop c bs)) (take (length bs - d) (drop d bs))

pub sections-cut : (bs : List ℕ) (v : ℕ) (h : Head) (z a b c d : ℕ) → Whole bs v h → Cuts v h z a b c d → parts bs z a b c d ≡ sections bs
unfolding sections start total counts
sections-cut bs v h z a b c d w cut =
    let at : (k n : ℕ) → n ≡ start v h k → n ≡ start (version_in bs) (head_in bs) k = λ k n e. e ∙ ap₂ (λ (x : ℕ) (y : Head). start x y k) w.version w.head in
    let ez = at 0 z (omega arith) in
    let ea = at 1 a (omega arith) in
    let eb = at 2 b (omega arith) in
    let ec = at 3 c (omega arith) in
    let ed = at 4 d (omega arith) in
    λ i.
    tables
    (section-cut bs 0 z a ez ea i)
    (section-cut bs 1 a b ea eb i)
    (section-cut bs 2 b c eb ec i)
    (section-cut bs 3 c d ec ed i)
    (section-cut bs 4 d (length bs) ed (at 5 (length bs) w.exact) i)

-- the rows that the head counts fill them
pub record Fills (h : Head) (t : Tables) : Type 0 where
  pub inner_vertices : length t.inner_vertices ≡ h.inner_vertices.0 * bytes
  pub inner_tokens : length t.inner_tokens ≡ h.inner_tokens.0 * 5
  pub outer_vertices : length t.outer_vertices ≡ h.outer_vertices.0 * bytes
  pub outer_tokens : length t.outer_tokens ≡ h.outer_tokens.0 * 4
  pub resources : length t.resources ≡ h.resources.0 * (bytes + 4)

pub sections-fill : (bs : List ℕ) (v : ℕ) (h : Head) → Whole bs v h → Fills h (sections bs)
sections-fill bs v h w =
    let cut : Cuts v h (start v h 0) (start v h 1) (start v h 2) (start v h 3) (start v h 4) = cuts v h _ _ _ _ _ refl refl refl refl refl in
    subst (Fills h) (sections-cut bs v h _ _ _ _ _ w cut)
    (record {
      inner_vertices = simp (length-take, length-drop) (omega (arith, w.exact));
      inner_tokens = simp (length-take, length-drop) (omega (arith, w.exact));
      outer_vertices = simp (length-take, length-drop) (omega (arith, w.exact));
      outer_tokens = simp (length-take, length-drop) (omega (arith, w.exact));
      resources = simp (length-take, length-drop) (omega (arith, w.exact));
    })

pub fills-room : (h : Head) (t : Tables) → Fills h t → Room h t
fills-room h t f =
    record {
      inner_vertices = omega arith;
      inner_tokens = omega arith;
      outer_vertices = omega arith;
      outer_tokens = omega arith;
      resources = omega arith;
    }

-- ---- loading

pub whole-exact : (bs : List ℕ) (v : ℕ) (h : Head) → Whole bs v h → Exact bs
whole-exact bs v h w = w.exact ∙ ap₂ (λ (x : ℕ) (y : Head). start x y 5) w.version w.head

-- tables with the sections s stored in them hold the book that was read
pub loaded : (bs : List ℕ) (v : ℕ) (h : Head) (t u s : Tables) → Loadable bs v h t → Bytes bs → s ≡ sections bs
    → u.inner_vertices ≡ stored 0 s.inner_vertices t.inner_vertices
    → u.inner_tokens ≡ stored 0 s.inner_tokens t.inner_tokens
    → u.outer_vertices ≡ stored 0 s.outer_vertices t.outer_vertices
    → u.outer_tokens ≡ stored 0 s.outer_tokens t.outer_tokens
    → u.resources ≡ stored 0 s.resources t.resources
    → u ≡ laid (read bs) t
unfolding laid sections
loaded bs v h t u s p byte cut iv it ov ot rs =
    (λ i. tables (iv i) (it i) (ov i) (ot i) (rs i))
    ∙ ap lay cut
    ∙ ap (λ (ps : List (List ℕ)). lay (tables (get_or ps 0 []) (get_or ps 1 []) (get_or ps 2 []) (get_or ps 3 []) (get_or ps 4 []))) (sym (sections-read bs byte (whole-exact bs v h p.whole)))
  where
    lay : Tables → Tables
    lay s =
        tables
        (stored 0 s.inner_vertices t.inner_vertices)
        (stored 0 s.inner_tokens t.inner_tokens)
        (stored 0 s.outer_vertices t.outer_vertices)
        (stored 0 s.outer_tokens t.outer_tokens)
        (stored 0 s.resources t.resources)

-- ---- saving

-- the first n bytes of a table, put behind what is there already
behind : (k m n : ℕ) (a s t u v : List ℕ) → m ≡ k + n → length a ≡ k → m ≤ length t → n ≤ length s
    → u ≡ stored 0 a t → v ≡ stored k (take (m - k) s) u
    → (length (a ++ take n s) ≡ m) × (v ≡ stored 0 (a ++ take n s) t)
behind k m n a s t u v e la lt ls p q =
    let d : m - k ≡ n = omega arith in
    let ln : length (take n s) ≡ n = length-take-le n s ls in
    (simp length-append (omega arith), stored-behind k a (take n s) t u v la (omega arith) p (q ∙ ap (λ (i : ℕ). stored k (take i s) u) d))

-- header, set of leavers and sections, one behind the other, are what is written of the book in the tables
pub saved : (h : Head) (t : Tables) (buffer b₀ b₁ b₂ b₃ b₄ b₅ : List ℕ) (z a b c d e : ℕ) → Savable h t buffer → TableBytes t → Cuts newest h z a b c d → e ≡ start newest h 5
    → b₀ ≡ stored 0 (front h) buffer
    → b₁ ≡ stored z (take (a - z) t.inner_vertices) b₀
    → b₂ ≡ stored a (take (b - a) t.inner_tokens) b₁
    → b₃ ≡ stored b (take (c - b) t.outer_vertices) b₂
    → b₄ ≡ stored c (take (d - c) t.outer_tokens) b₃
    → b₅ ≡ stored d (take (e - d) t.resources) b₄
    → b₅ ≡ stored 0 (write (book_in h t)) buffer
unfolding write head_of
saved h t buffer b₀ b₁ b₂ b₃ b₄ b₅ z a b c d e p byte at end e₀ e₁ e₂ e₃ e₄ e₅ =
    let r = p.room in
    let (l₁, p₁) = behind z a _ (front h) t.inner_vertices buffer b₀ b₁ at.inner_vertices (length_front h ∙ sym at.front') (omega arith) r.inner_vertices e₀ e₁ in
    let (l₂, p₂) = behind a b _ _ t.inner_tokens buffer b₁ b₂ at.inner_tokens l₁ (omega arith) r.inner_tokens p₁ e₂ in
    let (l₃, p₃) = behind b c _ _ t.outer_vertices buffer b₂ b₃ at.outer_vertices l₂ (omega arith) r.outer_vertices p₂ e₃ in
    let (l₄, p₄) = behind c d _ _ t.outer_tokens buffer b₃ b₄ at.outer_tokens l₃ (omega arith) r.outer_tokens p₃ e₄ in
    let (l₅, p₅) = behind d e _ _ t.resources buffer b₄ b₅ (end ∙ at.resources) l₄ (omega arith) r.resources p₄ e₅ in
    p₅ ∙ sym (ap₂ (λ (k : Head) (ps : List (List ℕ)). stored 0 (joint k ps) buffer) (head-in h t) (sections-in h t r byte))
  where
    joint : Head → List (List ℕ) → List ℕ
    joint k ps = front k ++ get_or ps 0 [] ++ get_or ps 1 [] ++ get_or ps 2 [] ++ get_or ps 3 [] ++ get_or ps 4 []
