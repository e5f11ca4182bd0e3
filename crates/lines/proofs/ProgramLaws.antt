-- In what parts the input comes does not matter to the request program: its lines are taken one after the other, and answered one after the other.
-- Assumes nothing.
use Prim.Native.Nat.{ℕ, zero, suc, ◌+◌, ◌<◌}
use mathlib.Core.Path.{◌≡◌, refl, sym, ap, subst, ◌∙◌}
use mathlib.Core.Bool.{Bool, true, false, cond}
use mathlib.Core.List.{List, [], ◌∷◌, ◌++◌, map, append_assoc, append-nil}
use native.Mathlib.Omega.{arith}
use lib.Dec.{eqb, leb}
use lib.ListN.{length, take, drop, get_or, length-append}
use lib.Seq.{drop-drop, drop_at}
use borrow.Author.Tests.{eqb-true, lt-leb}
use Rattle.std.specs.Prelude.{Option, Some, None}
use Rattle.rules.specs.Book.{Book}
use Rattle.rules.specs.Lists.{every, first}
use Rattle.lines.specs.Text.{bytes}
use Rattle.lines.specs.Request.{longer, pieces, is_number, value, twice, users, above, asking, insert_of, exactly, row_of, asks_for, request_of, kind_of, line_asks, modes, mode_of, first_line}
use Rattle.lines.specs.Program.{newline, lines_in, closed, span, Told, line_told, no14, answers, leaves, answered, started}
use Rattle.lines.specs.declared.request.Asked.{Asked}
use Rattle.lines.proofs.Passed.{same-lengths}

no-cons : {A : Type 0} {x : A} {xs : List A} → x ∷ xs ≡ [] → ⊥
no-cons e = let z : ◌≡◌ {A = ℕ} 0 1 = cc in omega arith

-- ---- the last line's newline

pub closed-append : (x : List ℕ) (c : ℕ) (cs : List ℕ) → closed (x ++ (c ∷ cs)) ≡ x ++ closed (c ∷ cs)
unfolding closed
closed-append [] c cs = refl
closed-append (a ∷ []) c cs = refl
closed-append (a ∷ d ∷ x) c cs = ap (λ (y : List ℕ). a ∷ y) (closed-append (d ∷ x) c cs)

-- behind a newline
pub closed-behind : (x z : List ℕ) → closed (x ++ (10 ∷ z)) ≡ x ++ (10 ∷ closed z)
unfolding closed
closed-behind x z = closed-append x 10 z ∙ ap (λ (y : List ℕ). x ++ y) (here z)
  where
    here : (z : List ℕ) → closed (10 ∷ z) ≡ 10 ∷ closed z
    here [] = refl
    here (c ∷ cs) = refl

-- a text without a newline
pub closed-unfinished : (c : ℕ) (cs : List ℕ) → lines_in (c ∷ cs) ≡ [] → closed (c ∷ cs) ≡ (c ∷ cs) ++ (10 ∷ [])
unfolding closed lines_in longer
closed-unfinished c [] e = go (newline c) e
  where
    go : (z : Bool) → cond {A = List (List ℕ)} z ([] ∷ []) [] ≡ [] → cond z (c ∷ []) (c ∷ 10 ∷ []) ≡ c ∷ 10 ∷ []
    go true e = absurd (no-cons e)
    go false e = refl
closed-unfinished c (d ∷ cs) e = ap (λ (y : List ℕ). c ∷ y) (closed-unfinished d cs (go (newline c) (lines_in (d ∷ cs)) e))
  where
    go : (z : Bool) (ls : List (List ℕ)) → cond z ([] ∷ ls) (longer c ls) ≡ [] → ls ≡ []
    go true ls e = absurd (no-cons e)
    go false [] e = refl
    go false (l ∷ ls) e = absurd (no-cons e)

closed-starts : (c : ℕ) (cs : List ℕ) → closed (c ∷ cs) ≡ c ∷ drop 1 (closed (c ∷ cs))
unfolding closed
closed-starts c [] = go (newline c)
  where
    go : (z : Bool) → cond z (c ∷ []) (c ∷ 10 ∷ []) ≡ c ∷ drop 1 (cond z (c ∷ []) (c ∷ 10 ∷ []))
    go true = refl
    go false = refl
closed-starts c (d ∷ cs) = refl

pub closed-twice : (x : List ℕ) → closed (closed x) ≡ closed x
unfolding closed
closed-twice [] = refl
closed-twice (c ∷ []) = go (newline c) refl
  where
    go : (z : Bool) → newline c ≡ z → closed (cond z (c ∷ []) (c ∷ 10 ∷ [])) ≡ cond z (c ∷ []) (c ∷ 10 ∷ [])
    go true e = rw e
    go false e = refl
closed-twice (c ∷ d ∷ cs) =
    ap (λ (y : List ℕ). closed (c ∷ y)) (closed-starts d cs)
    ∙ (ap (λ (y : List ℕ). c ∷ closed y) (sym (closed-starts d cs)) ∙ ap (λ (y : List ℕ). c ∷ y) (closed-twice (d ∷ cs)))

-- ---- the next line, and what follows it

pub record Split (x l : List ℕ) (ls : List (List ℕ)) : Type 0 where
  pub rest : List ℕ
  pub text : x ≡ l ++ (10 ∷ rest)
  pub follow : lines_in rest ≡ ls
  pub whole : (z : List ℕ) → lines_in (l ++ (10 ∷ z)) ≡ l ∷ lines_in z

pub line-split : (x l : List ℕ) (ls : List (List ℕ)) → lines_in x ≡ l ∷ ls → Split x l ls
unfolding lines_in longer
line-split [] l ls e = absurd (no-cons (sym e))
line-split (c ∷ cs) l ls e = go (newline c) refl (lines_in cs) refl (λ m. line-split cs m ls) e
  where
    -- a byte that is no newline, in front of a line
    longer-split : (m : List ℕ) → newline c ≡ false → Split cs m ls → Split (c ∷ cs) (c ∷ m) ls
    longer-split m n s =
        record {
          rest = s.rest;
          text = ap (λ (y : List ℕ). c ∷ y) s.text;
          follow = s.follow;
          whole = λ z. rw (n, s.whole z);
        }

    go : (z : Bool) → newline c ≡ z → (ms : List (List ℕ)) → lines_in cs ≡ ms → ((m : List ℕ) → lines_in cs ≡ m ∷ ls → Split cs m ls)
        → cond z ([] ∷ ms) (longer c ms) ≡ l ∷ ls → Split (c ∷ cs) l ls
    go true n ms f r e =
        let here : l ≡ [] = cc in
        let byte : c ≡ 10 = eqb-true c 10 n in
        let follows : ms ≡ ls = cc in
        record { rest = cs; text = rw (here, byte); follow = f ∙ follows; whole = λ z. rw here }
    go false n [] f r e = absurd (no-cons (sym e))
    go false n (m ∷ ms) f r e =
        let here : c ∷ m ≡ l = cc in
        let follows : ms ≡ ls = cc in
        subst (λ (y : List ℕ). Split (c ∷ cs) y ls) here (longer-split m n (r m (f ∙ ap (λ (y : List (List ℕ)). m ∷ y) follows)))

behind-line : (l rest : List ℕ) → drop (length l + 1) (l ++ (10 ∷ rest)) ≡ rest
behind-line l rest =
    ap (λ (y : List ℕ). drop (length l + 1) y) (sym (append_assoc l (10 ∷ []) rest))
    ∙ drop_at (l ++ (10 ∷ [])) rest (length l + 1) (simp length-append (omega arith))

-- whatever follows: the first lines are the same, and the others are those of what is left
module _ (lines_of : List ℕ → List (List ℕ)) (next : (x l : List ℕ) (ls : List (List ℕ)) → Split x l ls → (z : List ℕ) → lines_of (l ++ (10 ∷ z)) ≡ l ∷ lines_of z) (more : List ℕ) where
  taken-by : (k : ℕ) (x : List ℕ) → lines_of (x ++ more) ≡ take k (lines_in x) ++ lines_of (drop (span (take k (lines_in x))) x ++ more)
  unfolding span
  taken-by zero x = refl
  taken-by (suc k) x = go (lines_in x) refl (taken-by k)
    where
      go : (ms : List (List ℕ)) → lines_in x ≡ ms
          → ((y : List ℕ) → lines_of (y ++ more) ≡ take k (lines_in y) ++ lines_of (drop (span (take k (lines_in y))) y ++ more))
          → lines_of (x ++ more) ≡ take (suc k) ms ++ lines_of (drop (span (take (suc k) ms)) x ++ more)
      go [] e r = refl
      go (l ∷ ls) e r =
          let s : Split x l ls = line-split x l ls e in
          let n : ℕ = span (take k ls) in
          let left : drop n s.rest ≡ drop (length l + 1 + n) x =
          ap (λ (y : List ℕ). drop n y) (sym (ap (λ (y : List ℕ). drop (length l + 1) y) s.text ∙ behind-line l s.rest)) ∙ drop-drop n (length l + 1) x in
          ap (λ (y : List ℕ). lines_of (y ++ more)) s.text
          ∙ (ap lines_of (append_assoc l (10 ∷ s.rest) more)
          ∙ (next x l ls s (s.rest ++ more)
          ∙ ap (λ (y : List (List ℕ)). l ∷ y)
          (r s.rest
          ∙ (ap (λ (y : List (List ℕ)). take k y ++ lines_of (drop (span (take k y)) s.rest ++ more)) s.follow
          ∙ ap (λ (y : List ℕ). take k ls ++ lines_of (y ++ more)) left))))

pub lines-taken : (k : ℕ) (x more : List ℕ) → lines_in (x ++ more) ≡ take k (lines_in x) ++ lines_in (drop (span (take k (lines_in x))) x ++ more)
lines-taken k x more = taken-by lines_in (λ x l ls s z. s.whole z) more k x

pub closed-taken : (k : ℕ) (x more : List ℕ)
    → lines_in (closed (x ++ more)) ≡ take k (lines_in x) ++ lines_in (closed (drop (span (take k (lines_in x))) x ++ more))
closed-taken k x more = taken-by (λ y. lines_in (closed y)) (λ x l ls s z. ap lines_in (closed-behind l z) ∙ s.whole (closed z)) more k x

-- behind whole lines, only the last line's newline may be lacking
pub closed-left : (k : ℕ) (x : List ℕ) → drop (span (take k (lines_in x))) (closed x) ≡ closed (drop (span (take k (lines_in x))) x)
unfolding span
closed-left zero x = refl
closed-left (suc k) x = go (lines_in x) refl (closed-left k)
  where
    go : (ms : List (List ℕ)) → lines_in x ≡ ms → ((y : List ℕ) → drop (span (take k (lines_in y))) (closed y) ≡ closed (drop (span (take k (lines_in y))) y))
        → drop (span (take (suc k) ms)) (closed x) ≡ closed (drop (span (take (suc k) ms)) x)
    go [] e r = refl
    go (l ∷ ls) e r =
        let s : Split x l ls = line-split x l ls e in
        let n : ℕ = span (take k ls) in
        let here : closed x ≡ l ++ (10 ∷ closed s.rest) = ap closed s.text ∙ closed-behind l s.rest in
        let left : drop (length l + 1 + n) x ≡ drop n s.rest =
        sym (drop-drop n (length l + 1) x) ∙ ap (λ (y : List ℕ). drop n y) (ap (λ (y : List ℕ). drop (length l + 1) y) s.text ∙ behind-line l s.rest) in
        sym (drop-drop n (length l + 1) (closed x))
        ∙ (ap (λ (y : List ℕ). drop n (drop (length l + 1) y)) here
        ∙ (ap (λ (y : List ℕ). drop n y) (behind-line l (closed s.rest))
        ∙ (ap (λ (y : List (List ℕ)). drop (span (take k y)) (closed s.rest)) (sym s.follow)
        ∙ (r s.rest ∙ (ap (λ (y : List (List ℕ)). closed (drop (span (take k y)) s.rest)) s.follow ∙ ap closed (sym left))))))

-- ---- answers

pub answers-append : (ls ms : List (List ℕ)) (b : Book) → answers (ls ++ ms) b ≡ answers ls b ++ answers ms (leaves ls b)
unfolding answers leaves
answers-append [] ms b = refl
answers-append (l ∷ ls) ms b =
    let t : Told = line_told (line_asks l) b in
    ap (λ (y : List ℕ). t.text ++ y) (answers-append ls ms t.book) ∙ sym (append_assoc t.text (answers ls t.book) (answers ms (leaves ls t.book)))

pub leaves-append : (ls ms : List (List ℕ)) (b : Book) → leaves (ls ++ ms) b ≡ leaves ms (leaves ls b)
unfolding leaves
leaves-append [] ms b = refl
leaves-append (l ∷ ls) ms b = leaves-append ls ms (line_told (line_asks l) b).book

-- ---- the start of a line that is too long

-- a line's start, in front of what follows
abbrev pub behind : List ℕ → List (List ℕ) → List (List ℕ)
behind w [] = []
behind w (l ∷ ls) = (w ++ l) ∷ ls

pub start-lines : (w y : List ℕ) → lines_in w ≡ [] → lines_in (w ++ y) ≡ behind w (lines_in y)
unfolding lines_in longer
start-lines [] y e = go (lines_in y)
  where
    go : (ls : List (List ℕ)) → ls ≡ behind [] ls
    go [] = refl
    go (l ∷ ls) = refl
start-lines (c ∷ cs) y e = go (newline c) (lines_in cs) refl e (start-lines cs y)
  where
    more : (ls : List (List ℕ)) → longer c (behind cs ls) ≡ behind (c ∷ cs) ls
    more [] = refl
    more (l ∷ ls) = refl

    go : (z : Bool) (ms : List (List ℕ)) → lines_in cs ≡ ms → cond z ([] ∷ ms) (longer c ms) ≡ [] → (lines_in cs ≡ [] → lines_in (cs ++ y) ≡ behind cs (lines_in y))
        → cond z ([] ∷ lines_in (cs ++ y)) (longer c (lines_in (cs ++ y))) ≡ behind (c ∷ cs) (lines_in y)
    go true ms f e r = absurd (no-cons e)
    go false [] f e r = ap (longer c) (r f) ∙ more (lines_in y)
    go false (m ∷ ms) f e r = absurd (no-cons e)

-- what follows it: at the input's end its newline
abbrev pub follows : List ℕ → List ℕ
follows [] = 10 ∷ []
follows (c ∷ cs) = closed (c ∷ cs)

pub start-closed : (w z : List ℕ) → 0 < length w → lines_in w ≡ [] → closed (w ++ z) ≡ w ++ follows z
start-closed [] z h e = absurd (omega arith)
start-closed (a ∷ w) [] h e = ap closed (append-nil (a ∷ w)) ∙ closed-unfinished a w e
start-closed (a ∷ w) (c ∷ cs) h e = closed-append (a ∷ w) c cs

-- such a line is malformed, whatever its bytes are
pub long-asks : (l : List ℕ) → 512 < length l → line_asks l ≡ None
unfolding line_asks
long-asks l h = rw (lt-leb (length l) 512 h)

long-mode : (l : List ℕ) → 512 < length l → first_line l ≡ None
unfolding first_line mode_of first modes
long-mode l h = rw (same-lengths l (bytes "full") (λ e. omega arith), same-lengths l (bytes "delta") (λ e. omega arith))

unfoldable pub cut_answers : List (List ℕ) → Book → List ℕ
cut_answers [] b = []
cut_answers (l ∷ ls) b = no14 ++ answers ls b

module _ (w z : List ℕ) (h : 512 < length w) (e : lines_in w ≡ []) where
  long-lines : lines_in (closed (w ++ z)) ≡ behind w (lines_in (follows z))
  long-lines = ap lines_in (start-closed w z (omega arith) e) ∙ start-lines w (follows z) e

  pub long-start : (b : Book) → answers (lines_in (closed (w ++ z))) b ≡ cut_answers (lines_in (follows z)) b
  unfolding answers cut_answers line_told
  long-start b = ap (λ (ls : List (List ℕ)). answers ls b) long-lines ∙ go (lines_in (follows z))
    where
      go : (ls : List (List ℕ)) → answers (behind w ls) b ≡ cut_answers ls b
      go [] = refl
      go (l ∷ ls) = rw (long-asks (w ++ l) (omega (arith, length-append w l)))

  pub long-first : answered (lines_in (closed (w ++ z))) ≡ no14
  unfolding answered started
  long-first = ap answered long-lines ∙ go (lines_in (follows z))
    where
      go : (ls : List (List ℕ)) → answered (behind w ls) ≡ no14
      go [] = refl
      go (l ∷ ls) = rw (long-mode (w ++ l) (omega (arith, length-append w l)))

-- ---- the request that a line asks is one of six

abbrev pub Kind : Option Asked → Type 0
Kind (Some q) = q.kind < 6
Kind None = Unit {0}

exactly-kind : (n k : ℕ) (ns : List ℕ) → k < 6 → Kind (exactly n k ns)
unfolding exactly
exactly-kind n k ns h = go (eqb (length ns) n)
  where
    go : (z : Bool) → Kind (cond z (asking k (get_or ns 0 0) (get_or ns 1 0)) None)
    go true = h
    go false = tt

row-kind : (k : ℕ) (ns : List ℕ) → Kind (row_of k ns)
unfolding row_of insert_of
row-kind zero ns = exactly-kind 0 0 ns (omega arith)
row-kind (suc zero) ns = go (twice ns)
  where
    go : (z : Bool) → Kind (cond z None (asking 1 (users ns) (above ns)))
    go true = tt
    go false = omega arith
row-kind (suc (suc zero)) ns = exactly-kind 2 2 ns (omega arith)
row-kind (suc (suc (suc zero))) ns = exactly-kind 2 3 ns (omega arith)
row-kind (suc (suc (suc (suc zero)))) ns = exactly-kind 2 4 ns (omega arith)
row-kind (suc (suc (suc (suc (suc zero))))) ns = exactly-kind 1 5 ns (omega arith)
row-kind (suc (suc (suc (suc (suc (suc k)))))) ns = tt

pub asks-kind : (l : List ℕ) → Kind (line_asks l)
unfolding line_asks request_of asks_for
asks-kind l = short (leb (length l) 512)
  where
    numbers : (z : Bool) (k : ℕ) (ps : List (List ℕ)) → Kind (cond z (row_of k (map value ps)) None)
    numbers true k ps = row-kind k (map value ps)
    numbers false k ps = tt

    words : (ps : List (List ℕ)) → Kind (request_of ps)
    words [] = tt
    words (w ∷ ps) = numbers (every is_number ps) (kind_of w) ps

    short : (z : Bool) → Kind (cond z (request_of (pieces l)) None)
    short true = words (pieces l)
    short false = tt
