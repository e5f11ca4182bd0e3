-- What the turns print is what the program's definition prints for all that they read (`program-by-turns`).
-- Assumes nothing.
use Prim.Native.Nat.{ℕ}
use mathlib.Core.Path.{◌≡◌, refl, sym, ap, ap₂, subst, ◌∙◌}
use mathlib.Core.Bool.{Bool, true, true≢false}
use mathlib.Core.List.{List, [], ◌++◌, append_assoc, append-nil}
use lib.ListN.{take, drop}
use Rattle.rules.specs.Book.{Book}
use Rattle.lines.specs.Program.{lines_in, closed, span, answers, program}
use Rattle.lines.proofs.ProgramLaws.{closed-taken, answers-append}
use Rattle.desk.proofs.PendingLaws.{kept-answers, read-closed}
use Rattle.desk.specs.Input.{Comes}
use Rattle.desk.specs.Turn.{Desk, still, Begins, Follows, stays, reads, Turned, Finished, Run, rests, turns}

-- ---- one turn

follows_same : {ended ended' : Bool} {left came after : List ℕ} → Follows ended left came ended' after → (more : List ℕ) → Comes ended' more → (b : Book)
    → answers (lines_in (closed (left ++ (came ++ more)))) b ≡ answers (lines_in (closed (after ++ more))) b
follows_same {ended} {ended'} {left} {came} {after} (stays c e w) more h b =
    ap₂ (λ (x y : List ℕ). answers (lines_in (closed (y ++ (x ++ more)))) b) c (sym w)
follows_same {ended} {ended'} {left} {came} {after} (reads f n c w) more h b =
    kept-answers left n (came ++ more) b ∙ ap (λ (x : List ℕ). answers (lines_in x) b) (read-closed left came after more ended' h c w)

pub turned-still : (d e : Desk) (t : Turned d e) (more : List ℕ) → Comes e.ended more → still d (t.came ++ more) ≡ t.gone ++ still e more
unfolding still
turned-still d e t more h =
    let ls : List (List ℕ) = take t.lines (lines_in d.input) in
    let left : List ℕ = drop (span ls) d.input in
    let others : List ℕ = answers (lines_in (closed (e.input ++ more))) e.book in
    ap (λ (x : List (List ℕ)). d.held ++ answers x d.book) (closed-taken t.lines d.input (t.came ++ more))
    ∙ (ap (λ (x : List ℕ). d.held ++ x) (answers-append ls (lines_in (closed (left ++ (t.came ++ more)))) d.book)
    ∙ (ap₂ (λ (x : Book) (y : List ℕ). d.held ++ (answers ls d.book ++ y)) t.book≡
    (ap (λ (x : Book). answers (lines_in (closed (left ++ (t.came ++ more)))) x) (sym t.book≡) ∙ follows_same t.rest more h e.book)
    ∙ (sym (append_assoc d.held (answers ls d.book) others)
    ∙ (ap (λ (x : List ℕ). x ++ others) (sym t.text) ∙ append_assoc t.gone e.held others))))

-- ---- all turns

turned-ended : (d e : Desk) (t : Turned d e) → d.ended ≡ true → (t.came ≡ []) × (e.ended ≡ true)
turned-ended d e t h = go t.rest
  where
    go : {left : List ℕ} → Follows d.ended left t.came e.ended e.input → (t.came ≡ []) × (e.ended ≡ true)
    go (stays c f w) = (c, f ∙ h)
    go (reads f n c w) = absurd (true≢false (sym h ∙ f))

pub run-ended : {d f : Desk} {came gone : List ℕ} → Run d came gone f → d.ended ≡ true → (came ≡ []) × (f.ended ≡ true)
run-ended rests h = (refl, h)
run-ended (turns {d} {e} {f} {came} {gone} t r) h =
    let (c, g) = turned-ended d e t h in
    let (k, n) = run-ended r g in
    (ap₂ (λ (x y : List ℕ). x ++ y) c k, n)

-- one turn more
pub run-then : {d e f : Desk} {came gone : List ℕ} → Run d came gone e → (t : Turned e f) → Run d (came ++ t.came) (gone ++ t.gone) f
run-then {d} {e} {f} rests t =
    subst (λ (x : List ℕ). Run e x t.gone f) (append-nil t.came) (subst (λ (x : List ℕ). Run e (t.came ++ []) x f) (append-nil t.gone) (turns t rests))
run-then {d} {e} {f} (turns {came = came} {gone = gone} u r) t =
    subst (λ (x : List ℕ). Run d x ((u.gone ++ gone) ++ t.gone) f) (sym (append_assoc u.came came t.came))
    (subst (λ (x : List ℕ). Run d (u.came ++ (came ++ t.came)) x f) (sym (append_assoc u.gone gone t.gone)) (turns u (run-then r t)))

-- nothing of all this depends on what comes later
pub run-still : {d f : Desk} {came gone : List ℕ} → Run d came gone f → (more : List ℕ) → Comes f.ended more → still d (came ++ more) ≡ gone ++ still f more
run-still rests more h = refl
run-still (turns {d} {e} {f} {came} {gone} t r) more h =
    let later : Comes e.ended (came ++ more) = λ g. let (k, n) = run-ended r g in ap₂ (λ (x y : List ℕ). x ++ y) k (h n) in
    ap (still d) (append_assoc t.came came more)
    ∙ (turned-still d e t (came ++ more) later ∙ (ap (λ (x : List ℕ). t.gone ++ x) (run-still r more h) ∙ sym (append_assoc t.gone gone (still f more))))

finished-still : (f : Desk) → Finished f → still f [] ≡ []
unfolding still lines_in closed answers
finished-still f n = rw (n.held, n.input)

-- the turns from there to the end of the input
pub program-by-turns : {first came gone : List ℕ} {d f : Desk} → Begins first d → Run d came gone f → Finished f → gone ≡ program (first ++ came)
program-by-turns {first} {came} {gone} {d} {f} b r n =
    sym
    (b.same came (λ h. (run-ended r h).0)
    ∙ (ap (still d) (sym (append-nil came)) ∙ (run-still r [] (λ h. refl) ∙ (ap (λ (x : List ℕ). gone ++ x) (finished-still f n) ∙ append-nil gone))))
