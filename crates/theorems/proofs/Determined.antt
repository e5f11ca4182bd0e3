-- Two results that a contract allows are equal. Every public contract is one equation: on the left the answer and what was lent, at exit, in one record; on the
-- right a definition of the arguments and of what was lent, at entry (crates/rules/specs/Calls.antt).
-- Assumes nothing.
use Rattle.std.specs.Prelude.{Result}
use Prim.Native.Nat.{ℕ}
use mathlib.Core.Path.{◌≡◌, sym, ap, ◌∙◌}
use mathlib.Core.List.{List}
use Rattle.rules.specs.Bytes.{Tables, tables}
use Rattle.rules.specs.Refusals.{Request}
use Rattle.rules.specs.Calls.{Change, changing, change, Shown, showing, open_call, Part, part, section_call, Load, loading, read_call, Write, writing, write_call, Service, serving, serve_call}
use Rattle.rules.specs.declared.Applied.{Applied}
use Rattle.rules.specs.declared.Chains.{Chains}
use Rattle.rules.specs.declared.Denial.{Denial}
use Rattle.rules.specs.declared.Refusal.{Refusal}
use Rattle.rules.specs.declared.Served.{Served}
use Rattle.rules.specs.declared.Head.{Head}

-- two values that equal a third are equal, and so is each field of them
pub determined : {A B : Type 0} {d x y : A} (field : A → B) → x ≡ d → y ≡ d → field x ≡ field y
determined field h k = ap field (h ∙ sym k)

-- a plain answer, as that of `view`, `sound::check` and `book::first_fault`
pub answer-determined : {A : Type 0} {d a a' : A} → a ≡ d → a' ≡ d → a ≡ a'
answer-determined e f = determined (λ x. x) e f

-- equal tables: each of the five lists lent
pub each-table : {iv it ov ot rs iv' it' ov' ot' rs' : List ℕ} → tables iv it ov ot rs ≡ tables iv' it' ov' ot' rs'
    → (iv ≡ iv') × (it ≡ it') × (ov ≡ ov') × (ot ≡ ot') × (rs ≡ rs')
each-table e =
    (ap (λ (t : Tables). t.inner_vertices) e, ap (λ (t : Tables). t.inner_tokens) e, ap (λ (t : Tables). t.outer_vertices) e, ap (λ (t : Tables). t.outer_tokens) e, ap (λ (t : Tables). t.resources) e)

-- join, insert, grant, revoke, leave: answer, tables, order list
pub change-determined : (q : Request) (h : Head) (t : Tables) (list : List ℕ) {a a' : (Result Applied Refusal)} {s s' : Tables} {os os' : List ℕ}
    → changing a s os ≡ change q h t list → changing a' s' os' ≡ change q h t list
    → (a ≡ a') × (s ≡ s') × (os ≡ os')
change-determined q h t list e f =
    (determined (λ (c : Change). c.answer) e f, determined (λ (c : Change). c.tables) e f, determined (λ (c : Change). c.orders) e f)

-- open: answer, list
pub open-determined : (u r : ℕ) (h : Head) (t : Tables) (list : List ℕ) {a a' : (Result Chains Refusal)} {l l' : List ℕ}
    → showing a l ≡ open_call u r h t list → showing a' l' ≡ open_call u r h t list
    → (a ≡ a') × (l ≡ l')
open-determined u r h t list e f = (determined (λ (c : Shown). c.answer) e f, determined (λ (c : Shown). c.list) e f)

-- section: the stretch's bytes, both cells
pub section-determined : (bs : List ℕ) (k : ℕ) {s s' : List ℕ} {n n' at at' : ℕ}
    → part s n at ≡ section_call bs k → part s' n' at' ≡ section_call bs k
    → (s ≡ s') × (n ≡ n') × (at ≡ at')
section-determined bs k e f = (determined (λ (c : Part). c.stretch) e f, determined (λ (c : Part). c.cell) e f, determined (λ (c : Part). c.place) e f)

-- read: answer, tables
pub read-determined : (bs : List ℕ) (t : Tables) {a a' : (Result Head Denial)} {s s' : Tables}
    → loading a s ≡ read_call bs t → loading a' s' ≡ read_call bs t
    → (a ≡ a') × (s ≡ s')
read-determined bs t e f = (determined (λ (c : Load). c.answer) e f, determined (λ (c : Load). c.tables) e f)

-- write: answer, buffer
pub write-determined : (h : Head) (t : Tables) (buffer : List ℕ) {a a' : (Result ℕ Refusal)} {l l' : List ℕ}
    → writing a l ≡ write_call h t buffer → writing a' l' ≡ write_call h t buffer
    → (a ≡ a') × (l ≡ l')
write-determined h t buffer e f = (determined (λ (c : Write). c.answer) e f, determined (λ (c : Write). c.buffer) e f)

-- serve: answer, tables, answer rows, order list
pub serve-determined : (requests : List ℕ) (h : Head) (t : Tables) (answers list : List ℕ) {a a' : (Result Served Refusal)} {s s' : Tables} {rows rows' os os' : List ℕ}
    → serving a s rows os ≡ serve_call requests h t answers list → serving a' s' rows' os' ≡ serve_call requests h t answers list
    → (a ≡ a') × (s ≡ s') × (rows ≡ rows') × (os ≡ os')
serve-determined requests h t answers list e f =
    (determined (λ (c : Service). c.answer) e f, determined (λ (c : Service). c.tables) e f, determined (λ (c : Service). c.answers) e f, determined (λ (c : Service). c.orders) e f)
