-- A request at work, as the definitions on heads and tables see it.
-- Assumes nothing.
use Rattle.std.specs.Prelude.{ℕ, ◌≡◌, List, length}
use Rattle.rules.specs.Book.{Book}
use Rattle.rules.specs.Requests.{Done}
use Rattle.rules.specs.Bytes.{Tables, tables, book_in}
use Rattle.apply.specs.Apply.{Step, Works}
use Rattle.apply.specs.declared.step.Work.{Work}

-- how far it is
abbrev pub step_of : Work → Step
step_of w = record { head = w.head; at = w.at }

-- what the tables hold where the inner layer's hold iv and it, and the book in them
abbrev pub held : List ℕ → List ℕ → Work → Tables
held iv it w = tables iv it w.outer_vertices.now w.outer_tokens.now w.resources.now

abbrev pub book_at : List ℕ → List ℕ → Work → Book
book_at iv it w = book_in w.head (held iv it w)

-- from v to w the work f of the book was done, whatever the inner layer's tables hold
abbrev pub Does : (Book → Done) → Work → Work → Type 0
Does f v w = (iv it : List ℕ) → Works (f (book_at iv it v)) v.head (held iv it v) v.orders.now v.at (step_of w) (held iv it w) w.orders.now

-- the very same tables and list, each as long as it was
pub record SameWork (v w : Work) : Type 0 where
  pub outer_vertices : w.outer_vertices.ghost_name ≡ v.outer_vertices.ghost_name
  pub outer_tokens : w.outer_tokens.ghost_name ≡ v.outer_tokens.ghost_name
  pub resources : w.resources.ghost_name ≡ v.resources.ghost_name
  pub orders : w.orders.ghost_name ≡ v.orders.ghost_name
  pub outer_vertices_length : length w.outer_vertices.now ≡ length v.outer_vertices.now
  pub outer_tokens_length : length w.outer_tokens.now ≡ length v.outer_tokens.now
  pub resources_length : length w.resources.now ≡ length v.resources.now
  pub orders_length : length w.orders.now ≡ length v.orders.now

-- the outer layer's tables hold what they held
pub record SameOuter (v w : Work) : Type 0 where
  pub vertices : w.outer_vertices.now ≡ v.outer_vertices.now
  pub tokens : w.outer_tokens.now ≡ v.outer_tokens.now
