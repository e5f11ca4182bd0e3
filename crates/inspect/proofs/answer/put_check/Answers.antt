-- `inspect::answer::put_check` meets its contract. Assumes nothing.
use Rattle.inspect.proofs.CheckLaws.{headed, check-short, check_sound, check-broken}
use Rattle.book.proofs.Answers.{book-nothing, book-front}
use native.Mathlib.Omega.{arith}
use borrow.Author.Rules.{rules}
use Rattle.inspect.proofs.answer.put_check.Goals as goal

pub returns-then-front-lt-HEADER : goal.returns-then-front-lt-HEADER
returns-then-front-lt-HEADER c = λ came f. rw (check-short f (omega arith)) c.put_short.ensures

pub head_in-requires : goal.head_in-requires
head_in-requires c = book-front _ (book-nothing _ c.first_fault.ensures c.in-Ok.is)

pub put_broken-requires : goal.put_broken-requires
put_broken-requires c =
    record {
      in_bounds = search rules;
      headed = rw c.grow.ensures (headed c.args.total c.in-Err.f (omega arith));
    }

pub returns-in-Ok : goal.returns-in-Ok
returns-in-Ok c = λ came f.
    rw (check_sound f c.first_fault.ensures c.in-Ok.is) (rw c.head_in.ensures at c.put_head.ensures)

pub returns-in-Err : goal.returns-in-Err
returns-in-Err c =
    λ came f.
    rw (check-broken f c.first_fault.ensures _ c.in-Err.is c.version_in.ensures c.header_in-h.ensures c.grow.ensures)
    c.put_broken.ensures
