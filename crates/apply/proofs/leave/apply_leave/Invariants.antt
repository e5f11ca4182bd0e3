use Rattle.rules.specs.Bytes.{tables, book_in}
use Rattle.theorems.proofs.LeaveLaws.{leave_to}
use Rattle.apply.specs.Apply.{Works}
use Rattle.apply.specs.Work.{step_of, held, SameWork}
use Rattle.apply.proofs.leave.apply_leave.Given as goal

-- after r resources the work done is that of the revokes among them
abbrev pub invariant-loop-r : goal.invariant-loop-r
invariant-loop-r l =
    let t = tables l.fn.inner_vertices l.fn.inner_tokens l.fn.outer_vertices l.fn.outer_tokens l.fn.resources in
    record {
      same : SameWork l.initial.w l.w;
      works : Works (leave_to l.u.0 (book_in l.fn.h t) l.r) l.fn.h t l.fn.orders 0 (step_of l.w) (held l.fn.inner_vertices l.fn.inner_tokens l.w) l.w.orders.now;
    }
