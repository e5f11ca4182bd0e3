-- `lines::request::users_of` meets its contract. The invariant: the users are those gathered and those still to come. Assumes nothing.
use Rattle.std.proofs.Common.{◌≤◌, length, sym, ◌∙◌, arith}
use lib.Bits.{or_zero_r}
use lib.ListN.{drop_of_length-le}
use Rattle.sets.specs.Words.{set_in}
use Rattle.lines.specs.Request.{users}
use Rattle.lines.proofs.Passed.{users-more, users-other}
use Rattle.lines.proofs.request.users_of.Goals as goal
use Rattle.lines.proofs.request.users_of.Goals.{then-n-lt-LIMIT, else-n-lt-LIMIT}

pub loop-n-preserved : goal.loop-n-preserved
loop-n-preserved c =
    let l = c.loop-n in
    l.invariant
    ∙ elim c.if-n-lt-LIMIT.branch [
      | then-n-lt-LIMIT w ↦ rw (w.users-is, w.with-users.ensures) (users-more c.args.numbers.now l.n-index (set_in l.users) (omega arith) w.if-n-lt-LIMIT.true)
      | else-n-lt-LIMIT w ↦ rw w.users-is (users-other c.args.numbers.now l.n-index (set_in l.users) (omega arith) w.if-n-lt-LIMIT.false)
    ]

pub returns : goal.returns
unfolding users
returns c =
    let l = c.loop-n in
    let n : length c.args.numbers.now ≤ l.n-index = omega arith in
    c.from.ensures ∙ sym (l.invariant ∙ rw (drop_of_length-le c.args.numbers.now n) (or_zero_r (set_in l.users)))
