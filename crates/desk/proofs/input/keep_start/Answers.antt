-- `desk::input::keep_start` meets its contract. Assumes nothing.
use Rattle.std.proofs.Common.{refl}
use borrow.Author.Tests.{lt-ltb, le-ltb}
use Rattle.desk.proofs.LineLaws.{long-cut, long-by, keeps-none, keeps-all, to-front}
use Rattle.desk.proofs.input.keep_start.Goals as goal
use Rattle.desk.proofs.input.keep_start.Goals.{then-u-via-then-u, then-u-via-else-u+then-n-gt-LONGEST}

pub returns-then-u-clause-keeps : goal.returns-then-u-clause-keeps
returns-then-u-clause-keeps c =
    let u = c.args.u in
    keeps-none u c.args.input.now (elim c.then-u.branch [
      | then-u-via-then-u w ↦ long-cut u w.if-u.true
      | then-u-via-else-u+then-n-gt-LONGEST w ↦ long-by u w.if-u.false (lt-ltb _ _ w.if-n-gt-LONGEST.true)
    ]) c.args.input.now

pub returns-clause-keeps : goal.returns-clause-keeps
returns-clause-keeps c =
    let u = c.args.u in
    let input = c.args.input.now in
    keeps-all u input (long-by u c.if-u.false (le-ltb _ _ c.if-n-gt-LONGEST.false)) c.requires refl (to-front input u.from u.to _ c.requires.ordered c.requires.inside c.copy_within.ensures.after)
