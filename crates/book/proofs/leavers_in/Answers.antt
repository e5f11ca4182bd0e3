-- `book::leavers_in` meets its contract. Assumes nothing.
use Rattle.std.proofs.Common.{◌∙◌, arith}
use Rattle.rules.specs.Bytes.{version_in}
use Rattle.book.proofs.Laws.{fore-within, fore-later, none_left, some_left}
use Rattle.book.proofs.leavers_in.Goals as goal

pub version_in-requires : goal.version_in-requires
version_in-requires c = omega (arith, c.requires, fore-within (version_in c.args.bytes.now))

pub returns-then-version_in-eq1 : goal.returns-then-version_in-eq1
returns-then-version_in-eq1 c = none_left _ c.version_in.ensures c.if-version_in-eq1.true c.empty.ensures

pub get-requires : goal.get-requires
get-requires c =
    omega (arith, c.requires, fore-later (version_in c.args.bytes.now) (λ e. c.if-version_in-eq1.false (c.version_in.ensures ∙ e)))

pub returns : goal.returns
returns c = some_left _ c.version_in.ensures c.if-version_in-eq1.false c.get.ensures
