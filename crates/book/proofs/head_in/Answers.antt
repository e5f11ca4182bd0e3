-- `book::head_in` meets its contract. Assumes nothing.
use Rattle.std.proofs.Common.{arith}
use Rattle.rules.specs.Bytes.{version_in}
use Rattle.book.proofs.Laws.{fore-within, head-left}
use Rattle.book.proofs.head_in.Goals as goal

pub header_in-requires : goal.header_in-requires
header_in-requires c = omega (arith, c.requires, fore-within (version_in c.args.bytes.now))

pub returns : goal.returns
returns c = head-left _ _ c.leavers_in.ensures c.header_in.ensures
