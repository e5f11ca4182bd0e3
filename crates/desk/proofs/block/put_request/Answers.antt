-- `desk::block::put_request` meets its contract. Assumes nothing.
use Rattle.std.proofs.Common.{◌*◌}
use Rattle.lines.proofs.Putting.{put_part}
use Rattle.desk.specs.Block.{numbers_of}
use Rattle.desk.proofs.block.put_request.Goals as goal

pub returns : goal.returns
returns c = (put_part (numbers_of c.args.q) (c.args.row * 3) c.args.requests.now _ c.copy_from_slice.ensures.after).holds
