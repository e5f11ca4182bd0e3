-- `inspect::words::put_sentence` meets its contract. Assumes nothing.
use Rattle.inspect.proofs.TextLaws.{sentence-length}
use Rattle.lines.proofs.Putting.{put_then}
use native.Mathlib.Omega.{arith}
use Rattle.inspect.proofs.words.put_sentence.Goals as goal

pub returns-in-Mark : goal.returns-in-Mark
returns-in-Mark c = rw c.in-Mark.is c.put_text.ensures

pub returns-in-Version : goal.returns-in-Version
returns-in-Version c = rw c.in-Version.is c.put_text-in-Version.ensures

pub returns-in-Mode : goal.returns-in-Mode
returns-in-Mode c = rw c.in-Mode.is c.put_text-in-Mode.ensures

pub returns-in-Count : goal.returns-in-Count
returns-in-Count c = rw c.in-Count.is c.put_count.ensures

pub returns-in-Length : goal.returns-in-Length
returns-in-Length c =
    rw (sentence-length c.args.version c.args.h c.args.f _ c.in-Length.is c.requires.headed) c.put_length.ensures

pub returns-in-Rule : goal.returns-in-Rule
returns-in-Rule c = rw (c.in-Rule.is, ← c.rule_words.ensures.words) (put_then (omega (arith, c.requires.at_in_bounds)) c.put_spot-end.ensures.puts c.put_text-in-Rule.ensures)
