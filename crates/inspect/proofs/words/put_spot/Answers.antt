-- `inspect::words::put_spot` meets its contract. Assumes nothing.
use native.Mathlib.Omega.{arith}
use Rattle.inspect.specs.Text.{row_text}
use Rattle.inspect.proofs.words.put_spot.Goals as goal

pub returns-in-Row : goal.returns-in-Row
unfolding row_text
returns-in-Row c =
    record {
      puts = rw (c.in-Row.is, ← c.section_words.ensures.words) c.put_number.ensures.puts;
      upper_bound = omega (arith, c.put_number.ensures.upper_bound, c.section_words.ensures.upper_bound);
    }

pub returns-in-Leavers : goal.returns-in-Leavers
returns-in-Leavers c =
    record {
      puts = rw c.in-Leavers.is c.put_text.ensures;
      upper_bound = omega (arith, c.put_text.ensures.ends);
    }

pub returns-in-Missing : goal.returns-in-Missing
returns-in-Missing c =
    record {
      puts = rw c.in-Missing.is c.put_text-in-Missing.ensures;
      upper_bound = omega (arith, c.put_text-in-Missing.ensures.ends);
    }
