-- `inspect::words::put_count` meets its contract. Assumes nothing.
use Rattle.inspect.specs.Text.{count_text}
use Rattle.inspect.proofs.words.put_count.Goals as goal

pub returns : goal.returns
unfolding count_text
returns c = rw (← c.limit_at.ensures, ← c.count_words.ensures.words) c.put_number.ensures.puts
