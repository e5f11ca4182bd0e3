-- `lines::answer::put_digits`, which calls itself. The measure is the number.
use Rattle.lines.proofs.answer.+put_digits.Given as goal

abbrev pub decreases-put_digits : goal.decreases-put_digits
decreases-put_digits l = l.n
