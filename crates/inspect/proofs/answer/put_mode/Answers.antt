-- `inspect::answer::put_mode` meets its contract. Assumes nothing.
use mathlib.Core.Path.{sym, ◌∙◌}
use Rattle.inspect.specs.Text.{mode_text}
use Rattle.inspect.proofs.answer.put_mode.Goals as goal

pub returns-then-eq-clause-puts : goal.returns-then-eq-clause-puts
unfolding mode_text
returns-then-eq-clause-puts c = rw (sym c.eq.ensures ∙ c.if-eq.true) c.put_text.ensures

pub returns-clause-puts : goal.returns-clause-puts
unfolding mode_text
returns-clause-puts c = rw (sym c.eq.ensures ∙ c.if-eq.false) c.put_text-2.ensures
