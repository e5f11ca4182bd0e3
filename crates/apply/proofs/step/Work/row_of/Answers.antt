-- `apply::step::Work::row_of` meets its contract. Assumes nothing.
use mathlib.Core.Path.{◌∙◌}
use Rattle.apply.proofs.WorksLaws.{row-in}
use Rattle.apply.proofs.step.Work.row_of.Goals as goal

pub returns : goal.returns
returns c = λ iv it. c.resource_in.ensures ∙ row-in _ _ _
