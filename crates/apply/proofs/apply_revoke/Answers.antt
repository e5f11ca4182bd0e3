-- `apply::apply_revoke` meets its contract. Assumes nothing.
use borrow.Author.Rules.{rules}
use Rattle.apply.proofs.ApplyLaws.{known}
use Rattle.apply.proofs.RevokeLaws.{revoke-room, revoke-count, revoke-done}
use Rattle.apply.proofs.apply_revoke.Goals as goal

pub strike-requires : goal.strike-requires
strike-requires c = revoke-room (known c.requires)

pub answer-requires : goal.answer-requires
answer-requires c = revoke-count (known c.requires) (c.strike.ensures.works _ _)

pub returns-clause-value : goal.returns-clause-value
returns-clause-value c =
    let given = revoke-done (known c.requires) (c.strike.ensures.works _ _) c.answer.ensures.bytes in
    search rules
