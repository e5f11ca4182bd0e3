-- `apply::grant::apply_grant` meets its contract. Assumes nothing.
use borrow.Author.Rules.{rules}
use borrow.Author.Tests.{not-true, not-false}
use Rattle.apply.proofs.ApplyLaws.{known}
use Rattle.apply.proofs.GrantSteps.{grant-there, grant-user, grant-let-in, grant-group, grant-settle, grant-count, grant-done}
use Rattle.apply.proofs.GrantWorks.{let-in-none, let-in-one}
use Rattle.apply.proofs.WorksLaws.{works-same}
use Rattle.apply.proofs.grant.apply_grant.Goals as goal

pub row_of-x-requires : goal.row_of-x-requires
row_of-x-requires c = grant-there (known c.requires.accepted)

pub with-list-requires : goal.with-list-requires
with-list-requires c = grant-user (known c.requires.accepted)

pub relist-requires : goal.relist-requires
relist-requires c = grant-there (known c.requires.accepted)

pub lock_waiting-requires : goal.lock_waiting-requires
lock_waiting-requires c = grant-group (known c.requires.accepted) c.requires.p_value (c.row_of-x.ensures _ _) c.with-list.ensures c.relist.ensures

pub settle-requires : goal.settle-requires
settle-requires c =
    grant-settle (known c.requires.accepted) c.requires.p_value (c.row_of-x.ensures _ _) c.with-list.ensures c.relist.ensures (c.lock_waiting.ensures.works _ _)

pub answer-requires : goal.answer-requires
answer-requires c =
    grant-count (known c.requires.accepted) c.requires.p_value (c.row_of-x.ensures _ _) c.with-list.ensures c.relist.ensures (c.lock_waiting.ensures.works _ _)
    (c.settle.ensures.works _ _) (let-in-none _ _ (not-true _ c.if-not-p.true))

pub returns-then-not-p-clause-value : goal.returns-then-not-p-clause-value
returns-then-not-p-clause-value c =
    let given =
    grant-done (known c.requires.accepted) c.requires.p_value (c.row_of-x.ensures _ _) c.with-list.ensures c.relist.ensures (c.lock_waiting.ensures.works _ _)
    (c.settle.ensures.works _ _) (let-in-none _ _ (not-true _ c.if-not-p.true)) c.answer.ensures.bytes in
    search rules

pub let_in-requires : goal.let_in-requires
let_in-requires c =
    grant-let-in (known c.requires.accepted) c.requires.p_value (c.row_of-x.ensures _ _) c.with-list.ensures c.relist.ensures (c.lock_waiting.ensures.works _ _)
    (c.settle.ensures.works _ _) (not-false _ c.if-not-p.false)

pub answer-requires-2 : goal.answer-requires-2
answer-requires-2 c =
    grant-count (known c.requires.accepted) c.requires.p_value (c.row_of-x.ensures _ _) c.with-list.ensures c.relist.ensures (c.lock_waiting.ensures.works _ _)
    (c.settle.ensures.works _ _) (let-in-one _ _ (not-false _ c.if-not-p.false) (c.let_in.ensures.works _ _ _))

pub returns-clause-value : goal.returns-clause-value
returns-clause-value c =
    let same = c.let_in.ensures.outer_same in
    let token = works-same same.vertices same.tokens c.let_in.ensures.rows_same (c.let_in.ensures.works _ _ _) in
    let given =
    grant-done (known c.requires.accepted) c.requires.p_value (c.row_of-x.ensures _ _) c.with-list.ensures c.relist.ensures (c.lock_waiting.ensures.works _ _)
    (c.settle.ensures.works _ _) (let-in-one _ _ (not-false _ c.if-not-p.false) token) c.answer-2.ensures.bytes in
    search rules
