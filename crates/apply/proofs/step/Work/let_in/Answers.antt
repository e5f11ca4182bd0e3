-- `apply::step::Work::let_in` meets its contract. Assumes nothing.
use Rattle.rules.specs.Bytes.{tables}
use Rattle.apply.proofs.GrantWorks.{works-let-in, own_at, own-found}
use Rattle.apply.proofs.step.Work.let_in.Goals as goal

pub returns-in_default-clause-works : goal.returns-in_default-clause-works
returns-in_default-clause-works c = absurd (own-found c.requires c.only.ensures c.find_set.ensures c.in_default.is)

pub returns-clause-works : goal.returns-clause-works
returns-clause-works c =
    let own = own_at c.requires c.only.ensures c.find_set.ensures c.in-Some.is in
    λ ov ot rs.
    works-let-in {h = c.args.self.now.head} {t = tables c.args.inner_vertices.now c.args.inner_tokens.now ov ot rs} _ _ own c.add_token.ensures.token_added c.add_token.ensures.orders_after
