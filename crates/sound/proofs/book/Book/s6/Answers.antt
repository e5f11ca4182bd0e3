-- `sound::book::Book::s6` meets its contract: in the inner layer the lower of two searches' rows, then the outer.
-- Assumes nothing.
use Rattle.std.proofs.Common.{rules, ◌≡◌, ◌∙◌, Err}
use Rattle.rules.specs.Bytes.{tables_of}
use Rattle.sound.proofs.Spots.{search-on, search-stop, search-last}
use Rattle.sound.proofs.RulePlaces.{new-inner, new-outer, s6-rest}
use Rattle.sound.proofs.Required.{inner-few, outer-few, laid-ends}
use Rattle.sound.proofs.book.Book.s6.Goals as goal

pub equal_token-g-requires : goal.equal_token-g-requires
equal_token-g-requires c =
    let b = c.args.self.now in
    let i = c.inner-i.result in
    record {
      le_width = (i.laid.low, i.laid.high, i.laid.rows);
      ends = laid-ends i (inner-few b.head (tables_of b.tables) b.s1 c.inner-i.ensures.shape_value);
    }

pub equal_token-requires : goal.equal_token-requires
equal_token-requires c =
    let b = c.args.self.now in
    let o = c.outer-o.result in
    record {
      le_width = (o.laid.low, o.laid.high, o.laid.rows);
      ends = laid-ends o (outer-few b.head (tables_of b.tables) b.s1 c.outer-o.ensures.shape_value);
    }

pub returns-in_err-row : goal.returns-in_err-row
returns-in_err-row c =
    let k : c.from_residual.result ≡ Err c.in_err-row.field-0.0 = search rules in
    k ∙ search-stop (s6-rest _ _) (new-inner _ _ c.args.self.now.s1 c.requires c.inner-i.result c.inner-i.ensures.value c.row.ensures c.lower.ensures c.not_lateral-f.ensures c.equal_token-g.ensures) c.in_err-row.was

pub returns : goal.returns
returns c =
    search-last
    (search-on (s6-rest _ _) (new-inner _ _ c.args.self.now.s1 c.requires c.inner-i.result c.inner-i.ensures.value c.row.ensures c.lower.ensures c.not_lateral-f.ensures c.equal_token-g.ensures) c.in_ok-row.was)
    (new-outer _ _ c.args.self.now.s1 c.requires c.outer-o.result c.outer-o.ensures.value c.row-2.ensures c.equal_token.ensures)
