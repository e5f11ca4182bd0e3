-- `book::load` meets its contract: the sections lie in the tables. Assumes nothing.
use Rattle.std.proofs.Common.{sym, subst, arith}
use Rattle.rules.specs.Bytes.{Bytes, tables_of}
use Rattle.book.proofs.Laws.{Fills, sections-fill, loaded}
use Rattle.book.proofs.load.Goals as goal

pub put-requires : goal.put-requires
put-requires c =
    let fill : Fills c.args.h (tables_of c.sections-s.result) = subst (Fills c.args.h) (sym c.sections-s.ensures) (sections-fill _ _ _ c.requires.whole) in
    omega (arith, fill, c.requires.room)

pub put-requires-2 : goal.put-requires-2
put-requires-2 c =
    let fill : Fills c.args.h (tables_of c.sections-s.result) = subst (Fills c.args.h) (sym c.sections-s.ensures) (sections-fill _ _ _ c.requires.whole) in
    omega (arith, fill, c.requires.room)

pub put-requires-3 : goal.put-requires-3
put-requires-3 c =
    let fill : Fills c.args.h (tables_of c.sections-s.result) = subst (Fills c.args.h) (sym c.sections-s.ensures) (sections-fill _ _ _ c.requires.whole) in
    omega (arith, fill, c.requires.room)

pub put-requires-4 : goal.put-requires-4
put-requires-4 c =
    let fill : Fills c.args.h (tables_of c.sections-s.result) = subst (Fills c.args.h) (sym c.sections-s.ensures) (sections-fill _ _ _ c.requires.whole) in
    omega (arith, fill, c.requires.room)

pub put-requires-5 : goal.put-requires-5
put-requires-5 c =
    let fill : Fills c.args.h (tables_of c.sections-s.result) = subst (Fills c.args.h) (sym c.sections-s.ensures) (sections-fill _ _ _ c.requires.whole) in
    omega (arith, fill, c.requires.room)

pub returns-clause-value : goal.returns-clause-value
returns-clause-value c =
    let byte : Bytes c.args.bytes.now = λ i. (c.type_inv.bytes i).fits in
    loaded _ _ _ _ _ (tables_of c.sections-s.result) c.requires byte c.sections-s.ensures c.put.ensures c.put-2.ensures c.put-3.ensures c.put-4.ensures c.put-5.ensures
