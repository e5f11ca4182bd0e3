-- `book::section` meets its contract. Assumes nothing.
use Rattle.book.proofs.Answers.{section-given, section-refused}
use Rattle.book.proofs.section.Goals as goal

pub returns-in-Ok : goal.returns-in-Ok
returns-in-Ok c = section-given _ _ c.part_of.ensures c.in-Ok.is

pub returns-in-Err : goal.returns-in-Err
returns-in-Err c = section-refused _ _ c.part_of.ensures c.in-Err.is c.number.ensures c.place.ensures
