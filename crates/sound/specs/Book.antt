-- The book that lies in tables where S1 holds.
-- Assumes nothing.
use Rattle.rules.specs.Book.{Book}
use Rattle.rules.specs.Bytes.{book_in, tables_of}
use Rattle.sound.specs.declared.book.Book.{Book as Lent}

abbrev pub book_of : Lent → Book
book_of b = book_in b.head (tables_of b.tables)
