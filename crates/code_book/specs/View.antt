-- The ledger that a `CodeBook` keeps.
use Rattle.block_ledger.specs.Ledger.{Ledger}
use Rattle.code_book.specs.Book.{Book, book, ledger}
use Rattle.code_book.specs.declared.code_book.CodeBook.{CodeBook}

abbrev pub book_of : CodeBook → Book
book_of b = book b.segments b.places.index b.places.slots b.links b.covers b.block b.here b.left b.own b.counts.blocks b.counts.reused b.counts.built b.counts.linked

abbrev pub ledger_of : CodeBook → Ledger
ledger_of b = ledger (book_of b)
