use Rattle.code_book.specs.View.{book_of}
use Rattle.code_book.proofs.Offering.{own-ready}
use Rattle.code_book.proofs.code_book.CodeBook.offer_to.Goals as goal

pub returns-clause-own : goal.returns-clause-own
returns-clause-own c = own-ready (book_of c.args.self.now)
