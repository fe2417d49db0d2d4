use Rattle.std.proofs.Common.{◌∙◌, sym, get_or, None}
use Rattle.code_book.proofs.Withdrawing.{lies-address}
use Rattle.code_book.proofs.code_book.CodeBook.place_for.Goals as goal

pub returns : goal.returns
returns c = sym (c.args.self.now.kept.tied.placed c.args.addr c.in-Some.place (lies-address (get_or c.args.self.now.places.slots c.in-Some.place None) c.args.addr (sym c.if-lies_at.ensures)))
