use Rattle.std.proofs.Common.{◌≡◌, ◌∙◌, sym, ap, subst, true}
use Rattle.std.specs.Prelude.{IfSome}
use Rattle.block_ledger.specs.Ledger.{is_live, exit_at}
use Rattle.code_book.specs.Book.{ledger}
use Rattle.code_book.specs.View.{book_of}
use Rattle.code_book.specs.Whole.{led_to}
use Rattle.code_book.proofs.Withdrawing.{no-place, place-there}
use Rattle.code_book.proofs.Hanging.{hung-ledger, hung-kept}
use Rattle.code_book.proofs.code_book.CodeBook.lead.Goals as goal

pub returns-in_default-find : goal.returns-in_default-find
returns-in_default-find c = absurd (no-place (book_of c.args.self.now) c.args.addr (sym c.find.ensures ∙ c.in_default-find.is) c.requires.from)

pub returns-in_default-find-2 : goal.returns-in_default-find-2
returns-in_default-find-2 c = absurd (no-place (book_of c.args.self.now) c.in-Some.to (sym c.find-2.ensures ∙ c.in_default-find-2.is)
    (subst (λ o. IfSome o (λ a. is_live (ledger (book_of c.args.self.now)) a ≡ true)) c.in-Some.is c.requires.onto))

pub link-requires-clause-from : goal.link-requires-clause-from
link-requires-clause-from c = place-there (book_of c.args.self.now) c.args.self.now.kept c.args.addr c.in-Some-find.from (sym c.find.ensures ∙ c.in-Some-find.is)

pub link-requires-clause-to : goal.link-requires-clause-to
link-requires-clause-to c = place-there (book_of c.args.self.now) c.args.self.now.kept c.in-Some.to c.in-Some-find-2.place (sym c.find-2.ensures ∙ c.in-Some-find-2.is)

pub invariant_of-self : goal.invariant_of-self
invariant_of-self c = record {
  kept = hung-kept (book_of c.args.self.now) c.args.self.now.kept c.args.addr c.in-Some-find.from c.args.exit c.requires.exit (sym c.find.ensures ∙ c.in-Some-find.is)
      c.in-Some.to c.in-Some-find-2.place (sym c.find-2.ensures ∙ c.in-Some-find-2.is) c.link.new.links c.link.ensures.leads c.link.ensures.places;
}

pub returns : goal.returns
returns c =
    hung-ledger (book_of c.args.self.now) c.args.self.now.kept c.args.addr c.in-Some-find.from c.args.exit c.requires.exit (sym c.find.ensures ∙ c.in-Some-find.is)
    c.in-Some.to c.in-Some-find-2.place (sym c.find-2.ensures ∙ c.in-Some-find-2.is) c.link.new.links c.link.ensures.leads c.link.ensures.places
    ∙ ap (λ o. led_to (exit_at c.args.addr c.args.exit) o (ledger (book_of c.args.self.now))) (sym c.in-Some.is)
