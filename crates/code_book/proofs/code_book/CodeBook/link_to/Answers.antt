use Rattle.std.proofs.Common.{◌≡◌, ℕ, ◌+◌, ◌*◌, Some, ◌∙◌, sym, ap}
use Rattle.std.specs.Prelude.{is_some, Option}
use Rattle.exit_links.specs.Linked.{Linked}
use Rattle.code_book.specs.Tables.{and_then, leads}
use Rattle.code_book.specs.View.{book_of}
use Rattle.code_book.proofs.Linking.{no-left, no-here, is-linked, from, more-ledger, more-kept}
use Rattle.code_book.proofs.Withdrawing.{place-there}
use Rattle.code_book.proofs.code_book.CodeBook.link_to.Goals as goal

leads_there : (links : Linked) (here left next : Option ℕ) (p e : ℕ) → next ≡ and_then here (λ p. and_then left (λ e. leads links (2 * p + e))) → here ≡ Some p → left ≡ Some e → next ≡ leads links (2 * p + e)
leads_there links here left next p e is at by = is ∙ (λ i. and_then (at i) (λ p. and_then (by i) (λ e. leads links (2 * p + e))))

pub returns-in_default-clause-ledger : goal.returns-in_default-clause-ledger
returns-in_default-clause-ledger c = no-here (book_of c.args.self.now) c.args.self.now.kept c.args.addr c.in_default.is

pub returns-in_default-left-clause-ledger : goal.returns-in_default-left-clause-ledger
returns-in_default-left-clause-ledger c = no-left (book_of c.args.self.now) c.args.self.now.kept c.args.addr c.in_default-left.is

pub link-requires : goal.link-requires
link-requires c =
    let k = book_of c.args.self.now in
    record {
      exit = c.args.self.now.kept.left c.in-Some-left.exit c.in-Some-left.is;
      from = place-there k c.args.self.now.kept c.args.self.now.block c.in-Some.from (from k c.args.self.now.kept c.in-Some.from c.in-Some-left.exit c.in-Some.is c.in-Some-left.is);
      to = place-there k c.args.self.now.kept c.args.addr c.args.place c.requires.place;
    }

pub invariant_of-self-else-is_some : goal.invariant_of-self-else-is_some
invariant_of-self-else-is_some c = record {
  kept = more-kept (book_of c.args.self.now) c.args.self.now.kept c.in-Some.from c.in-Some-left.exit c.in-Some.is c.in-Some-left.is c.args.addr c.args.place c.requires.place
      c.link.new.links c.link.ensures.leads c.link.ensures.places;
}

pub returns-then-is_some-clause-ledger : goal.returns-then-is_some-clause-ledger
returns-then-is_some-clause-ledger c = is-linked (book_of c.args.self.now) c.args.self.now.kept c.in-Some.from c.in-Some-left.exit c.in-Some.is c.in-Some-left.is c.args.addr
    (sym (c.is_some.ensures ∙ ap is_some (leads_there c.args.self.now.links c.args.self.now.here c.args.self.now.left c.args.next c.in-Some.from c.in-Some-left.exit c.requires.next c.in-Some.is c.in-Some-left.is)) ∙ c.if-is_some.true)

pub returns-else-is_some-clause-ledger : goal.returns-else-is_some-clause-ledger
returns-else-is_some-clause-ledger c =
    more-ledger (book_of c.args.self.now) c.args.self.now.kept c.in-Some.from c.in-Some-left.exit c.in-Some.is c.in-Some-left.is c.args.addr c.args.place c.requires.place
    c.link.new.links c.link.ensures.leads c.link.ensures.places
    (sym (c.is_some.ensures ∙ ap is_some (leads_there c.args.self.now.links c.args.self.now.here c.args.self.now.left c.args.next c.in-Some.from c.in-Some-left.exit c.requires.next c.in-Some.is c.in-Some-left.is)) ∙ c.if-is_some.false)
