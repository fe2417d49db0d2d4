use Rattle.std.proofs.Common.{◌-◌, ◌∙◌, ap, sym, subst, cond}
use Rattle.code_book.specs.Book.{IsKept, ledger}
use Rattle.code_book.specs.View.{book_of}
use Rattle.code_book.proofs.Withdrawing.{place-there, no-place, there, has-own, is-less, less-kept, less-ledger}
use Rattle.code_book.proofs.code_book.CodeBook.withdraw.Goals as goal

pub returns-in_default-clause-ledger : goal.returns-in_default-clause-ledger
returns-in_default-clause-ledger c = absurd (no-place (book_of c.args.self.now) c.args.addr (sym c.find.ensures ∙ c.in_default.is) c.requires)

pub returns-in_default-clause-covers : goal.returns-in_default-clause-covers
returns-in_default-clause-covers c = absurd (no-place (book_of c.args.self.now) c.args.addr (sym c.find.ensures ∙ c.in_default.is) c.requires)

pub own_left-self-requires : goal.own_left-self-requires
own_left-self-requires c = λ is. has-own (book_of c.args.self.now) c.args.self.now.kept c.args.addr c.in-Some.place (sym c.find.ensures ∙ c.in-Some.is) c.unlink.new.links c.unlink.ensures.leads c.unlink.ensures.places c.drop_at.new.self.slots c.drop_at.ensures.slots (sym c.is_shared-shared.ensures ∙ is)

pub invariant_of-self : goal.invariant_of-self
invariant_of-self c =
    let p = c.in-Some.place in
    let at = sym c.find.ensures ∙ c.in-Some.is in
    record {
      kept = subst IsKept
          (sym (is-less (book_of c.args.self.now) c.args.self.now.kept c.args.addr p at c.unlink.new.links c.unlink.ensures.leads c.unlink.ensures.places c.drop_at.new.self.slots c.drop_at.ensures.slots _ _ _ _
          c.drop_at.ensures.index c.uncover.ensures c.here_left-self.ensures (c.own_left-self.ensures ∙ ap (λ b. cond b c.args.self.now.own (c.args.self.now.own - 1)) c.is_shared-shared.ensures)))
          (less-kept (book_of c.args.self.now) c.args.self.now.kept c.args.addr p at c.unlink.new.links c.unlink.ensures.leads c.unlink.ensures.places c.drop_at.new.self.slots c.drop_at.ensures.slots);
    }

pub returns-clause-ledger : goal.returns-clause-ledger
returns-clause-ledger c =
    let p = c.in-Some.place in
    let at = sym c.find.ensures ∙ c.in-Some.is in
    ap ledger (is-less (book_of c.args.self.now) c.args.self.now.kept c.args.addr p at c.unlink.new.links c.unlink.ensures.leads c.unlink.ensures.places c.drop_at.new.self.slots c.drop_at.ensures.slots _ _ _ _
    c.drop_at.ensures.index c.uncover.ensures c.here_left-self.ensures (c.own_left-self.ensures ∙ ap (λ b. cond b c.args.self.now.own (c.args.self.now.own - 1)) c.is_shared-shared.ensures))
    ∙ less-ledger (book_of c.args.self.now) c.args.self.now.kept c.args.addr p at c.unlink.new.links c.unlink.ensures.leads c.unlink.ensures.places c.drop_at.new.self.slots c.drop_at.ensures.slots
