use Rattle.std.proofs.Common.{◌∙◌, sym, ap, cond, Some, None}
use Rattle.std.specs.Option.{option_map}
use Rattle.code_book.specs.View.{book_of}
use Rattle.code_book.proofs.Offering.{own-none, own-in}
use Rattle.code_book.proofs.code_book.CodeBook.own_at.Goals as goal

pub returns-in_default : goal.returns-in_default
returns-in_default c = own-none (book_of c.args.self.now) c.args.addr (sym c.find.ensures ∙ c.in_default.is)

pub returns-in_default-at : goal.returns-in_default-at
returns-in_default-at c = own-in (book_of c.args.self.now) c.args.addr c.in-Some.place None (sym c.find.ensures ∙ c.in-Some.is) (sym c.at.ensures ∙ ap (option_map _) c.in_default-at.is)

pub returns-then-is_shared : goal.returns-then-is_shared
returns-then-is_shared c =
    let h = c.in-Some-at.held.now in
    sym (ap (λ b. cond b None (Some h.block)) (sym c.is_shared.ensures ∙ c.if-is_shared.true))
    ∙ own-in (book_of c.args.self.now) c.args.addr c.in-Some.place (Some h) (sym c.find.ensures ∙ c.in-Some.is) (sym c.at.ensures ∙ ap (option_map _) c.in-Some-at.is)

pub returns : goal.returns
returns c =
    let h = c.in-Some-at.held.now in
    ap Some c.block.ensures
    ∙ sym (ap (λ b. cond b None (Some h.block)) (sym c.is_shared.ensures ∙ c.if-is_shared.false))
    ∙ own-in (book_of c.args.self.now) c.args.addr c.in-Some.place (Some h) (sym c.find.ensures ∙ c.in-Some.is) (sym c.at.ensures ∙ ap (option_map _) c.in-Some-at.is)
