use Rattle.std.proofs.Common.{◌≤◌, ℕ, sym, subst, arith, refl, length}
use Rattle.std.specs.Ordering.{nat_cmp}
use Rattle.std.specs.FinMap as fin
use Rattle.code_book.specs.Book.{IsKept}
use Rattle.code_book.specs.View.{book_of}
use Rattle.code_book.proofs.Settling.{wider-kept}
use Rattle.code_book.proofs.code_book.CodeBook.reserve.Goals as goal

pub invariant_of-self : goal.invariant_of-self
invariant_of-self c =
    let less : c.args.self.now.links.places ≤ c.args.self.now.links.places = omega arith in
    record {
      kept = subst (λ (m : fin.FinMap nat_cmp ℕ). IsKept (record (book_of c.args.self.now) { places = record { place = m; slots = c.room.new.self.slots } })) (sym c.room.ensures.index)
          (wider-kept (book_of c.args.self.now) c.args.self.now.kept c.room.new.self.slots c.args.self.now.links c.room.ensures.same (λ _. refl) less);
    }

pub invariant_of-self-2 : goal.invariant_of-self-2
invariant_of-self-2 c =
    record {
      kept = subst (λ (m : fin.FinMap nat_cmp ℕ). IsKept (record (book_of c.args.self.now) { places = record { place = m; slots = c.room.new.self.slots }; links = c.grow.new.links })) (sym c.room.ensures.index)
          (wider-kept (book_of c.args.self.now) c.args.self.now.kept c.room.new.self.slots c.grow.new.links c.room.ensures.same c.grow.ensures.leads c.grow.ensures.longer);
    }
