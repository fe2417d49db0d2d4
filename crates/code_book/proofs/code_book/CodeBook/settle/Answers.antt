use Rattle.std.proofs.Common.{◌≡◌, ◌*◌, ◌==◌, cond, get_or, ◌∙◌, sym, ap, subst, Some, None, length}
use Rattle.std.specs.FinMap as fin
use Rattle.code_book.specs.Tables.{Held}
use Rattle.code_book.specs.Book.{IsKept, ledger, size_of}
use Rattle.code_book.specs.View.{book_of}
use Rattle.code_book.proofs.Settling.{settled-kept, settled-ledger, settled-place, not-covered, not-kept, is-more}
use Rattle.code_book.proofs.code_book.CodeBook.settle.Goals as goal

pub invariant_of-self-in-Err : goal.invariant_of-self-in-Err
invariant_of-self-in-Err c =
    let k = book_of c.args.self.now in
    let lens : c.uncover.new.self ≡ c.args.self.now.covers =
    c.uncover.ensures ∙ ap (fin.remove c.cover.new.self) c.addr-addr.ensures ∙ ap (λ m. fin.remove m c.args.block.address) (c.in_ok-cover.ensures.ok ∙ (λ i. fin.insert c.args.self.now.covers (c.addr-addr.ensures i) (4 * length (c.words.ensures i))))
    ∙ not-kept c.args.self.now.covers c.args.block.address (size_of c.args.block) (not-covered k c.args.self.now.kept c.args.block c.args.place c.requires.absent c.requires.short c.requires.free c.requires.wide) in
    let same = c.in-Err.ensures.err in
    record { kept = subst IsKept (λ i. record k { places = record { place = sym same.0 i; slots = sym same.1 i }; lens = sym lens i }) c.args.self.now.kept }

pub invariant_of-self-2 : goal.invariant_of-self-2
invariant_of-self-2 c =
    let k = book_of c.args.self.now in
    record {
      kept = subst IsKept
          (sym (is-more k c.args.block c.args.place c.take.new.self.slots c.take.new.self.index c.cover.new.self c.here_now-self.result
          (c.in_default.ensures.index ∙ ap (λ (h : Held). fin.insert c.args.self.now.places.index h.block.address c.args.place) c.own.ensures)
          (c.in_ok-cover.ensures.ok ∙ (λ i. fin.insert c.args.self.now.covers (c.addr-addr.ensures i) (4 * length (c.words.ensures i))))
          (c.here_now-self.ensures ∙ ap (λ a. cond (c.args.self.now.block == a) (Some c.args.place) c.args.self.now.here) c.addr-addr.ensures)))
          (settled-kept k c.args.self.now.kept c.args.block c.args.place c.requires.absent c.requires.short c.requires.free c.requires.wide c.take.new.self.slots
          (λ q. c.in_default.ensures.slots q ∙ ap (λ (h : Held). cond (q == c.args.place) (Some h) (get_or c.args.self.now.places.slots q None)) c.own.ensures));
    }

pub returns-clause-ledger : goal.returns-clause-ledger
returns-clause-ledger c =
    let k = book_of c.args.self.now in
    ap ledger (is-more k c.args.block c.args.place c.take.new.self.slots c.take.new.self.index c.cover.new.self c.here_now-self.result
    (c.in_default.ensures.index ∙ ap (λ (h : Held). fin.insert c.args.self.now.places.index h.block.address c.args.place) c.own.ensures)
    (c.in_ok-cover.ensures.ok ∙ (λ i. fin.insert c.args.self.now.covers (c.addr-addr.ensures i) (4 * length (c.words.ensures i))))
    (c.here_now-self.ensures ∙ ap (λ a. cond (c.args.self.now.block == a) (Some c.args.place) c.args.self.now.here) c.addr-addr.ensures))
    ∙ settled-ledger k c.args.self.now.kept c.args.block c.args.place c.requires.absent c.requires.short c.requires.free c.requires.wide c.take.new.self.slots
    (λ q. c.in_default.ensures.slots q ∙ ap (λ (h : Held). cond (q == c.args.place) (Some h) (get_or c.args.self.now.places.slots q None)) c.own.ensures)

pub returns-clause-place : goal.returns-clause-place
returns-clause-place c =
    let k = book_of c.args.self.now in
    ap (λ m. fin.get m c.args.block.address) (c.in_default.ensures.index ∙ ap (λ (h : Held). fin.insert c.args.self.now.places.index h.block.address c.args.place) c.own.ensures)
    ∙ settled-place k c.args.self.now.kept c.args.block c.args.place c.requires.absent c.requires.short c.requires.free c.requires.wide c.take.new.self.slots
    (λ q. c.in_default.ensures.slots q ∙ ap (λ (h : Held). cond (q == c.args.place) (Some h) (get_or c.args.self.now.places.slots q None)) c.own.ensures)
