use Rattle.std.proofs.Common.{◌≡◌, ◌*◌, ◌==◌, cond, get_or, ◌∙◌, sym, ap, subst, Some, None, length}
use Rattle.std.specs.FinMap as fin
use Rattle.fragment.specs.Parts.{Parts}
use Rattle.code_book.specs.Tables.{Held}
use Rattle.code_book.specs.Book.{IsKept, ledger, size_of}
use Rattle.code_book.specs.View.{book_of}
use Rattle.code_book.proofs.Settling.{not-covered, not-kept}
use Rattle.code_book.proofs.Placing.{held-kept, held-ledger, is-held}
use Rattle.code_book.proofs.code_book.CodeBook.hold.Goals as goal

pub invariant_of-self-in-Err : goal.invariant_of-self-in-Err
invariant_of-self-in-Err c =
    let k = book_of c.args.self.now in
    let addr : c.addr-addr.result ≡ c.args.block.address = c.addr-addr.ensures ∙ ap (λ (f : Parts). f.address) c.fragment.ensures in
    let words : c.words.result.now ≡ c.args.block.words = c.words.ensures ∙ ap (λ (f : Parts). f.words) c.fragment-2.ensures in
    let lens : c.uncover.new.self ≡ c.args.self.now.covers =
    c.uncover.ensures ∙ ap (fin.remove c.cover.new.self) addr ∙ ap (λ m. fin.remove m c.args.block.address) (c.in_ok-cover.ensures.ok ∙ (λ i. fin.insert c.args.self.now.covers (addr i) (4 * length (words i))))
    ∙ not-kept c.args.self.now.covers c.args.block.address (size_of c.args.block) (not-covered k c.args.self.now.kept c.args.block c.args.place c.requires.absent c.requires.short c.requires.free c.requires.wide) in
    let same = c.in-Err.ensures.err in
    record { kept = subst IsKept (λ i. record k { places = record { place = sym same.0 i; slots = sym same.1 i }; lens = sym lens i }) c.args.self.now.kept }

pub invariant_of-self-2 : goal.invariant_of-self-2
invariant_of-self-2 c =
    let k = book_of c.args.self.now in
    let addr : c.addr-addr.result ≡ c.args.block.address = c.addr-addr.ensures ∙ ap (λ (f : Parts). f.address) c.fragment.ensures in
    let words : c.words.result.now ≡ c.args.block.words = c.words.ensures ∙ ap (λ (f : Parts). f.words) c.fragment-2.ensures in
    record {
      kept = subst IsKept
          (sym (is-held k c.args.block c.args.place c.take.new.self.slots c.take.new.self.index c.cover.new.self c.here_now-self.result
          (c.in_default.ensures.index ∙ ap (λ (h : Held). fin.insert c.args.self.now.places.index h.block.address c.args.place) c.of.ensures)
          (c.in_ok-cover.ensures.ok ∙ (λ i. fin.insert c.args.self.now.covers (addr i) (4 * length (words i))))
          (c.here_now-self.ensures ∙ ap (λ a. cond (c.args.self.now.block == a) (Some c.args.place) c.args.self.now.here) addr)))
          (held-kept k c.args.self.now.kept c.args.block c.args.place c.requires.absent c.requires.short c.requires.free c.requires.wide c.take.new.self.slots
          (λ q. c.in_default.ensures.slots q ∙ ap (λ (h : Held). cond (q == c.args.place) (Some h) (get_or c.args.self.now.places.slots q None)) c.of.ensures));
    }

pub returns-clause-ok : goal.returns-clause-ok
returns-clause-ok c =
    let k = book_of c.args.self.now in
    let addr : c.addr-addr.result ≡ c.args.block.address = c.addr-addr.ensures ∙ ap (λ (f : Parts). f.address) c.fragment.ensures in
    let words : c.words.result.now ≡ c.args.block.words = c.words.ensures ∙ ap (λ (f : Parts). f.words) c.fragment-2.ensures in
    ap ledger (is-held k c.args.block c.args.place c.take.new.self.slots c.take.new.self.index c.cover.new.self c.here_now-self.result
    (c.in_default.ensures.index ∙ ap (λ (h : Held). fin.insert c.args.self.now.places.index h.block.address c.args.place) c.of.ensures)
    (c.in_ok-cover.ensures.ok ∙ (λ i. fin.insert c.args.self.now.covers (addr i) (4 * length (words i))))
    (c.here_now-self.ensures ∙ ap (λ a. cond (c.args.self.now.block == a) (Some c.args.place) c.args.self.now.here) addr))
    ∙ held-ledger k c.args.self.now.kept c.args.block c.args.place c.requires.absent c.requires.short c.requires.free c.requires.wide c.take.new.self.slots
    (λ q. c.in_default.ensures.slots q ∙ ap (λ (h : Held). cond (q == c.args.place) (Some h) (get_or c.args.self.now.places.slots q None)) c.of.ensures)
