use Rattle.std.proofs.Common.{◌≡◌, ◌-◌, ◌∷◌, ◌++◌, [], true, false, Some, ◌∙◌, sym, ap}
use Rattle.std.specs.Prelude.{filter, take}
use Rattle.std.specs.Option.{option_map}
use Rattle.fragment.specs.Parts.{Parts}
use Rattle.block_ledger.specs.Ledger.{is_candidate}
use Rattle.code_book.specs.View.{book_of}
use Rattle.code_book.proofs.Going.{some_same}
use Rattle.code_book.proofs.Offering.{own-address, passed-over, no-room, one-more, some-left}
use Rattle.code_book.proofs.code_book.CodeBook.find_one.Goals as goal

pub returns-then-left-eq0 : goal.returns-then-left-eq0
returns-then-left-eq0 c = λ f es got. no-room (is_candidate c.args.segment.now) c.args.found.now.items c.args.left (c.args.addr, f) es c.if-left-eq0.true

pub returns-then-not-wants : goal.returns-then-not-wants
returns-then-not-wants c = λ f es got.
    let block = c.in-Some.block.now in
    let test = is_candidate c.args.segment.now in
    let same : block ≡ f = some_same block f (sym (ap (option_map _) c.in-Some.is) ∙ c.own_at.ensures ∙ got) in
    let at : block.address ≡ c.args.addr = ap (λ (g : Parts). g.address) same ∙ own-address (book_of c.args.self.now) c.args.self.now.kept c.args.addr f got in
    let out : test (c.args.addr, f) ≡ false = sym (λ i. test (at i, same i)) ∙ sym c.wants.ensures ∙ c.if-not-wants.true in
    passed-over test c.args.found.now.items c.args.left (c.args.addr, f) es out

pub returns : goal.returns
returns c = λ f es got.
    let block = c.in-Some.block.now in
    let test = is_candidate c.args.segment.now in
    let old = c.args.found.now.items in
    let same : block ≡ f = some_same block f (sym (ap (option_map _) c.in-Some.is) ∙ c.own_at.ensures ∙ got) in
    let at : block.address ≡ c.args.addr = ap (λ (g : Parts). g.address) same ∙ own-address (book_of c.args.self.now) c.args.self.now.kept c.args.addr f got in
    let is : test (c.args.addr, f) ≡ true = sym (λ i. test (at i, same i)) ∙ sym c.wants.ensures ∙ c.if-not-wants.false in
    let copy : c.in_ok-copy.field-0 ≡ f = c.in_ok-copy.ensures ∙ same in
    ap (λ xs. xs ++ take (c.args.left - 1) (filter test es)) (c.in_ok-push.ensures.items ∙ (λ i. old ++ (c.args.addr, copy i) ∷ []))
    ∙ one-more test old c.args.left (c.args.addr, f) es (some-left c.args.left c.if-left-eq0.false) is
