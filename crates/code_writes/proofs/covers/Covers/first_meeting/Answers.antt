use Rattle.std.proofs.Common.{◌≡◌, ◌<◌, ◌+◌, ◌-◌, ◌/◌, max, ◌∙◌, ap, sym, arith, None}
use Rattle.std.specs.BTreeMap.{get}
use Rattle.std.specs.Ordering.{nat_cmp}
use Rattle.std.specs.FinMap as fin
use Rattle.code_writes.specs.Block.{passes}
use Rattle.code_writes.specs.Pages.{on_page}
use Rattle.code_writes.proofs.Maps.{get_seen}
use Rattle.code_writes.proofs.Searching.{none-left, none-in, passes-page, answers-page, told}
use Rattle.code_writes.proofs.covers.Covers.first_meeting.Goals as goal

pub loop-page-init : goal.loop-page-init
loop-page-init c =
    let start = ap (λ v. v.start) c.s.view_is in
    let same : max c.args.s.start c.args.from / 256 ≡ c.max-page.result / 256 = ap (λ m. m / 256) (ap (λ m. max m c.args.from) (sym start) ∙ sym c.max-page.ensures) in record {
      start = omega (arith, same);
      last = λ i. ((c.s.view_is i).start + ((c.s.view_is i).len - 1)) / 256;
      none = λ a len p f there met is le. omega (arith, same, le);
    }

pub returns-in_default : goal.returns-in_default
returns-in_default c =
    let live = get nat_cmp c.self.inside.lens in let pages = on_page c.self.inside.pages in
    let x = c.args.s.start in let n = c.args.s.len in let from = c.args.from in
    let some : 0 < n = omega (arith, ap (λ v. v.len) c.s.view_is, c.if-s-eq0.false) in
    let inv = c.loop-page.invariant in
    told live (fin.get c.args.self.now) x n from None (λ q. sym (get_seen c.self.inside.lens.entries q) ∙ ap (λ m. fin.get m q) c.self.view_is)
    (none-left live pages x n from c.self.invariant.1 some c.loop-page.page inv.none (λ p h k. c.in_default.ensures.none p h))

pub returns-then-held-last : goal.returns-then-held-last
returns-then-held-last c =
    let live = get nat_cmp c.self.inside.lens in let pages = on_page c.self.inside.pages in
    let x = c.args.s.start in let n = c.args.s.len in let from = c.args.from in
    let some : 0 < n = omega (arith, ap (λ v. v.len) c.s.view_is, c.if-s-eq0.false) in
    let inv = c.loop-page.invariant in
    told live (fin.get c.args.self.now) x n from None (λ q. sym (get_seen c.self.inside.lens.entries q) ∙ ap (λ m. fin.get m q) c.self.view_is)
    (none-left live pages x n from c.self.invariant.1 some c.loop-page.page inv.none (λ p h k. c.in-Some.ensures.passed p h (omega (arith, inv.last, c.if-held-last.true))))

pub returns-then-is_some : goal.returns-then-is_some
returns-then-is_some c =
    let live = get nat_cmp c.self.inside.lens in let pages = on_page c.self.inside.pages in
    let x = c.args.s.start in let n = c.args.s.len in let from = c.args.from in
    let some : 0 < n = omega (arith, ap (λ v. v.len) c.s.view_is, c.if-s-eq0.false) in
    let inv = c.loop-page.invariant in
    told live (fin.get c.args.self.now) x n from c.in-Some.first (λ q. sym (get_seen c.self.inside.lens.entries q) ∙ ap (λ m. fin.get m q) c.self.view_is)
    (answers-page live pages x n from c.self.invariant.1 some c.loop-page.page c.in-Some.held c.in-Some.first (sym c.is_some.ensures ∙ c.if-is_some.true) inv.start c.in-Some.ensures.low inv.none c.in-Some.ensures.passed c.in-Some.ensures.first)

pub loop-page-preserved : goal.loop-page-preserved
loop-page-preserved c =
    let live = get nat_cmp c.self.inside.lens in let pages = on_page c.self.inside.pages in
    let x = c.args.s.start in let n = c.args.s.len in let from = c.args.from in
    let some : 0 < n = omega (arith, ap (λ v. v.len) c.s.view_is, c.if-s-eq0.false) in
    let inv = c.loop-page.invariant in
    record {
      start = omega (arith, inv.start, c.in-Some.ensures.low);
      last = inv.last;
      none = passes-page live pages x n from c.self.invariant.1 some c.loop-page.page c.in-Some.held inv.none c.in-Some.ensures.passed
          (none-in (passes x n from) (pages c.in-Some.held) c.in-Some.first (sym c.is_some.ensures ∙ c.if-is_some.false) c.in-Some.ensures.first);
    }

pub returns : goal.returns
returns c =
    let live = get nat_cmp c.self.inside.lens in let pages = on_page c.self.inside.pages in
    let x = c.args.s.start in let n = c.args.s.len in let from = c.args.from in
    let some : 0 < n = omega (arith, ap (λ v. v.len) c.s.view_is, c.if-s-eq0.false) in
    let inv = c.loop-page.invariant in
    told live (fin.get c.args.self.now) x n from None (λ q. sym (get_seen c.self.inside.lens.entries q) ∙ ap (λ m. fin.get m q) c.self.view_is)
    (none-left live pages x n from c.self.invariant.1 some c.loop-page.page inv.none (λ p h k. absurd (omega (arith, inv.last, c.loop-page-test.false))))
