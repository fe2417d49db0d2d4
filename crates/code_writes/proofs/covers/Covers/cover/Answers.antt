use Rattle.std.proofs.Common.{◌≡◌, ◌≢◌, ℕ, ◌∙◌, ap, sym, refl, cond, Some, None}
use Rattle.std.specs.Ordering.{nat_cmp}
use Rattle.std.specs.Map.{lookup}
use Rattle.std.specs.BTreeMap.{get, is_at}
use Rattle.std.specs.FinMap as fin
use Rattle.code_writes.specs.Block.{block, is_on}
use Rattle.code_writes.specs.Pages.{on_page}
use Rattle.code_writes.proofs.Maps.{get_seen, insert_seen}
use Rattle.code_writes.proofs.Indexing.{at_same, at_other, add-index, cut-index, short-add, cut-added, on_err, on_ok}
use Rattle.code_writes.proofs.covers.Covers.cover.Goals as goal

pub invariant_of-self : goal.invariant_of-self
invariant_of-self c =
    let live = get nat_cmp c.self.inside.lens in let addr = c.args.addr in
    let none : live addr ≡ None = sym (get_seen c.self.inside.lens.entries addr) ∙ ap (λ m. fin.get m addr) c.self.view_is ∙ c.requires.absent in (
      c.self.invariant.0,
      cut-index live live (on_page c.self.inside.pages) (on_page c.add.new.self) addr c.args.len c.self.invariant.1 (λ l there. let clash : None ≡ Some l = sym none ∙ there in cc) none (λ q apart. refl) c.in_err-add.ensures.err,
    )

pub invariant_of-self-then-is_err : goal.invariant_of-self-then-is_err
invariant_of-self-then-is_err c =
    let live = get nat_cmp c.self.inside.lens in let now = get nat_cmp c.insert.new.self in let addr = c.args.addr in
    let none : live addr ≡ None = sym (get_seen c.self.inside.lens.entries addr) ∙ ap (λ m. fin.get m addr) c.self.view_is ∙ c.requires.absent in
    let kept = on_err c.insert.result (sym c.is_err.ensures.value ∙ c.if-is_err.true) c.insert.ensures.err in
    let same : (q : ℕ) → now q ≡ live q = λ q. ap (λ es. lookup (is_at (nat_cmp q)) es) kept in (
      λ a len there. c.self.invariant.0 a len (sym (same a) ∙ there),
      cut-index live now (on_page c.self.inside.pages) (on_page c.cut.new.self) addr c.args.len c.self.invariant.1 (λ l there. let clash : None ≡ Some l = sym none ∙ there in cc) (same addr ∙ none) (λ q apart. same q)
          (λ p. cut-added (block addr c.args.len) (on_page c.self.inside.pages p) (on_page c.add.new.self p) (on_page c.cut.new.self p) (is_on addr c.args.len p) (c.in_ok-add.ensures.ok p) (c.cut.ensures p)),
    )

pub invariant_of-self-else-is_err : goal.invariant_of-self-else-is_err
invariant_of-self-else-is_err c =
    let live = get nat_cmp c.self.inside.lens in let now = get nat_cmp c.insert.new.self in let addr = c.args.addr in let len = c.args.len in
    let none : live addr ≡ None = sym (get_seen c.self.inside.lens.entries addr) ∙ ap (λ m. fin.get m addr) c.self.view_is ∙ c.requires.absent in
    let updates = (on_ok c.insert.result (sym c.is_err.ensures.value ∙ c.if-is_err.false) c.insert.ensures.updates).0 in
    let here : now addr ≡ Some len = updates addr ∙ ap (λ b. cond b (Some len) (live addr)) (at_same addr) in
    let others : (q : ℕ) → q ≢ addr → now q ≡ live q = λ q apart. updates q ∙ ap (λ b. cond b (Some len) (live q)) (at_other addr q apart) in (
      short-add live now addr len c.self.invariant.0 c.requires.some c.requires.short c.requires.within here others,
      add-index live now (on_page c.self.inside.pages) (on_page c.add.new.self) addr len c.self.invariant.1 none here others c.in_ok-add.ensures.ok,
    )

pub returns-clause-ok : goal.returns-clause-ok
returns-clause-ok c =
    insert_seen c.self.inside.lens.entries c.insert.new.self.entries c.args.addr c.args.len (on_ok c.insert.result (sym c.is_err.ensures.value ∙ c.if-is_err.false) c.insert.ensures.updates).0
    ∙ ap (λ m. fin.insert m c.args.addr c.args.len) c.self.view_is
