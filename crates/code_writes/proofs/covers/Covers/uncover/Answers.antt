use Rattle.std.proofs.Common.{◌≡◌, ◌≢◌, ℕ, ◌∙◌, ap, sym, cond, Some, None}
use Rattle.std.specs.Ordering.{nat_cmp}
use Rattle.std.specs.BTreeMap.{get}
use Rattle.std.specs.FinMap as fin
use Rattle.code_writes.specs.Pages.{on_page}
use Rattle.code_writes.proofs.Maps.{remove_seen}
use Rattle.code_writes.proofs.Indexing.{at_same, at_other, cut-index, short-cut, same_value}
use Rattle.code_writes.proofs.covers.Covers.uncover.Goals as goal

pub invariant_of-self : goal.invariant_of-self
invariant_of-self c =
    let live = get nat_cmp c.self.inside.lens in let now = get nat_cmp c.remove.new.self in let addr = c.args.addr in
    let value : live addr ≡ Some c.in-Some.len = sym c.remove.ensures.value ∙ c.in-Some.is in
    let updates = c.remove.ensures.updates.0 in
    let gone : now addr ≡ None = updates addr ∙ ap (λ b. cond b None (live addr)) (at_same addr) in
    let others : (q : ℕ) → q ≢ addr → now q ≡ live q = λ q apart. updates q ∙ ap (λ b. cond b None (live q)) (at_other addr q apart) in (
      short-cut live now addr c.self.invariant.0 gone others,
      cut-index live now (on_page c.self.inside.pages) (on_page c.cut.new.self) addr c.in-Some.len c.self.invariant.1 (λ l there. same_value l c.in-Some.len (sym there ∙ value)) gone others c.cut.ensures,
    )

pub returns-in-Some : goal.returns-in-Some
returns-in-Some c =
    remove_seen c.self.inside.lens.entries c.remove.new.self.entries c.args.addr c.remove.ensures.updates.0
    ∙ ap (λ m. fin.remove m c.args.addr) c.self.view_is

pub returns-in_default : goal.returns-in_default
returns-in_default c =
    remove_seen c.self.inside.lens.entries c.remove.new.self.entries c.args.addr c.remove.ensures.updates.0
    ∙ ap (λ m. fin.remove m c.args.addr) c.self.view_is
