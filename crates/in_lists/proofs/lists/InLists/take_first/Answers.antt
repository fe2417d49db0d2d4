use Rattle.std.proofs.Common.{◌<◌, [], drop, length, get_or, slice_get, sym, ap, ◌∙◌, subst, arith}
use Rattle.in_lists.specs.Lists.{IsIn, IsKept, list_of, with_list, cut_out}
use Rattle.in_lists.specs.Linked.{lists_of}
use Rattle.in_lists.proofs.Keeping.{kept, Contains-from_In}
use Rattle.in_lists.proofs.Calls.{none_first, some_first, first_in_list, first_below, after_take}
use Rattle.in_lists.proofs.lists.InLists.take_first.Goals as goal

pub returns-then-first-end-clause-value : goal.returns-then-first-end-clause-value
returns-then-first-end-clause-value c =
    let ns = c.self.inside.nodes in let exits = c.self.inside.exits in let h = c.args.head in
    let fh = subst (λ v. h < length v.lists) (sym c.self.view_is) c.requires in
    let none = none_first ns exits (lists_of ns exits) c.self.invariant h fh (sym (ap (λ n. n.next) c.get-first.ensures) ∙ c.if-first-end.true) in
    sym (ap (λ l. slice_get l 0) (ap (λ v. list_of v h) (sym c.self.view_is) ∙ none))

pub overflow_cast-exit : goal.overflow_cast-exit
overflow_cast-exit c =
    let ns = c.self.inside.nodes in let exits = c.self.inside.exits in let h = c.args.head in
    let fh = subst (λ v. h < length v.lists) (sym c.self.view_is) c.requires in
    let below = first_below ns exits (lists_of ns exits) c.self.invariant h fh c.get-first.result.next (ap (λ n. n.next) c.get-first.ensures) c.if-first-end.false in
    record { fits = omega arith }

pub cut-requires : goal.cut-requires
cut-requires c =
    let ns = c.self.inside.nodes in let exits = c.self.inside.exits in let h = c.args.head in let first = c.get-first.result.next in
    let fh = subst (λ v. h < length v.lists) (sym c.self.view_is) c.requires in (
      h,
      subst (λ v. IsIn v first h) c.self.view_is
          (Contains-from_In first (get_or (lists_of ns exits) h []) (first_in_list ns exits (lists_of ns exits) c.self.invariant h fh first (ap (λ n. n.next) c.get-first.ensures) c.if-first-end.false)),
    )

pub returns-clause-value : goal.returns-clause-value
returns-clause-value c =
    let ns = c.self.inside.nodes in let exits = c.self.inside.exits in let h = c.args.head in let first = c.get-first.result.next in
    let fh = subst (λ v. h < length v.lists) (sym c.self.view_is) c.requires in
    let begins = some_first ns exits (lists_of ns exits) c.self.invariant h fh first (ap (λ n. n.next) c.get-first.ensures) c.if-first-end.false in
    sym (ap (λ l. slice_get l 0) (ap (λ v. list_of v h) (sym c.self.view_is) ∙ begins.1))

pub returns-clause-lists : goal.returns-clause-lists
returns-clause-lists c =
    let ns = c.self.inside.nodes in let exits = c.self.inside.exits in let h = c.args.head in let first = c.get-first.result.next in
    let fh = subst (λ v. h < length v.lists) (sym c.self.view_is) c.requires in
    c.cut.ensures ∙ ap (λ v. cut_out v first) (sym c.self.view_is)
    ∙ after_take ns exits (lists_of ns exits) c.self.invariant h fh first (ap (λ n. n.next) c.get-first.ensures) c.if-first-end.false
    ∙ ap (λ v. with_list v h (drop 1 (list_of v h))) c.self.view_is
