use Rattle.std.proofs.Common.{ℕ, ◌<◌, ◌∷◌, [], length, set, get_or, sym, ap, ◌∙◌, subst}
use Rattle.in_lists.specs.Lists.{incoming, IsIn, list_of, with_list}
use Rattle.in_lists.specs.Linked.{In, lists_of}
use Rattle.in_lists.proofs.Keeping.{Contains-from_In}
use Rattle.in_lists.proofs.Putting.{exit_within, first_within}
use Rattle.in_lists.proofs.Calls.{StandFor, after_put}
use Rattle.in_lists.proofs.lists.InLists.put.Goals as goal

pub join-requires : goal.join-requires
join-requires c =
    let ns = c.self.inside.nodes in let exits = c.self.inside.exits in let ls = lists_of ns exits in let h = c.args.head in let e = c.args.exit in
    let fe = subst (λ v. e < v.exits) (sym c.self.view_is) c.requires.in_range.0 in
    let fh = subst (λ v. h < length v.lists) (sym c.self.view_is) c.requires.in_range.1 in
    (exit_within ns exits ls c.self.invariant h fh e fe, subst (λ n. n.next < length ns) (sym c.get-after.ensures) (first_within ns exits ls c.self.invariant h fh))

stands : (c : goal.After-set_head)
    → StandFor c.set_head.new.self c.self.inside.exits (set (lists_of c.self.inside.nodes c.self.inside.exits) c.args.head (c.args.exit ∷ get_or (lists_of c.self.inside.nodes c.self.inside.exits) c.args.head []))
stands c =
    let ns = c.self.inside.nodes in let exits = c.self.inside.exits in let ls = lists_of ns exits in let h = c.args.head in let e = c.args.exit in
    let fe = subst (λ v. e < v.exits) (sym c.self.view_is) c.requires.in_range.0 in
    let fh = subst (λ v. h < length v.lists) (sym c.self.view_is) c.requires.in_range.1 in
    let absent = λ (g : ℕ) (inside : In e (get_or ls g [])). c.requires.in_no_list g (subst (λ v. IsIn v e g) c.self.view_is (Contains-from_In e (get_or ls g []) inside)) in
    after_put ns c.join.new.self c.join-2.new.self c.set_head.new.self exits ls c.get-after.result h e c.self.invariant fh fe absent
    c.get-after.ensures c.join.ensures c.join-2.ensures c.set_head.ensures

pub invariant_of-self : goal.invariant_of-self
invariant_of-self c = (stands c).whole

pub returns : goal.returns
returns c = ap (incoming c.self.inside.exits) (stands c).same ∙ ap (λ v. with_list v c.args.head (c.args.exit ∷ list_of v c.args.head)) c.self.view_is
