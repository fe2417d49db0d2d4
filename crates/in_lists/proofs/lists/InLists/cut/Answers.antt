use Rattle.std.proofs.Common.{◌≡◌, ℕ, ◌<◌, [], length, get_or, sym, ap, ◌∙◌, subst}
use Rattle.in_lists.specs.declared.lists.InLists.TheInside.{Inside}
use Rattle.in_lists.specs.Lists.{Incoming, incoming, IsIn, cut_out}
use Rattle.in_lists.specs.View.{view_of}
use Rattle.in_lists.specs.Linked.{In, lists_of}
use Rattle.in_lists.proofs.Keeping.{In-from_Contains}
use Rattle.in_lists.proofs.Links.{length-joined}
use Rattle.in_lists.proofs.Cutting.{cut_lists, cut_within, before_within, after_within}
use Rattle.in_lists.proofs.Calls.{StandFor, after_cut}
use Rattle.in_lists.proofs.lists.InLists.cut.Goals as goal

-- the head in whose list the exit is
inside : (a : Inside) (now : Incoming) (e : ℕ) → view_of a ≡ now → (in_list : (h : ℕ) × IsIn now e h) → In e (get_or (lists_of a.nodes a.exits) in_list.0 [])
inside a now e is in_list = In-from_Contains e (get_or (lists_of a.nodes a.exits) in_list.0 []) (subst (λ v. IsIn v e in_list.0) (sym is) in_list.1)

pub get-node-requires : goal.get-node-requires
get-node-requires c =
    let ns = c.self.inside.nodes in let exits = c.self.inside.exits in
    cut_within ns exits (lists_of ns exits) c.self.invariant c.requires.0 c.args.exit (inside c.self.inside c.args.self.now c.args.exit c.self.view_is c.requires)

pub join-requires : goal.join-requires
join-requires c =
    let ns = c.self.inside.nodes in let exits = c.self.inside.exits in let ls = lists_of ns exits in let e = c.args.exit in
    let there = inside c.self.inside c.args.self.now e c.self.view_is c.requires in (
      subst (λ n. n.prev < length ns) (sym c.get-node.ensures) (before_within ns exits ls c.self.invariant c.requires.0 e there),
      subst (λ n. n.next < length ns) (sym c.get-node.ensures) (after_within ns exits ls c.self.invariant c.requires.0 e there),
    )

pub set_head-requires : goal.set_head-requires
set_head-requires c =
    let ns = c.self.inside.nodes in let exits = c.self.inside.exits in let e = c.args.exit in
    subst (λ k. e < k) (sym (ap length c.join.ensures ∙ length-joined ns c.get-node.result.prev c.get-node.result.next))
    (cut_within ns exits (lists_of ns exits) c.self.invariant c.requires.0 e (inside c.self.inside c.args.self.now e c.self.view_is c.requires))

stands : (c : goal.After-set_head)
    → StandFor c.set_head.new.self c.self.inside.exits
    (cut_lists c.self.inside.nodes c.self.inside.exits (lists_of c.self.inside.nodes c.self.inside.exits) c.self.invariant c.requires.0 c.args.exit (inside c.self.inside c.args.self.now c.args.exit c.self.view_is c.requires))
stands c =
    let ns = c.self.inside.nodes in let exits = c.self.inside.exits in
    after_cut ns c.join.new.self c.set_head.new.self exits (lists_of ns exits) c.get-node.result c.requires.0 c.args.exit c.self.invariant
    (inside c.self.inside c.args.self.now c.args.exit c.self.view_is c.requires) c.get-node.ensures c.join.ensures c.set_head.ensures

pub invariant_of-self : goal.invariant_of-self
invariant_of-self c = (stands c).whole

pub returns : goal.returns
returns c = ap (incoming c.self.inside.exits) (stands c).same ∙ ap (λ v. cut_out v c.args.exit) c.self.view_is
