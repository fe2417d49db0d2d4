use Rattle.std.proofs.Common.{ℕ, List, arith, sym, ap, subst, ◌∙◌}
use Rattle.std.specs.List.{All}
use Rattle.unit_set.specs.Held.{IsFreshFor}
use Rattle.registry.specs.State.{State, with_at}
use Rattle.registry.specs.Registry.{generation_in, generation_of, merge_reply, slot_in, no_state, no_generation, merged, with_generation}
use Rattle.registry.specs.History.{History, IsHeld, state_of, AreVersioned, IsVersioned}
use Rattle.registry.proofs.Lists.{all_nth}
use Rattle.registry.proofs.Keeps.{merge_kept}
use Rattle.registry.proofs.registry.Registry.merge.Goals as goal

pub merge_at-requires-clause-fresh : goal.merge_at-requires-clause-fresh
merge_at-requires-clause-fresh c =
    let is = c.self.invariant.fold ∙ ap (λ (h : History). state_of h) c.self.view_is in
    subst (λ (s : State). All (IsFreshFor (generation_of s c.args.slot c.args.age).unit.slot (generation_of s c.args.slot c.args.age).unit.image) c.args.added.now) (sym is) c.requires.fresh

pub merge_at-requires-clause-version : goal.merge_at-requires-clause-version
merge_at-requires-clause-version c =
    let is = c.self.invariant.fold ∙ ap (λ (h : History). state_of h) c.self.view_is in
    let held = subst (λ (s : State). IsHeld s c.args.slot c.args.age) (sym is) c.requires.held in
    all_nth IsVersioned _ c.args.age no_generation (all_nth AreVersioned c.self.inside.slots.items c.args.slot no_state c.self.invariant.versions held.slot_there) held.age_there

pub invariant_of-self-2 : goal.invariant_of-self-2
invariant_of-self-2 c =
    let is = c.self.invariant.fold ∙ ap (λ (h : History). state_of h) c.self.view_is in
    let held = subst (λ (s : State). IsHeld s c.args.slot c.args.age) (sym is) c.requires.held in
    merge_kept _ _ _ _ _ _ _ _ c.self.invariant _ _ _ c.args.guest c.args.slot c.args.age c.in_ok-addrs.addrs c.in_ok-reply.reply held.slot_there (cc) (omega (arith, c.in_ok-reserve.ensures.ok))
    (c.in_ok-reply.ensures.reply ∙ ap (λ (xs : List ℕ). merge_reply xs (generation_in (slot_in c.self.inside.slots.items c.args.slot).generations c.args.age)) (sym c.in_ok-addrs.ensures))
    (c.in_ok-reply.ensures.new ∙ ap (λ (xs : List ℕ). with_at (with_generation c.args.age (merged xs)) c.args.slot c.self.inside.slots.items) (sym c.in_ok-addrs.ensures))
