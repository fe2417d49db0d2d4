use Rattle.std.proofs.Common.{subst, sym, ap, ◌∙◌, arith, List}
use Rattle.unit_set.specs.Held.{Held}
use Rattle.publish.specs.declared.outcome.Pub.{Pub}
use Rattle.registry.specs.declared.registry.Due.{Due as Answer}
use Rattle.registry.specs.Content.{content_of}
use Rattle.registry.specs.Dues.{Dues, HasName}
use Rattle.registry.specs.History.{state_of}
use Rattle.publisher.specs.Going.{Going}
use Rattle.publisher.proofs.Entries.{dues_few, no_dues}
use Rattle.publisher.proofs.Goings.{going_ends, going_fits, going_next, going_rests, going_start, going_stops}
use Rattle.publisher.proofs.serving.serve_all.Goals as goal

pub loop-init : goal.loop-init
loop-init g c =
    let shelf = g.H.Shelf in
    let old = c.args.shelf.now in
    let h = c.args.registry.now in
    let st = c.args.standings.now in (
      subst (λ (v : List Pub). Going h h st st (shelf.told old) (shelf.told old) (shelf.moment old) (shelf.moment old) (shelf.images old) (shelf.faults old) (shelf.faults old) v) (sym c.new-served.ensures.items)
          (going_start h st (shelf.told old) (shelf.moment old) (shelf.images old) (shelf.faults old) c.requires.standings c.requires.fits),
      omega (arith, dues_few (state_of h), c.slot_count-end.ensures),
    )

pub publish_due-requires-clause-may : goal.publish_due-requires-clause-may
publish_due-requires-clause-may g c =
    let d = subst (λ (x : Answer). Dues c.loop.registry c.due.new.self x) c.in-Slot.is c.in_ok-slot.ensures.ok in
    c.dues_may_be_answered.ensures c.loop.registry c.due.new.self c.in-Slot.slot c.in-Slot.age c.in-Slot.version d.0

pub publish_due-requires-clause-fits : goal.publish_due-requires-clause-fits
publish_due-requires-clause-fits g c =
    let d = subst (λ (x : Answer). Dues c.loop.registry c.due.new.self x) c.in-Slot.is c.in_ok-slot.ensures.ok in
    let n = subst (λ (x : Answer). HasName c.loop.registry.opening x) c.in-Slot.is c.in_ok-slot.ensures.slot in
    going_fits _ c.loop.registry c.due.new.self _ _ _ _ _ _ _ _ _ _ c.in-Slot.slot c.in-Slot.age c.in-Slot.version c.deref.result.now c.loop.invariant.0 d.0 n.0 (ap (λ (u : Held). u.slot) c.deref.ensures ∙ n.1)

pub returns-in_err-publish_due-clause-ends : goal.returns-in_err-publish_due-clause-ends
returns-in_err-publish_due-clause-ends g c =
    let d = subst (λ (x : Answer). Dues c.loop.registry c.due.new.self x) c.in-Slot.is c.in_ok-slot.ensures.ok in
    let n = subst (λ (x : Answer). HasName c.loop.registry.opening x) c.in-Slot.is c.in_ok-slot.ensures.slot in
    going_stops c.args.registry.now c.loop.registry c.due.new.self _ _ _ _ _ _ _ _ _ _ _ _ _ _ _ _ c.in-Slot.slot c.in-Slot.age c.in-Slot.version c.deref.result.now c.in_err-publish_due.ensures.outcome
    c.requires.names c.loop.invariant.0 d.0 n.0 (ap (λ (u : Held). u.slot) c.deref.ensures ∙ n.1) (ap (λ (u : Held). content_of u) c.deref.ensures ∙ d.1) c.in_err-publish_due.ensures.wrote
    c.in_err-publish_due.ensures.err

pub returns-in_err-push-clause-ends : goal.returns-in_err-push-clause-ends
returns-in_err-push-clause-ends g c =
    let d = subst (λ (x : Answer). Dues c.loop.registry c.due.new.self x) c.in-Slot.is c.in_ok-slot.ensures.ok in
    let n = subst (λ (x : Answer). HasName c.loop.registry.opening x) c.in-Slot.is c.in_ok-slot.ensures.slot in
    going_ends _ _ _ _ _ _ _ _ _ _ _ _
    (going_next c.args.registry.now c.loop.registry c.due.new.self _ _ _ _ _ _ _ _ _ _ _ _ _ _ _ _ c.in-Slot.slot c.in-Slot.age c.in-Slot.version c.deref.result.now c.in_ok-publish_due.ensures.outcome c.in_ok-publish_due.field-0
    c.requires.names c.loop.invariant.0 d.0 n.0 (ap (λ (u : Held). u.slot) c.deref.ensures ∙ n.1) (ap (λ (u : Held). content_of u) c.deref.ensures ∙ d.1) c.in_ok-publish_due.ensures.within c.in_ok-publish_due.ensures.wrote
    c.in_ok-publish_due.ensures.ok).0

pub loop-preserved : goal.loop-preserved
loop-preserved g c =
    let shelf = g.H.Shelf in
    let d = subst (λ (x : Answer). Dues c.loop.registry c.due.new.self x) c.in-Slot.is c.in_ok-slot.ensures.ok in
    let n = subst (λ (x : Answer). HasName c.loop.registry.opening x) c.in-Slot.is c.in_ok-slot.ensures.slot in
    let next = going_next c.args.registry.now c.loop.registry c.due.new.self _ _ _ _ _ _ _ _ _ _ _ _ _ _ _ _ c.in-Slot.slot c.in-Slot.age c.in-Slot.version c.deref.result.now c.in_ok-publish_due.ensures.outcome
    c.in_ok-publish_due.field-0 c.requires.names c.loop.invariant.0 d.0 n.0 (ap (λ (u : Held). u.slot) c.deref.ensures ∙ n.1) (ap (λ (u : Held). content_of u) c.deref.ensures ∙ d.1) c.in_ok-publish_due.ensures.within
    c.in_ok-publish_due.ensures.wrote c.in_ok-publish_due.ensures.ok in (
      subst (λ (v : List Pub). Going c.args.registry.now c.publish_due.new.registry c.args.standings.now c.publish_due.new.standings (shelf.told c.args.shelf.now) (shelf.told c.publish_due.new.shelf)
          (shelf.moment c.args.shelf.now) (shelf.moment c.publish_due.new.shelf) (shelf.images c.publish_due.new.shelf) (shelf.faults c.args.shelf.now) (shelf.faults c.publish_due.new.shelf) v)
          (sym c.in_ok-push.ensures.items) next.0,
      omega (arith, next.1, c.loop.invariant.1),
    )

pub returns-in_err-slot-clause-ends : goal.returns-in_err-slot-clause-ends
returns-in_err-slot-clause-ends g c = going_rests _ _ _ _ _ _ _ _ _ _ _ _ _ c.in_err-slot.ensures.err c.loop.invariant.0

pub returns-in_default-clause-ends : goal.returns-in_default-clause-ends
returns-in_default-clause-ends g c =
    let d = subst (λ (x : Answer). Dues c.loop.registry c.due.new.self x) c.in_default.is c.in_ok-slot.ensures.ok in
    going_rests _ _ _ _ _ _ _ _ _ _ _ _ _ d.1 c.loop.invariant.0

pub returns-clause-ends : goal.returns-clause-ends
returns-clause-ends g c = going_ends _ _ _ _ _ _ _ _ _ _ _ _ c.loop.invariant.0

pub returns-clause-whole : goal.returns-clause-whole
returns-clause-whole g c = record { going = c.loop.invariant.0; none_due = no_dues (state_of c.loop.registry) (omega (arith, c.loop.invariant.1, c.loop-test.false)) }
