use Rattle.std.proofs.Common.{◌∷◌, [], refl, sym, subst}
use Rattle.std.specs.Arc.{arc_value}
use Rattle.registry.specs.declared.entry.Entry.TheVariants.{Attach, Merge}
use Rattle.registry.specs.Content.{content_of}
use Rattle.registrar.specs.Calls.{AreCovered, Holder, HoldsOwn, handing, plain}
use Rattle.registrar.proofs.tests.visit.Goals as goal

pub returns-clause-covered : goal.returns-clause-covered
returns-clause-covered g c =
    let a = c.in_ok-attached.attached in
    let own = (g.R.Registrar.holder c.args.registrar.now).own in
    let unit = content_of (arc_value a.unit) in
    let behind = (g.R.Registrar.holder c.attach.new.self).own in
    let last = (g.R.Registrar.holder c.merge.new.self).own in
    let covered = subst (λ (h : Holder). AreCovered h.own) (sym c.in_ok-attached.ensures.ok) (c.covered_stays.ensures.others own (handing (Attach c.args.guest 0 0 a.age a.version) unit) (λ s b. refl) c.requires.covered) in
    let held = subst (λ (h : Holder). HoldsOwn 0 a.age h.own) (sym c.in_ok-attached.ensures.ok) (c.attached_is_held.ensures.held own c.args.guest 0 0 a.age a.version unit c.requires.covered) in
    let merge = plain (Merge c.args.guest 0 a.age (c.args.block.address ∷ []) c.in_ok-merged.merged) in
    let covered_last = subst (λ (h : Holder). AreCovered h.own) (sym c.in_ok-merged.ensures.ok) (c.covered_stays.ensures.others behind merge (λ s b. refl) covered) in
    let held_last = subst (λ (h : Holder). HoldsOwn 0 a.age h.own) (sym c.in_ok-merged.ensures.ok) (c.held_stays.ensures behind merge 0 a.age refl held) in
    subst (λ (h : Holder). AreCovered h.own) (sym c.detach.ensures) (c.covered_stays.ensures.detached last c.args.guest 0 a.age held_last covered_last)
