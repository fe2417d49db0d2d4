use Rattle.std.proofs.Common.{◌≡◌, ◌+◌, ap, subst, ◌∙◌}
use Rattle.std.specs.Arc.{arc_value}
use Rattle.unit_set.specs.Held.{Held, addresses}
use Rattle.registry.specs.declared.entry.Merged.TheVariants.{Version, UnitFull}
use Rattle.registry.specs.Content.{content_of}
use Rattle.registry.specs.State.{Generation}
use Rattle.registry.specs.Registry.{merged, merge_reply}
use Rattle.registry.proofs.Merging.{Becomes, join-of, joined-full, joined-new, joined-same, known}
use Rattle.registry.proofs.slot.Generation.merge.Goals as goal

in-new : (c : goal.After-self-1) → Becomes (addresses c.args.added.now) (record { unit = content_of (arc_value c.self.inside.unit); version = c.self.inside.version; attached = c.self.inside.attached })
    (record { unit = content_of c.in-New.unit; version = c.self.inside.version + 1; attached = c.self.inside.attached }) (Version (c.self.inside.version + 1))
in-new c =
    let inner = arc_value c.self.inside.unit in
    let are = known c.deref.result.now inner c.addrs.result.now c.deref.ensures c.addrs.ensures.addresses c.addrs.ensures.rises c.addrs.ensures.few in
    let short = known c.in-New.unit c.in-New.unit c.addrs-in-New.result.now (λ _. c.in-New.unit) c.addrs-in-New.ensures.addresses c.addrs-in-New.ensures.rises c.addrs-in-New.ensures.few in
    joined-new inner c.args.added.now c.self.inside.version c.self.inside.attached are c.in-New.unit
    (join-of c.deref-2.result.now inner c.args.added.now _ _ c.deref-2.ensures c.in-New.is c.in_ok-unit.ensures) short.few

in-same : (c : goal.In-Same) → Becomes (addresses c.args.added.now) (record { unit = content_of (arc_value c.self.inside.unit); version = c.self.inside.version; attached = c.self.inside.attached })
    (record { unit = content_of (arc_value c.self.inside.unit); version = c.self.inside.version; attached = c.self.inside.attached }) (Version c.self.inside.version)
in-same c =
    let inner = arc_value c.self.inside.unit in
    let are = known c.deref.result.now inner c.addrs.result.now c.deref.ensures c.addrs.ensures.addresses c.addrs.ensures.rises c.addrs.ensures.few in
    joined-same inner c.args.added.now c.self.inside.version c.self.inside.attached are
    (join-of c.deref-2.result.now inner c.args.added.now _ _ c.deref-2.ensures c.in-Same.is c.in_ok-unit.ensures)

in-full : (c : goal.In-Full) → Becomes (addresses c.args.added.now) (record { unit = content_of (arc_value c.self.inside.unit); version = c.self.inside.version; attached = c.self.inside.attached })
    (record { unit = content_of (arc_value c.self.inside.unit); version = c.self.inside.version; attached = c.self.inside.attached }) (UnitFull c.in-Full.n)
in-full c =
    let inner = arc_value c.self.inside.unit in
    let are = known c.deref.result.now inner c.addrs.result.now c.deref.ensures c.addrs.ensures.addresses c.addrs.ensures.rises c.addrs.ensures.few in
    joined-full inner c.args.added.now c.self.inside.version c.self.inside.attached are c.in-Full.n
    (join-of c.deref-2.result.now inner c.args.added.now _ _ c.deref-2.ensures c.in-Full.is c.in_ok-unit.ensures)

pub returns-in_ok-self-inside-in-New-clause-new : goal.returns-in_ok-self-inside-in-New-clause-new
returns-in_ok-self-inside-in-New-clause-new c =
    ap (λ (u : Held). let g : Generation = record { unit = content_of u; version = c.self.inside.version + 1; attached = c.self.inside.attached } in g) c.in_ok-self-inside-in-New.ensures.ok
    ∙ ((in-new c).generation ∙ ap (merged (addresses c.args.added.now)) c.self.view_is)

pub returns-in_ok-self-inside-in-New-clause-reply : goal.returns-in_ok-self-inside-in-New-clause-reply
returns-in_ok-self-inside-in-New-clause-reply c = (in-new c).told ∙ ap (merge_reply (addresses c.args.added.now)) c.self.view_is

pub returns-in-Same-clause-new : goal.returns-in-Same-clause-new
returns-in-Same-clause-new c = subst (λ (g : Generation). g ≡ merged (addresses c.args.added.now) g) c.self.view_is (in-same c).generation

pub returns-in-Same-clause-reply : goal.returns-in-Same-clause-reply
returns-in-Same-clause-reply c = (in-same c).told ∙ ap (merge_reply (addresses c.args.added.now)) c.self.view_is

pub returns-in-Full-clause-new : goal.returns-in-Full-clause-new
returns-in-Full-clause-new c = subst (λ (g : Generation). g ≡ merged (addresses c.args.added.now) g) c.self.view_is (in-full c).generation

pub returns-in-Full-clause-reply : goal.returns-in-Full-clause-reply
returns-in-Full-clause-reply c = (in-full c).told ∙ ap (merge_reply (addresses c.args.added.now)) c.self.view_is
