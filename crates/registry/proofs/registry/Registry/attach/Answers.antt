use Rattle.std.proofs.Common.{◌≡◌, ℕ, arith, sym, ap, subst, ◌∙◌, [], length, refl}
use Rattle.std.specs.List.{AllByRecursion}
use Rattle.cc_base.specs.Image.{Code}
use Rattle.unit_set.specs.Slot.{Slot}
use Rattle.registry.specs.Content.{Content}
use Rattle.registry.specs.State.{with_at}
use Rattle.registry.specs.Opening.{Opening, empty_at, image_at, slot_at}
use Rattle.registry.specs.Registry.{attached, slot_in, age_of, attach_age, attach_generation}
use Rattle.registry.specs.History.{History, IsNamed, has_file}
use Rattle.registry.proofs.Keeps.{attach_image, attach_kept, attach_slot, named_at, passing_le}
use Rattle.registry.proofs.registry.Registry.attach.Goals as goal

blank_is : (o : Opening) (slot file : ℕ) (name : Slot) (image : Code) → name ≡ slot_at o slot → image ≡ image_at o slot file → (let unit : Content = record { slot = name; image = image; addrs = [] } in unit) ≡ empty_at o slot file
blank_is o slot file name image named is =
    ap (λ (n : Slot). let unit : Content = record { slot = n; image = image; addrs = [] } in unit) named
    ∙ ap (λ (i : Code). let unit : Content = record { slot = slot_at o slot; image = i; addrs = [] } in unit) is

pub attach_at-requires-clause-ages : goal.attach_at-requires-clause-ages
attach_at-requires-clause-ages c =
    omega (arith, c.self.invariant.few c.args.slot, passing_le (has_file c.self.inside.opening c.args.slot (slot_in c.self.inside.slots.items c.args.slot).generations) (length c.self.inside.opening.codes), c.self.invariant.within.1)

pub invariant_of-self-2 : goal.invariant_of-self-2
invariant_of-self-2 c =
    let gs = (slot_in c.self.inside.slots.items c.args.slot).generations in
    let blank = blank_is c.self.inside.opening c.args.slot c.args.file c.slot-name.result.now c.in_ok-image.image c.slot-name.ensures c.in_ok-image.ensures in
    let slots = ap (λ (h : History). length h.opening.slots) c.self.view_is in
    let files = ap (λ (h : History). length h.opening.codes) c.self.view_is in
    attach_kept _ _ _ _ _ _ _ _ c.self.invariant _ _ _ c.args.guest c.args.slot c.args.file c.in_ok-attached.attached.age c.in_ok-attached.attached.version
    (omega (arith, c.requires.slot_there, slots, c.self.invariant.slots)) (omega (arith, c.requires.file_there, files))
    (c.in_ok-attached.ensures.told.age ∙ ap (λ (u : Content). attach_age (age_of u.image gs) gs) blank)
    (c.in_ok-attached.ensures.told.version ∙ ap (λ (u : Content). (attach_generation u gs (age_of u.image gs)).version) blank) (cc) (omega (arith, c.in_ok-reserve.ensures.ok))
    (c.in_ok-attached.ensures.new ∙ ap (λ (u : Content). with_at (attached u) c.args.slot c.self.inside.slots.items) blank)

pub returns-clause-image : goal.returns-clause-image
returns-clause-image c =
    let gs = (slot_in c.self.inside.slots.items c.args.slot).generations in
    ap (λ (u : Content). u.image) c.in_ok-attached.ensures.told.handed
    ∙ (attach_image (record { slot = c.slot-name.result.now; image = c.in_ok-image.image; addrs = [] }) gs (age_of c.in_ok-image.image gs) refl
    ∙ (c.in_ok-image.ensures ∙ ap (λ (h : History). image_at h.opening c.args.slot c.args.file) c.self.view_is))

pub returns-clause-slot : goal.returns-clause-slot
returns-clause-slot c =
    let gs = (slot_in c.self.inside.slots.items c.args.slot).generations in
    let slots = ap (λ (h : History). length h.opening.slots) c.self.view_is in
    let all = named_at c.self.inside.opening.slots c.self.inside.slots.items c.args.slot (omega (arith, c.requires.slot_there, slots, c.self.invariant.slots)) c.self.invariant.named in
    ap (λ (u : Content). u.slot) c.in_ok-attached.ensures.told.handed
    ∙ (attach_slot (record { slot = c.slot-name.result.now; image = c.in_ok-image.image; addrs = [] }) gs (age_of c.in_ok-image.image gs) refl
    (subst (λ (n : Slot). AllByRecursion (IsNamed n) gs) (sym c.slot-name.ensures) all)
    ∙ (c.slot-name.ensures ∙ ap (λ (h : History). slot_at h.opening c.args.slot) c.self.view_is))
