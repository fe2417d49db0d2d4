use Rattle.std.proofs.Common.{List, length, map, sym, ap, ◌∙◌, subst, arith}
use Rattle.std.proofs.lemmas.List.{length-map}
use Rattle.std.specs.Arc.{arc_value}
use Rattle.unit_set.specs.Slot.{Slot, slot_text}
use Rattle.elf_map.specs.Program.{texts_of}
use Rattle.slot_list.specs.Laws.{AreDistinct}
use Rattle.publisher.specs.Loads.{Loads, contents_of}
use Rattle.publisher.proofs.Opens.{contents_by, is_opening}
use Rattle.whole_run.specs.Job.{job_of}
use Rattle.whole_run.specs.Shelf.{seen_of}
use Rattle.whole_run.proofs.Starting.{files_there, starts}
use Rattle.whole_run.proofs.start.begin.Goals as goal

pub are_apart-requires : goal.are_apart-requires
are_apart-requires g c =
    subst AreDistinct (sym (c.deref.ensures.value ∙ c.requires.slots)) (c.slots_differ.ensures c.args.manifest.now.modules c.args.manifest.now.guests c.args.elfs.now c.requires.names)

pub new-requires : goal.new-requires
new-requires g c =
    let l : Loads = c.in_ok-loaded.field-0 in
    let slots = c.deref-2.ensures.value in
    let long = ap length c.in_ok-codes_of.ensures ∙ length-map c.args.elfs.now texts_of ∙ c.requires.elfs in
    is_opening _ c.deref-2.result.now l (sym slots) (sym (contents_by arc_value c.loaded.inside.found.items) ∙ ap (λ (x : Loads). contents_of x.found) c.loaded.view_is) (ap (λ (x : Loads). x.shut) c.loaded.view_is)
    c.in_ok-loaded.ensures.found c.in_ok-loaded.ensures.shut (omega (arith, ap (λ (xs : List Slot). length xs) slots, c.requires.few)) (omega (arith, long, c.in_ok-files_of.ensures.few))
    (files_there c.in_ok-files_of.field-0.items c.in_ok-codes_of.field-0.items (length c.args.manifest.now.files) c.in_ok-files_of.ensures.there long)

pub returns-clause-starts : goal.returns-clause-starts
returns-clause-starts g c inputs =
    let l : Loads = c.in_ok-loaded.field-0 in
    let slots = c.deref-2.ensures.value in
    let apart : AreDistinct (map slot_text c.deref-2.result.now) = subst (λ (xs : List Slot). AreDistinct (map slot_text xs)) (c.deref.ensures.value ∙ sym slots) c.are_apart.ensures in
    let long = ap length c.in_ok-codes_of.ensures ∙ length-map c.args.elfs.now texts_of ∙ c.requires.elfs in
    let made = is_opening _ c.deref-2.result.now l (sym slots) (sym (contents_by arc_value c.loaded.inside.found.items) ∙ ap (λ (x : Loads). contents_of x.found) c.loaded.view_is) (ap (λ (x : Loads). x.shut) c.loaded.view_is)
    c.in_ok-loaded.ensures.found c.in_ok-loaded.ensures.shut (omega (arith, ap (λ (xs : List Slot). length xs) slots, c.requires.few)) (omega (arith, long, c.in_ok-files_of.ensures.few))
    (files_there c.in_ok-files_of.field-0.items c.in_ok-codes_of.field-0.items (length c.args.manifest.now.files) c.in_ok-files_of.ensures.there long) in
    starts (seen_of g.H.Shelf.told g.H.Shelf.faults c.args.shelf.now c.load_all.new.shelf) (g.H.Shelf.moment c.load_all.new.shelf) (g.H.Shelf.images c.load_all.new.shelf) c.deref-2.result.now l c.in_ok-loaded.ensures.loads
    (job_of c.args.manifest.now c.args.elfs.now inputs) c.in_ok-new.field-0 _ c.loaded.inside.loaded.items c.loaded.inside.standings.items c.in_ok-new.ensures (ap (λ (x : Loads). x.loaded) c.loaded.view_is) (ap (λ (x : Loads). x.standings) c.loaded.view_is)
    (sym slots) (sym (contents_by arc_value c.loaded.inside.found.items) ∙ ap (λ (x : Loads). contents_of x.found) c.loaded.view_is) (ap (λ (x : Loads). x.shut) c.loaded.view_is) (slots ∙ c.requires.slots)
    c.in_ok-files_of.ensures.files c.in_ok-codes_of.ensures c.in_ok-loaded.ensures.each c.in_ok-loaded.ensures.standings made apart
