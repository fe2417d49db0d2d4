use Rattle.std.proofs.Common.{◌≡◌, ◌<◌, false, List, ℕ, length, refl, sym, ap, ◌∙◌, subst}
use Rattle.std.proofs.lemmas.List.{length-map}
use Rattle.publish.specs.declared.area.Standing.{Standing}
use Rattle.publish.specs.Crash.{Fits}
use Rattle.registry.specs.declared.entry.Entry.{Entry}
use Rattle.registry.specs.Opening.{slot_at}
use Rattle.registry.specs.Registry.{slot_of}
use Rattle.registry.specs.History.{History, state_of}
use Rattle.publisher.specs.Serving.{AreDistinct, Publishes, added, seqs_of, standing_at}
use Rattle.whole_run.specs.Job.{Job, job_of, slots_in_job}
use Rattle.whole_run.specs.Shelf.{seen_of}
use Rattle.whole_run.specs.Whole.{IsWhole}
use Rattle.whole_run.proofs.Changing.{changed}
use Rattle.whole_run.proofs.Starting.{start_for}
use Rattle.whole_run.proofs.Ending.{serves_fits, serves_same, unfinished, whole}
use Rattle.whole_run.proofs.run.run_whole.Goals as goal

pub run_guests-requires-clause-empty : goal.run_guests-requires-clause-empty
run_guests-requires-clause-empty g c = (start_for c.args.manifest.now _ c.args.elfs.items c.args.inputs.now _ _ _ _ _ _ c.deref.ensures.value c.in_ok-loads.ensures.starts).empty

pub run_guests-requires-clause-slots : goal.run_guests-requires-clause-slots
run_guests-requires-clause-slots g c = (start_for c.args.manifest.now _ c.args.elfs.items c.args.inputs.now _ _ _ _ _ _ c.deref.ensures.value c.in_ok-loads.ensures.starts).opens.slots

pub run_guests-requires-clause-modules : goal.run_guests-requires-clause-modules
run_guests-requires-clause-modules g c = ap length (start_for c.args.manifest.now _ c.args.elfs.items c.args.inputs.now _ _ _ _ _ _ c.deref.ensures.value c.in_ok-loads.ensures.starts).opens.modules ∙ length-map c.args.manifest.now.modules (λ m. m.file)

pub run_guests-requires-clause-codes : goal.run_guests-requires-clause-codes
run_guests-requires-clause-codes g c = (start_for c.args.manifest.now _ c.args.elfs.items c.args.inputs.now _ _ _ _ _ _ c.deref.ensures.value c.in_ok-loads.ensures.starts).opens.codes

pub finish-requires : goal.finish-requires
finish-requires g c = unfinished (job_of c.args.manifest.now c.args.elfs.items c.args.inputs.now) _ _ _ c.in_ok-rans.ensures

pub serve-requires-clause-standings : goal.serve-requires-clause-standings
serve-requires-clause-standings g c =
    let j : Job = job_of c.args.manifest.now c.args.elfs.items c.args.inputs.now in
    let start = start_for c.args.manifest.now _ c.args.elfs.items c.args.inputs.now _ _ _ _ _ _ c.deref.ensures.value c.in_ok-loads.ensures.starts in
    let same = serves_same j _ _ c.finish.new.registry _ c.in_ok-rans.ensures c.finish.ensures in
    ap length c.deref_mut.ensures.value ∙ (start.each ∙ ap (λ (h : History). length h.opening.slots) (sym same))

pub serve-requires-clause-names : goal.serve-requires-clause-names
serve-requires-clause-names g c =
    let j : Job = job_of c.args.manifest.now c.args.elfs.items c.args.inputs.now in
    let start = start_for c.args.manifest.now _ c.args.elfs.items c.args.inputs.now _ _ _ _ _ _ c.deref.ensures.value c.in_ok-loads.ensures.starts in
    let same = serves_same j _ _ c.finish.new.registry _ c.in_ok-rans.ensures c.finish.ensures in
    subst (λ (h : History). AreDistinct h.opening) (sym same) start.apart

pub serve-requires-clause-fits : goal.serve-requires-clause-fits
serve-requires-clause-fits g c =
    let j : Job = job_of c.args.manifest.now c.args.elfs.items c.args.inputs.now in
    let start = start_for c.args.manifest.now _ c.args.elfs.items c.args.inputs.now _ _ _ _ _ _ c.deref.ensures.value c.in_ok-loads.ensures.starts in
    let shelf = g.H.Shelf in
    let same = serves_same j _ _ c.finish.new.registry _ c.in_ok-rans.ensures c.finish.ensures in
    subst (λ (st : List Standing). (k : ℕ) → k < length c.finish.new.registry.opening.slots → (slot_of (state_of c.finish.new.registry) k).shut ≡ false
    → Fits (shelf.told c.begin.new.shelf) (shelf.images c.begin.new.shelf) (shelf.moment c.begin.new.shelf) (slot_at c.finish.new.registry.opening k) (standing_at st k)) (sym c.deref_mut.ensures.value)
    (serves_fits j (seen_of shelf.told shelf.faults c.args.shelf.now c.begin.new.shelf) (shelf.moment c.begin.new.shelf) (shelf.images c.begin.new.shelf) _ _ _ c.finish.new.registry start (ap (λ (h : History). h.opening) same))

pub returns-clause-whole : goal.returns-clause-whole
returns-clause-whole g c =
    let j : Job = job_of c.args.manifest.now c.args.elfs.items c.args.inputs.now in
    let start = start_for c.args.manifest.now _ c.args.elfs.items c.args.inputs.now _ _ _ _ _ _ c.deref.ensures.value c.in_ok-loads.ensures.starts in
    let shelf = g.H.Shelf in
    let before = seen_of shelf.told shelf.faults c.args.shelf.now c.begin.new.shelf in
    let seen = seen_of shelf.told shelf.faults c.args.shelf.now c.serve.new.shelf in
    let publishes : Publishes (seqs_of c.in_ok-loads.field-0.standings.items) (added c.finish.new.registry c.serve.new.registry) c.in_ok-served.served.items =
    subst (λ (st : List Standing). Publishes (seqs_of st) (added c.finish.new.registry c.serve.new.registry) c.in_ok-served.served.items) c.deref_mut.ensures.value c.in_ok-served.ensures.served in
    subst (λ (es : List Entry). IsWhole j seen (record { loads = c.in_ok-loads.field-0.loads.items; rans = c.in_ok-rans.rans.items; journal = es; served = c.in_ok-served.served.items })) (sym c.into_journal.ensures)
    (whole j before seen (shelf.moment c.begin.new.shelf) (shelf.images c.begin.new.shelf) c.in_ok-loads.field-0.loads.items c.in_ok-loads.field-0.standings.items c.in_ok-loads.field-0.registry start refl refl
    c.begin.ensures.told c.begin.ensures.counts c.serve.ensures.counts c.run_guests.new.registry c.finish.new.registry c.serve.new.registry c.in_ok-rans.rans.items c.in_ok-served.served.items c.in_ok-rans.ensures c.finish.ensures
    c.serve.ensures.grew publishes c.in_ok-served.ensures.faults c.in_ok-served.ensures.none_due c.in_ok-served.ensures.folder c.serve.ensures.others)

pub returns-in_err-served-clause-areas : goal.returns-in_err-served-clause-areas
returns-in_err-served-clause-areas g c =
    let j : Job = job_of c.args.manifest.now c.args.elfs.items c.args.inputs.now in
    let start = start_for c.args.manifest.now _ c.args.elfs.items c.args.inputs.now _ _ _ _ _ _ c.deref.ensures.value c.in_ok-loads.ensures.starts in
    let same = serves_same j _ _ c.finish.new.registry _ c.in_ok-rans.ensures c.finish.ensures in
    let told = g.H.Shelf.told in
    changed (slots_in_job j) c.finish.new.registry.opening.slots (told c.args.shelf.now) (told c.begin.new.shelf) (told c.serve.new.shelf) c.begin.ensures.told
    (ap (λ (h : History). h.opening.slots) same ∙ start.opens.slots) c.serve.ensures.only c.serve.ensures.strangers

pub returns-clause-areas : goal.returns-clause-areas
returns-clause-areas g c =
    let j : Job = job_of c.args.manifest.now c.args.elfs.items c.args.inputs.now in
    let start = start_for c.args.manifest.now _ c.args.elfs.items c.args.inputs.now _ _ _ _ _ _ c.deref.ensures.value c.in_ok-loads.ensures.starts in
    let same = serves_same j _ _ c.finish.new.registry _ c.in_ok-rans.ensures c.finish.ensures in
    let told = g.H.Shelf.told in
    changed (slots_in_job j) c.finish.new.registry.opening.slots (told c.args.shelf.now) (told c.begin.new.shelf) (told c.serve.new.shelf) c.begin.ensures.told
    (ap (λ (h : History). h.opening.slots) same ∙ start.opens.slots) c.serve.ensures.only c.serve.ensures.strangers
