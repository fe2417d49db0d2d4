use Rattle.std.proofs.Common.{◌≡◌, ◌≤◌, ◌∙◌, ℕ, List, Ok, Err, ap, sym, subst, length}
use Rattle.std.proofs.lemmas.Result.{err_from_is_err_and}
use Rattle.manifest.specs.Entries.{Listing}
use Rattle.manifest.specs.Manifest.{manifest_of}
use Rattle.slot_list.specs.Slots.{slots_of}
use Rattle.host.specs.Answer.{Comes}
use Rattle.host.specs.Outcome.{Source, given, input_names, limited, listed, programs_of}
use Rattle.host.specs.Reading.{ReadsBoth}
use Rattle.host.specs.Words.{meant}
use Rattle.host.specs.Seen.{source_of}
use Rattle.host.proofs.Sources.{IsPart, first_part, last_part, agrees_too, read_too, reads_fail_too, read_count}
use Rattle.host.proofs.Refusing.{HasListing, HasText, plan_comes, refuses_elf, refuses_listing, refuses_reads, refuses_slots, refuses_text, refuses_words}
use Rattle.host.proofs.Fitting.{few_slots, given_count, listing_is}
use Rattle.host.proofs.prepare.prepare.Goals as goal

pub returns-in_default-clause-refused : goal.returns-in_default-clause-refused
returns-in_default-clause-refused g c = λ other. refuses_words c.args.words.now _ (c.order_of.ensures.none c.in_default.is)

pub returns-in_err-text-clause-refused : goal.returns-in_err-text-clause-refused
returns-in_err-text-clause-refused g c =
    let h = c.in_err-text.ensures in
    let p = err_from_is_err_and c.from_residual.result c.from_residual.ensures.1 in
    rw (p.1, p.2) (λ other. refuses_text c.args.words.now _ (meant c.in-Some.order) c.in_err-text.field-0.0 c.in-Some.ensures.some h.agrees)

pub returns-in_err-manifest-clause-refused : goal.returns-in_err-manifest-clause-refused
returns-in_err-manifest-clause-refused g c =
    let h = c.in_err-manifest.ensures in
    let p = err_from_is_err_and c.from_residual-in_err-manifest.result c.from_residual-in_err-manifest.ensures.1 in
    let text : List ℕ = c.in_ok-text.text in
    let has : HasText c.args.words.now (source_of g.F.Files.content g.F.Files.faults c.args.files.now c.read_file.new.files) text =
    record { order = meant c.in-Some.order; some = c.in-Some.ensures.some; agrees = c.in_ok-text.ensures.agrees } in
    rw (p.1, p.2) (λ other. refuses_listing c.args.words.now _ text c.in_err-manifest.field-0.0 has
    (subst (λ t. listed (manifest_of t) ≡ Err c.in_err-manifest.field-0.0) c.items.ensures (h other)))

pub returns-in_err-contents-clause-refused : goal.returns-in_err-contents-clause-refused
returns-in_err-contents-clause-refused g c =
    let h = c.in_err-contents.ensures in
    let p = err_from_is_err_and c.from_residual-in_err-contents.result c.from_residual-in_err-contents.ensures.1 in
    let whole : Source = source_of g.F.Files.content g.F.Files.faults c.args.files.now c.read_contents.new.files in
    let before : IsPart whole (source_of g.F.Files.content g.F.Files.faults c.args.files.now c.read_file.new.files) =
    first_part g.F.Files.content g.F.Files.faults c.args.files.now c.read_file.new.files c.read_contents.new.files c.read_file.ensures.never_falls c.read_contents.ensures.never_falls in
    let behind : IsPart whole (source_of g.F.Files.content g.F.Files.faults c.read_file.new.files c.read_contents.new.files) =
    last_part g.F.Files.content g.F.Files.faults c.args.files.now c.read_file.new.files c.read_contents.new.files c.read_file.ensures.kept c.read_file.ensures.never_falls c.read_contents.ensures.never_falls in
    let text : List ℕ = c.in_ok-text.text in
    let listing : Listing = c.in_ok-manifest.manifest in
    let one : HasListing c.args.words.now whole listing = record {
      text = text;
      has = record { order = meant c.in-Some.order; some = c.in-Some.ensures.some; agrees = agrees_too whole _ 1048576 c.in-Some.order.file.now (Ok text) before c.in_ok-text.ensures.agrees };
      is = subst (λ t. listed (manifest_of t) ≡ Ok listing) c.items.ensures c.in_ok-manifest.ensures;
    } in
    rw (p.1, p.2) (λ other. refuses_reads c.args.words.now whole listing c.in_err-contents.field-0.0 one
    (reads_fail_too whole _ listing.files (input_names listing.guests) c.in_err-contents.field-0.0 behind (h.failed other)))

pub elfs_in-requires : goal.elfs_in-requires
elfs_in-requires g c =
    ap length c.files.ensures.files
    ∙ read_count (source_of g.F.Files.content g.F.Files.faults c.read_file.new.files c.read_contents.new.files) 4194304 c.in_ok-manifest.manifest.files c.in_ok-contents.contents.items c.in_ok-contents.ensures.read.files_read
    ∙ ap length (sym c.deref.ensures.value)

pub returns-in_err-elfs-clause-refused : goal.returns-in_err-elfs-clause-refused
returns-in_err-elfs-clause-refused g c =
    let h = c.in_err-elfs.ensures in
    let p = err_from_is_err_and c.from_residual-in_err-elfs.result c.from_residual-in_err-elfs.ensures.1 in
    let whole : Source = source_of g.F.Files.content g.F.Files.faults c.args.files.now c.read_contents.new.files in
    let before : IsPart whole (source_of g.F.Files.content g.F.Files.faults c.args.files.now c.read_file.new.files) =
    first_part g.F.Files.content g.F.Files.faults c.args.files.now c.read_file.new.files c.read_contents.new.files c.read_file.ensures.never_falls c.read_contents.ensures.never_falls in
    let behind : IsPart whole (source_of g.F.Files.content g.F.Files.faults c.read_file.new.files c.read_contents.new.files) =
    last_part g.F.Files.content g.F.Files.faults c.args.files.now c.read_file.new.files c.read_contents.new.files c.read_file.ensures.kept c.read_file.ensures.never_falls c.read_contents.ensures.never_falls in
    let text : List ℕ = c.in_ok-text.text in
    let listing : Listing = c.in_ok-manifest.manifest in
    let one : HasListing c.args.words.now whole listing = record {
      text = text;
      has = record { order = meant c.in-Some.order; some = c.in-Some.ensures.some; agrees = agrees_too whole _ 1048576 c.in-Some.order.file.now (Ok text) before c.in_ok-text.ensures.agrees };
      is = subst (λ t. listed (manifest_of t) ≡ Ok listing) c.items.ensures c.in_ok-manifest.ensures;
    } in
    let contents : List (List ℕ) = c.in_ok-contents.contents.items in
    let read : List (List ℕ) = c.in_ok-contents.read.items in
    let both : ReadsBoth whole listing.files (input_names listing.guests) contents read = record {
      files_read = read_too whole _ 4194304 listing.files contents behind c.in_ok-contents.ensures.read.files_read;
      inputs_read = read_too whole _ 1048576 (input_names listing.guests) read behind c.in_ok-contents.ensures.read.inputs_read;
    } in
    rw (p.1, p.2) (λ other. refuses_elf c.args.words.now whole listing contents read c.in_err-elfs.field-0.0 one both
    (subst (λ names. programs_of names contents ≡ Err c.in_err-elfs.field-0.0) c.files.ensures.files
    (subst (λ files. programs_of c.files.result.now files ≡ Err c.in_err-elfs.field-0.0) c.deref.ensures.value (h.gives other))))

pub returns-in_err-slots-clause-refused : goal.returns-in_err-slots-clause-refused
returns-in_err-slots-clause-refused g c =
    let h = c.in_err-slots.ensures in
    let p = err_from_is_err_and c.from_residual-in_err-slots.result c.from_residual-in_err-slots.ensures.1 in
    let whole : Source = source_of g.F.Files.content g.F.Files.faults c.args.files.now c.read_contents.new.files in
    let before : IsPart whole (source_of g.F.Files.content g.F.Files.faults c.args.files.now c.read_file.new.files) =
    first_part g.F.Files.content g.F.Files.faults c.args.files.now c.read_file.new.files c.read_contents.new.files c.read_file.ensures.never_falls c.read_contents.ensures.never_falls in
    let behind : IsPart whole (source_of g.F.Files.content g.F.Files.faults c.read_file.new.files c.read_contents.new.files) =
    last_part g.F.Files.content g.F.Files.faults c.args.files.now c.read_file.new.files c.read_contents.new.files c.read_file.ensures.kept c.read_file.ensures.never_falls c.read_contents.ensures.never_falls in
    let text : List ℕ = c.in_ok-text.text in
    let listing : Listing = c.in_ok-manifest.manifest in
    let one : HasListing c.args.words.now whole listing = record {
      text = text;
      has = record { order = meant c.in-Some.order; some = c.in-Some.ensures.some; agrees = agrees_too whole _ 1048576 c.in-Some.order.file.now (Ok text) before c.in_ok-text.ensures.agrees };
      is = subst (λ t. listed (manifest_of t) ≡ Ok listing) c.items.ensures c.in_ok-manifest.ensures;
    } in
    let contents : List (List ℕ) = c.in_ok-contents.contents.items in
    let read : List (List ℕ) = c.in_ok-contents.read.items in
    let both : ReadsBoth whole listing.files (input_names listing.guests) contents read = record {
      files_read = read_too whole _ 4194304 listing.files contents behind c.in_ok-contents.ensures.read.files_read;
      inputs_read = read_too whole _ 1048576 (input_names listing.guests) read behind c.in_ok-contents.ensures.read.inputs_read;
    } in
    let programs : programs_of listing.files contents ≡ Ok c.in_ok-elfs.elfs.items =
    subst (λ names. programs_of names contents ≡ Ok c.in_ok-elfs.elfs.items) c.files.ensures.files
    (subst (λ files. programs_of c.files.result.now files ≡ Ok c.in_ok-elfs.elfs.items) c.deref.ensures.value c.in_ok-elfs.ensures.gives) in
    rw (p.1, p.2) (λ other. refuses_slots c.args.words.now whole listing contents read c.in_ok-elfs.elfs.items c.in_err-slots.field-0.0 one both programs
    (subst (λ elfs. limited (slots_of listing.modules listing.guests elfs) ≡ Err c.in_err-slots.field-0.0) c.deref-2.ensures.value (h other)))

pub returns-clause-done : goal.returns-clause-done
returns-clause-done g c =
    let whole : Source = source_of g.F.Files.content g.F.Files.faults c.args.files.now c.read_contents.new.files in
    let before : IsPart whole (source_of g.F.Files.content g.F.Files.faults c.args.files.now c.read_file.new.files) =
    first_part g.F.Files.content g.F.Files.faults c.args.files.now c.read_file.new.files c.read_contents.new.files c.read_file.ensures.never_falls c.read_contents.ensures.never_falls in
    let behind : IsPart whole (source_of g.F.Files.content g.F.Files.faults c.read_file.new.files c.read_contents.new.files) =
    last_part g.F.Files.content g.F.Files.faults c.args.files.now c.read_file.new.files c.read_contents.new.files c.read_file.ensures.kept c.read_file.ensures.never_falls c.read_contents.ensures.never_falls in
    let text : List ℕ = c.in_ok-text.text in
    let listing : Listing = c.in_ok-manifest.manifest in
    let one : HasListing c.args.words.now whole listing = record {
      text = text;
      has = record { order = meant c.in-Some.order; some = c.in-Some.ensures.some; agrees = agrees_too whole _ 1048576 c.in-Some.order.file.now (Ok text) before c.in_ok-text.ensures.agrees };
      is = subst (λ t. listed (manifest_of t) ≡ Ok listing) c.items.ensures c.in_ok-manifest.ensures;
    } in
    let contents : List (List ℕ) = c.in_ok-contents.contents.items in
    let read : List (List ℕ) = c.in_ok-contents.read.items in
    let both : ReadsBoth whole listing.files (input_names listing.guests) contents read = record {
      files_read = read_too whole _ 4194304 listing.files contents behind c.in_ok-contents.ensures.read.files_read;
      inputs_read = read_too whole _ 1048576 (input_names listing.guests) read behind c.in_ok-contents.ensures.read.inputs_read;
    } in
    let programs : programs_of listing.files contents ≡ Ok c.in_ok-elfs.elfs.items =
    subst (λ names. programs_of names contents ≡ Ok c.in_ok-elfs.elfs.items) c.files.ensures.files
    (subst (λ files. programs_of c.files.result.now files ≡ Ok c.in_ok-elfs.elfs.items) c.deref.ensures.value c.in_ok-elfs.ensures.gives) in
    let slots : limited (slots_of listing.modules listing.guests c.in_ok-elfs.elfs.items) ≡ Ok c.in_ok-slots.slots.items =
    subst (λ elfs. limited (slots_of listing.modules listing.guests elfs) ≡ Ok c.in_ok-slots.slots.items) c.deref-2.ensures.value c.in_ok-slots.ensures in
    subst (λ inputs. Comes c.args.words.now whole (record { order = meant c.in-Some.order; listing = listing; programs = c.in_ok-elfs.elfs.items; inputs = inputs }))
    (sym (c.in_ok-inputs.ensures ∙ ap (λ guests. given guests read) c.guests.ensures.guests))
    (plan_comes c.args.words.now whole listing contents read c.in_ok-elfs.elfs.items c.in_ok-slots.slots.items one both programs slots)

pub returns-clause-ready : goal.returns-clause-ready
returns-clause-ready g c =
    let text : List ℕ = c.in_ok-text.text in
    let listing : Listing = c.in_ok-manifest.manifest in
    let inputs = c.in_ok-inputs.ensures ∙ ap (λ guests. given guests c.in_ok-contents.read.items) c.guests.ensures.guests in
    let few = few_slots (slots_of listing.modules listing.guests c.in_ok-elfs.elfs.items) c.in_ok-slots.slots.items
    (subst (λ elfs. limited (slots_of listing.modules listing.guests elfs) ≡ Ok c.in_ok-slots.slots.items) c.deref-2.ensures.value c.in_ok-slots.ensures) in
    record {
      elfs = c.in_ok-elfs.ensures.count ∙ ap length c.files.ensures.files;
      inputs = ap length inputs ∙ given_count listing.guests c.in_ok-contents.read.items;
      slots = few.0;
      few = subst (λ slots. length slots ≤ 64) (sym few.0) few.1;
    }
