use Rattle.std.proofs.Common.{◌≡◌, ◌∙◌, ℕ, List, ap, inr, subst}
use Rattle.std.proofs.lemmas.Result.{err_from_is_err_and}
use Rattle.host.specs.Outcome.{Source, input_names}
use Rattle.host.specs.Reading.{AreRead, Fails}
use Rattle.host.specs.Seen.{source_of}
use Rattle.host.proofs.Sources.{IsPart, first_part, last_part, read_too, fails_too}
use Rattle.host.proofs.prepare.read_contents.Goals as goal

pub returns-in_err-read-clause-failed : goal.returns-in_err-read-clause-failed
returns-in_err-read-clause-failed g c =
    let h = c.in_err-read.ensures in
    let p = err_from_is_err_and c.from_residual-in_err-read.result c.from_residual-in_err-read.ensures.1 in
    let whole : Source = source_of g.F.Files.content g.F.Files.faults c.args.files.now c.read_all-2.new.files in
    let before : IsPart whole (source_of g.F.Files.content g.F.Files.faults c.args.files.now c.read_all.new.files) =
    first_part g.F.Files.content g.F.Files.faults c.args.files.now c.read_all.new.files c.read_all-2.new.files c.read_all.ensures.never_falls c.read_all-2.ensures.never_falls in
    let behind : IsPart whole (source_of g.F.Files.content g.F.Files.faults c.read_all.new.files c.read_all-2.new.files) =
    last_part g.F.Files.content g.F.Files.faults c.args.files.now c.read_all.new.files c.read_all-2.new.files c.read_all.ensures.kept c.read_all.ensures.never_falls c.read_all-2.ensures.never_falls in
    rw (p.1, p.2) (λ other. inr (
      c.in_ok-contents.contents.items,
      subst (λ names. AreRead whole 4194304 names c.in_ok-contents.contents.items) c.files.ensures.files
          (read_too whole _ 4194304 c.files.result.now c.in_ok-contents.contents.items before c.in_ok-contents.ensures.read),
      subst (λ names. Fails whole 1048576 names c.in_err-read.field-0.0) (c.deref.ensures.value ∙ c.in_ok-names.ensures.names ∙ ap input_names c.guests.ensures.guests)
          (fails_too whole _ 1048576 c.deref.result.now c.in_err-read.field-0.0 behind h.failed),
    ))

pub returns-clause-read : goal.returns-clause-read
returns-clause-read g c =
    let whole : Source = source_of g.F.Files.content g.F.Files.faults c.args.files.now c.read_all-2.new.files in
    let before : IsPart whole (source_of g.F.Files.content g.F.Files.faults c.args.files.now c.read_all.new.files) =
    first_part g.F.Files.content g.F.Files.faults c.args.files.now c.read_all.new.files c.read_all-2.new.files c.read_all.ensures.never_falls c.read_all-2.ensures.never_falls in
    let behind : IsPart whole (source_of g.F.Files.content g.F.Files.faults c.read_all.new.files c.read_all-2.new.files) =
    last_part g.F.Files.content g.F.Files.faults c.args.files.now c.read_all.new.files c.read_all-2.new.files c.read_all.ensures.kept c.read_all.ensures.never_falls c.read_all-2.ensures.never_falls in
    record {
      files_read = subst (λ names. AreRead whole 4194304 names c.in_ok-contents.contents.items) c.files.ensures.files
          (read_too whole _ 4194304 c.files.result.now c.in_ok-contents.contents.items before c.in_ok-contents.ensures.read);
      inputs_read = subst (λ names. AreRead whole 1048576 names c.in_ok-read.read.items) (c.deref.ensures.value ∙ c.in_ok-names.ensures.names ∙ ap input_names c.guests.ensures.guests)
          (read_too whole _ 1048576 c.deref.result.now c.in_ok-read.read.items behind c.in_ok-read.ensures.read);
    }
