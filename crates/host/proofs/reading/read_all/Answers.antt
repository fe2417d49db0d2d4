use Rattle.std.proofs.Common.{◌≤◌, ◌<◌, ◌∙◌, Err, Ok, subst, arith, length, refl}
use Rattle.std.proofs.lemmas.List.{take_all}
use Rattle.std.proofs.lemmas.Result.{err_from_is_err_and}
use Rattle.host.specs.Outcome.{Agrees, Source}
use Rattle.host.specs.Reading.{AreRead}
use Rattle.host.specs.Seen.{source_of}
use Rattle.host.proofs.Sources.{IsPart, first_part, last_part, kept_on, less_on, agrees_too, read_too, read_more, fails_at, read_none}
use Rattle.host.proofs.reading.read_all.Goals as goal

pub loop-name-init : goal.loop-name-init
loop-name-init g c = record {
  read = rw c.new-all.ensures.items (read_none (source_of g.F.Files.content g.F.Files.faults c.args.files.now c.args.files.now) c.args.limit);
  kept = λ n. refl;
  no_less = λ n. omega arith;
}

pub returns-in_err-read_file-clause-failed : goal.returns-in_err-read_file-clause-failed
returns-in_err-read_file-clause-failed g c =
    let within : c.loop-name.name-index < length c.args.names.now = omega (arith, c.loop-name-test.true, c.loop-name.auto.name-index-end) in
    let whole : Source = source_of g.F.Files.content g.F.Files.faults c.args.files.now c.read_file.new.files in
    let first : Source = source_of g.F.Files.content g.F.Files.faults c.args.files.now c.loop-name.files in
    let last : Source = source_of g.F.Files.content g.F.Files.faults c.loop-name.files c.read_file.new.files in
    let h = c.in_err-read_file.ensures in
    let p = err_from_is_err_and c.from_residual.result c.from_residual.ensures.1 in
    let before : IsPart whole first = first_part g.F.Files.content g.F.Files.faults c.args.files.now c.loop-name.files c.read_file.new.files c.loop-name.invariant.no_less c.read_file.ensures.never_falls in
    let behind : IsPart whole last = last_part g.F.Files.content g.F.Files.faults c.args.files.now c.loop-name.files c.read_file.new.files c.loop-name.invariant.kept c.loop-name.invariant.no_less c.read_file.ensures.never_falls in
    rw (p.1, p.2) (fails_at whole c.args.limit c.args.names.now c.loop-name.all.items c.loop-name.name-index c.in_err-read_file.field-0.0 c.name-item.result within
    (read_too whole first c.args.limit _ c.loop-name.all.items before c.loop-name.invariant.read)
    (agrees_too whole last c.args.limit _ (Err c.in_err-read_file.field-0.0) behind
    (subst (λ n. Agrees last c.args.limit n (Err c.in_err-read_file.field-0.0)) (c.text_of.ensures ∙ c.name-item.is) h.agrees)))

pub returns-in_err-read_file-clause-kept : goal.returns-in_err-read_file-clause-kept
returns-in_err-read_file-clause-kept g c = kept_on g.F.Files.content c.args.files.now c.loop-name.files c.read_file.new.files c.loop-name.invariant.kept c.read_file.ensures.kept

pub returns-in_err-read_file-clause-never_falls : goal.returns-in_err-read_file-clause-never_falls
returns-in_err-read_file-clause-never_falls g c =
    less_on g.F.Files.faults c.args.files.now c.loop-name.files c.read_file.new.files c.loop-name.invariant.no_less c.read_file.ensures.never_falls

pub returns-in_err-push-clause-kept : goal.returns-in_err-push-clause-kept
returns-in_err-push-clause-kept g c = kept_on g.F.Files.content c.args.files.now c.loop-name.files c.read_file.new.files c.loop-name.invariant.kept c.read_file.ensures.kept

pub returns-in_err-push-clause-never_falls : goal.returns-in_err-push-clause-never_falls
returns-in_err-push-clause-never_falls g c =
    less_on g.F.Files.faults c.args.files.now c.loop-name.files c.read_file.new.files c.loop-name.invariant.no_less c.read_file.ensures.never_falls

pub loop-name-preserved : goal.loop-name-preserved
loop-name-preserved g c =
    let within : c.loop-name.name-index < length c.args.names.now = omega (arith, c.loop-name-test.true, c.loop-name.auto.name-index-end) in
    let whole : Source = source_of g.F.Files.content g.F.Files.faults c.args.files.now c.read_file.new.files in
    let first : Source = source_of g.F.Files.content g.F.Files.faults c.args.files.now c.loop-name.files in
    let last : Source = source_of g.F.Files.content g.F.Files.faults c.loop-name.files c.read_file.new.files in
    let before : IsPart whole first = first_part g.F.Files.content g.F.Files.faults c.args.files.now c.loop-name.files c.read_file.new.files c.loop-name.invariant.no_less c.read_file.ensures.never_falls in
    let behind : IsPart whole last = last_part g.F.Files.content g.F.Files.faults c.args.files.now c.loop-name.files c.read_file.new.files c.loop-name.invariant.kept c.loop-name.invariant.no_less c.read_file.ensures.never_falls in
    let h = c.in_ok-read_file.ensures in
    record {
      read = rw c.in_ok-push.ensures.items (read_more whole c.args.limit c.args.names.now c.loop-name.all.items c.loop-name.name-index c.in_ok-read_file.field-0 c.name-item.result within
          (read_too whole first c.args.limit _ c.loop-name.all.items before c.loop-name.invariant.read)
          (agrees_too whole last c.args.limit _ (Ok c.in_ok-read_file.field-0) behind
          (subst (λ n. Agrees last c.args.limit n (Ok c.in_ok-read_file.field-0)) (c.text_of.ensures ∙ c.name-item.is) h.agrees)));
      kept = kept_on g.F.Files.content c.args.files.now c.loop-name.files c.read_file.new.files c.loop-name.invariant.kept c.read_file.ensures.kept;
      no_less = less_on g.F.Files.faults c.args.files.now c.loop-name.files c.read_file.new.files c.loop-name.invariant.no_less c.read_file.ensures.never_falls;
    }

pub returns-clause-read : goal.returns-clause-read
returns-clause-read g c =
    let all : length c.args.names.now ≤ c.loop-name.name-index = omega (arith, c.loop-name-test.false, c.loop-name.auto.name-index-end) in
    subst (λ names. AreRead (source_of g.F.Files.content g.F.Files.faults c.args.files.now c.loop-name.files) c.args.limit names c.loop-name.all.items)
    (take_all c.loop-name.name-index c.args.names.now all) c.loop-name.invariant.read

pub returns-clause-kept : goal.returns-clause-kept
returns-clause-kept g c = c.loop-name.invariant.kept

pub returns-clause-never_falls : goal.returns-clause-never_falls
returns-clause-never_falls g c = c.loop-name.invariant.no_less
