use Rattle.std.proofs.Common.{◌≡◌, true, ◌∙◌, ap, refl, sym, subst}
use Rattle.host_text.specs.declared.cause.Cause.TheVariants as causes
use Rattle.host_text.specs.Refusals.{refusal_text, status_of}
use Rattle.whole_run.specs.Shelf.{seen_of as shelf_seen}
use Rattle.host.specs.Answer.{Seen, Tells, Decides, is_of_run, is_refusal}
use Rattle.host.specs.Outcome.{IsSteady, outcome, answers_of}
use Rattle.host.specs.Seen.{seen_of, source_of}
use Rattle.host.proofs.Told.{err_cause}
use Rattle.host.proofs.Telling.{line_told, tells_refusal, tells_run, decided_refusal, decided_run, not_memory, of_run, runs_refuse_none, words_only, fair_ran}
use Rattle.host.proofs.top.host.Goals as goal

pub returns-in-Ok-print-clause-decided : goal.returns-in-Ok-print-clause-decided
returns-in-Ok-print-clause-decided g c = λ steady.
    let seen : Seen = seen_of g.K.Sink.written g.K.Sink.faults (source_of g.F.Files.content g.F.Files.faults c.args.files.now c.work.new.files)
    (shelf_seen g.H.Shelf.told g.H.Shelf.faults c.args.shelf.now c.work.new.shelf) c.args.out.now c.print.new.out in
    decided_run c.args.words.now seen c.in-Ok.told c.in-Ok.text.items c.ended.result.cause c.in-Ok.ensures.done (of_run c.in-Ok.told c.ended.result.cause (c.ended.ensures.cause ∙ c.cause_of.ensures)) steady

pub returns-in-Ok-print-clause-complete : goal.returns-in-Ok-print-clause-complete
returns-in-Ok-print-clause-complete g c = λ fair.
    let seen : Seen = seen_of g.K.Sink.written g.K.Sink.faults (source_of g.F.Files.content g.F.Files.faults c.args.files.now c.work.new.files)
    (shelf_seen g.H.Shelf.told g.H.Shelf.faults c.args.shelf.now c.work.new.shelf) c.args.out.now c.print.new.out in
    fair_ran c.args.words.now seen c.in-Ok.told c.ended.result.cause c.ended.result.status (c.ended.ensures.status ∙ ap status_of (sym c.ended.ensures.cause))
    (tells_run c.args.words.now seen c.in-Ok.told c.ended.result.cause c.in-Ok.text.items (c.ended.ensures.cause ∙ c.cause_of.ensures) c.in-Ok.ensures.done (let h = c.in-Ok-print.ensures.whole in rw c.deref.ensures.value at h))
    fair

pub returns-in-Ok-clause-decided : goal.returns-in-Ok-clause-decided
returns-in-Ok-clause-decided g c = λ steady.
    let seen : Seen = seen_of g.K.Sink.written g.K.Sink.faults (source_of g.F.Files.content g.F.Files.faults c.args.files.now c.work.new.files)
    (shelf_seen g.H.Shelf.told g.H.Shelf.faults c.args.shelf.now c.work.new.shelf) c.args.out.now c.print.new.out in
    decided_run c.args.words.now seen c.in-Ok.told c.in-Ok.text.items c.ended-in-Err-print.result.cause c.in-Ok.ensures.done (ap is_of_run c.ended-in-Err-print.ensures.cause) steady

pub returns-clause-told : goal.returns-clause-told
returns-clause-told g c =
    let seen : Seen = seen_of g.K.Sink.written g.K.Sink.faults (source_of g.F.Files.content g.F.Files.faults c.args.files.now c.work.new.files)
    (shelf_seen g.H.Shelf.told g.H.Shelf.faults c.args.shelf.now c.work.new.shelf) c.args.out.now c.refuse.new.out in
    let h = c.in-Err.ensures in
    subst (λ cause. Tells c.args.words.now seen cause c.ended-in-Err.result.lists) (sym c.ended-in-Err.ensures.cause)
    (tells_refusal c.args.words.now seen c.in-Err.cause c.ended-in-Err.result.lists (record {
      why = h.refused;
      none = c.ended-in-Err.ensures.lists ∙ c.nothing.ensures;
      line = line_told seen.written_before seen.written_after seen.sink_before seen.sink_after (refusal_text c.in-Err.cause) c.refuse.result c.refuse.ensures.whole c.refuse.ensures.front c.refuse.ensures.failed;
    }))

pub returns-clause-words : goal.returns-clause-words
returns-clause-words g c =
    let h = c.in-Err.ensures in (
      λ is. words_only c.args.words.now (source_of g.F.Files.content g.F.Files.faults c.args.files.now c.work.new.files) c.in-Err.cause h.refused (sym c.ended-in-Err.ensures.cause ∙ is),
      λ none. c.ended-in-Err.ensures.cause ∙ err_cause c.in-Err.cause causes.Words (h.words none),
    )

pub returns-clause-decided : goal.returns-clause-decided
returns-clause-decided g c = λ steady.
    let h = c.in-Err.ensures in
    let s = source_of g.F.Files.content g.F.Files.faults c.args.files.now c.work.new.files in
    subst (λ cause. Decides (outcome c.args.words.now (answers_of (g.F.Files.content c.args.files.now))) cause) (sym c.ended-in-Err.ensures.cause)
    (decided_refusal c.args.words.now s c.in-Err.cause h.refused (subst (λ cause. IsSteady s.content cause) c.ended-in-Err.ensures.cause steady))

pub returns-clause-complete : goal.returns-clause-complete
returns-clause-complete g c = λ fair.
    let seen : Seen = seen_of g.K.Sink.written g.K.Sink.faults (source_of g.F.Files.content g.F.Files.faults c.args.files.now c.work.new.files)
    (shelf_seen g.H.Shelf.told g.H.Shelf.faults c.args.shelf.now c.work.new.shelf) c.args.out.now c.refuse.new.out in
    fair_ran c.args.words.now seen c.ended-in-Err.result.lists c.ended-in-Err.result.cause c.ended-in-Err.result.status
    (c.ended-in-Err.ensures.status ∙ ap status_of (sym c.ended-in-Err.ensures.cause)) (returns-clause-told g c) fair

pub returns-in-Ok-print-clause-uncalled : goal.returns-in-Ok-print-clause-uncalled
returns-in-Ok-print-clause-uncalled g c = λ refusal.
    absurd (runs_refuse_none c.ended.result.cause (of_run c.in-Ok.told c.ended.result.cause (c.ended.ensures.cause ∙ c.cause_of.ensures)) refusal)

pub returns-in-Ok-clause-uncalled : goal.returns-in-Ok-clause-uncalled
returns-in-Ok-clause-uncalled g c = λ refusal.
    absurd (runs_refuse_none c.ended-in-Err-print.result.cause (ap is_of_run c.ended-in-Err-print.ensures.cause) refusal)

pub returns-clause-uncalled : goal.returns-clause-uncalled
returns-clause-uncalled g c = λ refusal.
    c.in-Err.ensures.still (not_memory c.in-Err.cause (subst (λ cause. is_refusal cause ≡ true) c.ended-in-Err.ensures.cause refusal))

pub returns-in-Ok-print-clause-told : goal.returns-in-Ok-print-clause-told
returns-in-Ok-print-clause-told g c =
    let seen : Seen = seen_of g.K.Sink.written g.K.Sink.faults (source_of g.F.Files.content g.F.Files.faults c.args.files.now c.work.new.files)
    (shelf_seen g.H.Shelf.told g.H.Shelf.faults c.args.shelf.now c.work.new.shelf) c.args.out.now c.print.new.out in
    subst (λ lists. Tells c.args.words.now seen c.ended.result.cause lists) (sym c.ended.ensures.lists)
    (tells_run c.args.words.now seen c.in-Ok.told c.ended.result.cause c.in-Ok.text.items (c.ended.ensures.cause ∙ c.cause_of.ensures) c.in-Ok.ensures.done (let h = c.in-Ok-print.ensures.whole in rw c.deref.ensures.value at h))
