use Rattle.std.proofs.Common.{◌≡◌, ap, subst, ◌∙◌}
use Rattle.registrar.specs.Calls.{holder_of}
use Rattle.guest_rounds.proofs.Lists.{on_err}
use Rattle.guest_answers.specs.Entries.{Grows}
use Rattle.whole_run.specs.Job.{Job, input_of, plan_of, tells}
use Rattle.whole_run.proofs.Visiting.{calls_none, calls_some, goes_even, visits}
use Rattle.whole_run.proofs.Telling.{ok_by, tells_by}
use Rattle.whole_run.proofs.crew.CrewGuests.run.Goals as goal

pub run_guest-ran-requires-clause-even : goal.run_guest-ran-requires-clause-even
run_guest-ran-requires-clause-even c = goes_even c.args.registry.now c.requires.let_go

pub returns-clause-ok : goal.returns-clause-ok
returns-clause-ok c =
    let j : Job = c.args.self.now in
    let work = c.in_ok-work.work in
    let old = c.args.registry.now in
    let new = c.run_guest-ran.new.registrar in
    let input = c.input_of-input.result.now in
    let reads : input ≡ input_of j c.args.guest = c.input_of-input.ensures ∙ ap (λ (x : Job). input_of x c.args.guest) c.self.view_is in
    let grows : Grows c.args.guest (holder_of old) (holder_of new) = subst (λ g. Grows g (holder_of old) (holder_of new)) c.in_ok-work.ensures.number c.run_guest-ran.ensures.grows in
    ok_by c.run_guest-ran.result _ _ _ _ c.run_guest-ran.ensures.told c.run_guest-ran.ensures.name c.run_guest-ran.ensures.even
    (λ ran told name even. visits c.args.guest old new told.0 (λ own. tells j c.args.guest own ran) grows c.journal.ensures.replied c.requires.let_go even told.1
    (tells_by j c.self.inside.plan c.self.inside.manifest.now c.args.guest input work told.0 ran (c.self.invariant.0 ∙ ap plan_of c.self.view_is) (ap (λ (x : Job). x.listing) c.self.view_is) reads
    c.in_ok-work.ensures.work name told.2))

pub returns-clause-err : goal.returns-clause-err
returns-clause-err c =
    let old = c.args.registry.now in
    let new = c.run_guest-ran.new.registrar in
    let grows : Grows c.args.guest (holder_of old) (holder_of new) = subst (λ g. Grows g (holder_of old) (holder_of new)) c.in_ok-work.ensures.number c.run_guest-ran.ensures.grows in
    on_err c.run_guest-ran.result _ (calls_some c.args.guest old new grows c.journal.ensures.replied)

pub returns-in_err-work-clause-err : goal.returns-in_err-work-clause-err
returns-in_err-work-clause-err c = on_err c.from_residual.result _ (calls_none c.args.guest c.args.registry.now)
