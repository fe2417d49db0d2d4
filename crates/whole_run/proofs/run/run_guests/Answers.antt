use Rattle.std.proofs.Common.{◌≡◌, ◌<◌, length, map, ap, sym, subst, ◌∙◌, arith}
use Rattle.std.proofs.lemmas.List.{length-map}
use Rattle.slot_list.proofs.Numbers.{numbered, slots_differ}
use Rattle.slot_list.proofs.Uses.{listed}
use Rattle.whole_run.specs.Job.{Job, job_of, rounds_of}
use Rattle.whole_run.specs.Crew.{MayRun}
use Rattle.whole_run.proofs.Telling.{all_ran, may_run}
use Rattle.whole_run.proofs.run.run_guests.Goals as goal

pub run_rounds-requires-clause-may : goal.run_rounds-requires-clause-may
run_rounds-requires-clause-may c g within =
    let j : Job = job_of c.args.manifest.now c.args.elfs.items c.args.inputs.now in
    let rounds : c.deref.result.now ≡ rounds_of j = c.deref.ensures.value ∙ (c.in_ok-rounds.ensures.rounds ∙ ap (λ gs. map (λ g. g.round) gs) c.guests.ensures.guests) in
    let there : g < length j.listing.guests = omega (arith, within, ap length rounds, length-map j.listing.guests (λ g. g.round)) in
    subst (λ x. MayRun x c.args.registry.now.opening g) (sym c.in_ok-crew.ensures.crew)
    (may_run j c.args.registry.now.opening g slots_differ listed numbered c.requires.names c.in_ok-crew.ensures.few c.requires.slots c.requires.codes c.requires.modules there)

pub returns : goal.returns
returns c =
    let j : Job = job_of c.args.manifest.now c.args.elfs.items c.args.inputs.now in
    let rounds : c.deref.result.now ≡ rounds_of j = c.deref.ensures.value ∙ (c.in_ok-rounds.ensures.rounds ∙ ap (λ gs. map (λ g. g.round) gs) c.guests.ensures.guests) in
    all_ran c.run_rounds.result j c.in_ok-crew.crew c.deref.result.now c.args.registry.now c.run_rounds.new.registry c.in_ok-crew.ensures.crew rounds c.run_rounds.ensures.one_each c.run_rounds.ensures.told
    c.run_rounds.ensures.calls c.run_rounds.ensures.free
