use Rattle.std.proofs.Common.{◌≡◌, ◌∷◌, [], ◌++◌, get_or, refl, sym, ap, ◌∙◌, subst}
use Rattle.std.specs.Prelude.{slice_get, Some}
use Rattle.std.proofs.lemmas.Result.{IfOk-weaker}
use Rattle.std.proofs.lemmas.Option.{slice_get-get_or}
use Rattle.std.specs.FinMap as fin
use Rattle.plain_machine.specs.declared.ends.End.TheVariants as ends
use Rattle.plain_machine.specs.Program.{Program}
use Rattle.plain_machine.specs.Plain.{IsPlainRun}
use Rattle.plain_run.specs.Plain.{one_module, guest_of}
use Rattle.plain_run.specs.Ready.{state_of}
use Rattle.plain_run.proofs.Whole.{run-whole, run-unplaced, runs-as}
use Rattle.plain_run.proofs.Entering.{nothing}
use Rattle.plain_run.proofs.run.interpret.Goals as goal

pub returns-in-None-clause-plain : goal.returns-in-None-clause-plain
returns-in-None-clause-plain c =
    let elfs = c.args.elfs.now in
    let f = c.args.module.file in
    let program : Program = get_or elfs f nothing in
    let there : slice_get elfs f ≡ Some program = slice_get-get_or elfs f nothing c.requires in
    let starts = let h = c.in_ok-start.ensures.starts program there in rw c.in-None.is at h in
    let w = one_module elfs c.args.module.base in
    let g = guest_of c.args.setup.now in
    let maps : c.push.new.self.items ≡ f ∷ [] = c.in_ok-push.ensures.items ∙ ap (λ xs. xs ++ f ∷ []) c.new-maps.ensures.items in
    subst (λ xs. IsPlainRun w g c.args.setup.now.tool c.args.setup.now.max (f ∷ []) xs ends.Unplaced c.from_vec.result c.new-in-None.result.counts) (sym maps)
    (run-unplaced w g c.args.setup.now.tool c.args.setup.now.max f c.args.module.base program c.from_vec.result c.new-in-None.result.counts
    refl there (sym starts) refl (c.from_vec.ensures ∙ c.new.ensures.items) (ap (λ r. r.counts) c.new-in-None.ensures.report))

pub returns-in-Some-clause-plain : goal.returns-in-Some-clause-plain
returns-in-Some-clause-plain c =
    let elfs = c.args.elfs.now in
    let f = c.args.module.file in
    let program : Program = get_or elfs f nothing in
    let there : slice_get elfs f ≡ Some program = slice_get-get_or elfs f nothing c.requires in
    let starts = let h = c.in_ok-start.ensures.starts program there in rw c.in-Some.is at h in
    let begun : (c.in-Some.process.report.counts ≡ fin.empty) × (c.in-Some.process.left ≡ c.args.setup.now.fuel) × (c.in-Some.process.file ≡ f) = let h = c.in_ok-start.ensures.empty in rw c.in-Some.is at h in
    let maps : c.push.new.self.items ≡ f ∷ [] = c.in_ok-push.ensures.items ∙ ap (λ xs. xs ++ f ∷ []) c.new-maps.ensures.items in
    let w = one_module elfs c.args.module.base in
    IfOk-weaker c.run_from.result _ _
    (λ ran runs.
    run-whole (one_module elfs c.args.module.base) (guest_of c.args.setup.now) c.args.setup.now.tool c.args.setup.now.max f c.args.module.base program (state_of c.in-Some.process) ran.maps.items ran.end ran.output ran.report.counts
    refl there (sym starts) refl
    (runs-as w c.args.setup.now.tool c.args.setup.now.max (state_of c.in-Some.process) ran.maps.items ran.end ran.output ran.report.counts c.in-Some.process.left c.args.setup.now.fuel c.in-Some.process.file f c.push.new.self.items begun.1 begun.2 maps runs))
    c.run_from.ensures.runs
