use Rattle.std.proofs.Common.{◌≡◌, ◌<◌, ◌≤◌, length, map, ap, sym, subst, ◌∙◌, arith, All}
use Rattle.std.proofs.lemmas.List.{take_all}
use Rattle.std.proofs.lemmas.List.Elements.{All-map}
use Rattle.whole_run.proofs.start.files_of.Goals as goal

pub returns-clause-there : goal.returns-clause-there
returns-clause-there c =
    let modules = c.modules-modules.result.now in
    let all : length modules ≤ c.loop-module.module-index = omega (arith, c.loop-module-test.false) in
    let whole : c.loop-module.files.items ≡ map (λ m. m.file) modules = c.loop-module.invariant ∙ ap (λ ms. map (λ m. m.file) ms) (take_all c.loop-module.module-index modules all) in
    let there : All (λ file. file < length c.args.manifest.now.files) (map (λ m. m.file) modules) =
    All-map (λ file. file < length c.args.manifest.now.files) (λ m. m.file) modules c.modules-modules.ensures.files in
    subst (λ files. All (λ file. file < length c.args.manifest.now.files) files) (sym whole) there
