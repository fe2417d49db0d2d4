use Rattle.std.proofs.Common.{◌≡◌, sym, subst, true, ◌∙◌}
use Rattle.std.specs.Prelude.{All}
use Rattle.toml.specs.View.{items_view}
use Rattle.manifest.specs.Names.{is_file_name}
use Rattle.manifest.specs.Manifest.{texts_in}
use Rattle.manifest.proofs.Putting.{all_pass}
use Rattle.manifest.proofs.files.files_in.Goals as goal

pub returns-in-Some-clause-spelled : goal.returns-in-Some-clause-spelled
returns-in-Some-clause-spelled c =
    let texts = texts_in (items_view c.in_ok-items.items.now) in
    let same : c.in-Some.names ≡ texts = c.in_ok-names.ensures.texts c.in-Some.names c.in-Some.is in
    subst (All (λ n. is_file_name n ≡ true)) (sym same) (all_pass is_file_name texts (sym c.are_file_names.ensures ∙ c.if-not-are_file_names.false))
