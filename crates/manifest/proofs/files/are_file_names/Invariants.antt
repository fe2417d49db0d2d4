use Rattle.std.proofs.Common.{◌≡◌, drop}
use Rattle.std.specs.List.{list_all}
use Rattle.toml.specs.View.{items_view}
use Rattle.manifest.specs.Names.{is_file_name}
use Rattle.manifest.specs.Manifest.{texts_in}
use Rattle.manifest.proofs.files.are_file_names.Given as goal

abbrev pub invariant-loop-value : goal.invariant-loop-value
invariant-loop-value l = list_all is_file_name (texts_in (items_view (drop l.value-index l.items))) ≡ list_all is_file_name (texts_in (items_view l.items))
