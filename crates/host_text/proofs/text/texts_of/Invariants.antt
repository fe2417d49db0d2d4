use Rattle.std.proofs.Common.{◌≡◌, take}
use Rattle.std.specs.List.{flat_map}
use Rattle.host_text.specs.Text.{text_in}
use Rattle.host_text.proofs.text.texts_of.Given as goal

abbrev pub invariant-loop-ran : goal.invariant-loop-ran
invariant-loop-ran l = l.text.items ≡ flat_map (text_in l.with_counts) (take l.ran-index l.rans)
