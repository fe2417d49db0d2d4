use Rattle.std.proofs.Common.{◌∙◌}
use Rattle.manifest.proofs.Utf8.{tells}
use Rattle.manifest.proofs.read.text_of.Goals as goal

pub returns-clause-test : goal.returns-clause-test
returns-clause-test c = c.ok.ensures.variant ∙ tells c.args.bytes.now c.from_utf8.result _ _ c.from_utf8.ensures.cases
