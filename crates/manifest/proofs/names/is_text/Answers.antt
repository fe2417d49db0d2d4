use Rattle.std.proofs.Common.{◌∙◌}
use Rattle.manifest.proofs.Utf8.{tells}
use Rattle.manifest.proofs.names.is_text.Goals as goal

pub returns : goal.returns
returns c = c.is_ok.ensures.value ∙ tells c.args.bytes.now c.from_utf8.result _ _ c.from_utf8.ensures.cases
