use Rattle.std.proofs.Common.{List, subst}
use Rattle.manifest.specs.Entries.{ModuleEntry}
use Rattle.manifest.specs.Manifest.{module_names}
use Rattle.slot_list.specs.Laws.{AreDistinct}
use Rattle.slot_list.proofs.Names.{apart_by}
use Rattle.slot_list.proofs.laws.modules_have_own_names.Goals as goal

pub returns : goal.returns
returns c = subst (λ (ms : List ModuleEntry). AreDistinct (module_names ms)) c.modules.ensures.modules (apart_by (module_names c.modules.result.now) c.modules.ensures.own_names)
