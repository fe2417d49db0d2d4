use Rattle.std.proofs.Common.{ap, nat_eq, unwrap_or, ◌∙◌}
use Rattle.std.specs.Map.{lookup}
use Rattle.report.proofs.Counting.{count_seen}
use Rattle.report.proofs.report.Report.new.Goals as goal

pub returns-clause-none : goal.returns-clause-none
returns-clause-none c = λ key. count_seen c.new.result.entries key ∙ ap (λ es. unwrap_or (lookup (nat_eq key) es) 0) c.new.ensures.empty
