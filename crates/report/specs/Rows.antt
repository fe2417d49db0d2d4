-- A report as its callers see it.
use Rattle.std.specs.Prelude.{refl}
use Rattle.std.specs.FinMap as fin
use Rattle.std.specs.Coded.{Coded, code_by, coded×, coded_ℕ}
use Rattle.probe_tools.specs.declared.tool.Tool.{Tool}
use Rattle.probe_tools.specs.contracts.tool.Tool as stored
use Rattle.probe_tools.specs.Rows.{Counts}

-- a tool, and the counts of the keys that occurred
pub record Rows : Type 0 where
  pub tool : Tool
  pub counts : Counts

-- it is stored as its parts
abbrev pub rows_code : Coded Rows
rows_code = code_by (Tool × Counts) (coded× stored.the_row.coded (fin.code coded_ℕ coded_ℕ)) (λ r. (r.tool, r.counts)) (λ p. record { tool = p.0; counts = p.1 }) (λ _. refl)
