use Rattle.std.proofs.Common.{sym, ◌∙◌}
use Rattle.std.specs.Cmp.{nat_cmp_total}
use Rattle.std.specs.FinMap as fin
use Rattle.std.proofs.lemmas.Map.Lookups.{exact_unsigned}
use Rattle.probe_tools.proofs.laws.rows_are_unique.Goals as goal

pub returns : goal.returns
returns c = λ events a b of_a of_b. fin.same_map nat_cmp_total exact_unsigned a b (λ key. of_a key ∙ sym (of_b key))
