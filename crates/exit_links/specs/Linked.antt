-- Where exits lead. Exit e of place p has the number 2 * p + e.
use Rattle.std.specs.Prelude.{ℕ, ◌+◌, ◌*◌, ◌==◌, nat_lt, cond, Bool, false, Option, Some, None, refl}
use Rattle.std.specs.Ordering.{nat_cmp}
use Rattle.std.specs.FinMap as fin
use Rattle.std.specs.Coded.{Coded, code_by, coded×, coded_ℕ}

-- for the number of an exit the place that it leads to
abbrev pub Pairs : Type 0
Pairs = fin.FinMap nat_cmp ℕ

pub record Linked : Type 0 where
  -- the places are numbered from 0 up to this number
  pub places : ℕ
  pub pairs : Pairs

abbrev pub linked : ℕ → Pairs → Linked
linked places pairs = record { places = places; pairs = pairs }

abbrev pub linked_code : Coded Linked
linked_code = code_by (ℕ × Pairs) (coded× coded_ℕ (fin.code coded_ℕ coded_ℕ)) (λ l. (l.places, l.pairs)) (λ p. linked p.0 p.1) (λ _. refl)

abbrev pub exit_number : ℕ → ℕ → ℕ
exit_number place exit = 2 * place + exit

-- the place that the exit of a place leads to
abbrev pub target_of : Linked → ℕ → ℕ → Option ℕ
target_of l place exit = cond (nat_lt exit 2) (fin.get l.pairs (exit_number place exit)) None

abbrev pub leads_to : Option ℕ → ℕ → Bool
leads_to None place = false
leads_to (Some q) place = q == place
