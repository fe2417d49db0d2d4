-- What a report counts, seen as a finite map.
use Rattle.std.proofs.Common.{◌≡◌, ℕ, ◌+◌, true, false, cond, List, Some, None, nat_eq, unwrap_or, is_some, IsSome, sym, ◌∙◌, ap, subst}
use Rattle.std.specs.Prelude.{T}
use Rattle.std.specs.Map.{lookup}
use Rattle.std.specs.FinMap as fin
use Rattle.probe_tools.specs.declared.tool.Tool.{Tool}
use Rattle.probe_tools.specs.Rows.{Counts, count_at, with_more}
use Rattle.report.specs.Rows.{Rows}
use Rattle.report.proofs.Maps.{get_seen, insert_seen}

pub count_seen : (es : List (ℕ × ℕ)) (k : ℕ) → count_at (fin.from_entries es) k ≡ unwrap_or (lookup (nat_eq k) es) 0
count_seen es k = ap (λ o. unwrap_or o 0) (get_seen es k)

abbrev rows_with : Tool → List (ℕ × ℕ) → Rows
rows_with tool es = record { tool = tool; counts = fin.from_entries es }

-- a row that rises by n, or a new one
pub more_seen : (tool : Tool) (es fs : List (ℕ × ℕ)) (k n count more : ℕ) → count ≡ unwrap_or (lookup (nat_eq k) es) 0 → more ≡ count + n
    → ((q : ℕ) → lookup (nat_eq q) fs ≡ cond (nat_eq k q) (Some more) (lookup (nat_eq q) es)) → (old : Rows) → rows_with tool es ≡ old
    → rows_with tool fs ≡ record old { counts = with_more k n old.counts }
more_seen tool es fs k n count more before is after old same =
    subst (λ (r : Rows). rows_with tool fs ≡ record r { counts = with_more k n r.counts }) same
    (ap (λ (c : Counts). record { tool = tool; counts = c })
    (insert_seen es fs k more after ∙ ap (fin.insert (fin.from_entries es) k) (is ∙ ap (λ m. m + n) (before ∙ sym (count_seen es k)))))

-- a key without an entry has no row
pub no_row : (tool : Tool) (es : List (ℕ × ℕ)) (k : ℕ) (old : Rows) → rows_with tool es ≡ old → lookup (nat_eq k) es ≡ None → IsSome (fin.get old.counts k) → ⊥
no_row tool es k old same none some =
    let gone : fin.get old.counts k ≡ None = sym (ap (λ r. fin.get r.counts k) same) ∙ get_seen es k ∙ none in
    let clash : false ≡ true = sym (ap is_some gone) ∙ some in
    subst T (sym clash) tt
