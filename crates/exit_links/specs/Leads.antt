-- Where the exits lead, as lists of exits say.
use Rattle.std.specs.Prelude.{ℕ, ◌+◌, ◌==◌, Bool, cond, List, [], ◌∷◌, ◌++◌, map, Option, Some, None}
use Rattle.std.specs.List.{list_any}
use Rattle.std.specs.FinMap as fin
use Rattle.in_lists.specs.Lists.{Incoming}
use Rattle.exit_links.specs.Linked.{Pairs}

abbrev pub has : List ℕ → ℕ → Bool
has list x = list_any (λ e. e == x) list

-- the first list from number h on that has it
abbrev pub first_with : ℕ → List (List ℕ) → ℕ → Option ℕ
first_with h [] x = None
first_with h (l ∷ ls) x = cond (has l x) (Some h) (first_with (h + 1) ls x)

-- the place that exit x leads to: in whose list it is
abbrev pub leads : Incoming → ℕ → Option ℕ
leads v x = first_with 0 v.lists x

-- each exit with the place in whose list it is, from list number h on
abbrev pub pairs_from : ℕ → List (List ℕ) → List (ℕ × ℕ)
pairs_from h [] = []
pairs_from h (l ∷ ls) = map (λ x. (x, h)) l ++ pairs_from (h + 1) ls

abbrev pub pairs_of : Incoming → Pairs
pairs_of v = fin.from_entries (pairs_from 0 v.lists)
