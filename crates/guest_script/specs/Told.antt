-- What the entries of a guest tell its run.
use Rattle.std.specs.Prelude.{ℕ, List, [], ◌∷◌}
use Rattle.std.specs.List.{flat_map}
use Rattle.std.specs.Option.{option_to_list}
use Rattle.registry.specs.declared.entry.Entry.{Entry}
use Rattle.registry.specs.declared.entry.Entry.TheVariants as entries
use Rattle.registry.specs.Registry.{Told}

-- the file that an entry answers
abbrev pub file_told : Entry → List ℕ
file_told (entries.Map guest k file) = option_to_list file
file_told _ = []

-- the addresses of the unit that an entry hands out, where it attaches one
abbrev pub unit_told : Told → Entry → List (List ℕ)
unit_told t (entries.Attach guest slot file age version) = t.unit.addrs ∷ []
unit_told t _ = []

-- the map answers, in order
abbrev pub files_told : List Told → List ℕ
files_told ts = flat_map (λ t. file_told t.entry) ts

-- the units that were attached, in order
abbrev pub units_told : List Told → List (List ℕ)
units_told ts = flat_map (λ t. unit_told t t.entry) ts
