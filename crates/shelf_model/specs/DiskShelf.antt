-- What is told of the areas of a folder.
use Rattle.std.specs.Prelude.{ℕ, List, Option, None}
use Rattle.shelf_model.specs.declared.shelf.Area.{Area}
use Rattle.shelf_model.specs.declared.disk.DiskShelf.{DiskShelf}

abbrev pub disk_faults : {R Handle Access : Type 0} → DiskShelf R Handle Access → ℕ
disk_faults shelf = shelf.faults

-- nothing is told of any area
abbrev pub nothing_told : List ℕ → Area → Option (List ℕ)
nothing_told name area = None

-- a crash may leave anything
abbrev pub any_image : ℕ → List ℕ → Area → List ℕ → Type 0
any_image moment name area bytes = Unit {0}
