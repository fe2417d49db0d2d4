-- Which calls of a shelf in memory are made to fail, and what it tells.
use Rattle.std.specs.Prelude.{ℕ, ◌≤◌, Contains, List, Option}
use Rattle.shelf_model.specs.declared.shelf.Area.{Area}
use Rattle.shelf_model.specs.declared.fuse.Fuse.{Fuse}
use Rattle.shelf_model.specs.declared.fuse.Fuse.TheVariants.{Listed, From}
use Rattle.shelf_model.specs.declared.fuse.FuseShelf.{FuseShelf}
use Rattle.shelf_model.specs.declared.memory.MemShelf.{MemShelf}
use Rattle.shelf_model.specs.MemShelf.{shelf_told, shelf_moment, shelf_images}

abbrev pub IsDue : Fuse → ℕ → Type 0
IsDue (Listed calls) call = Contains calls.items call
IsDue (From first) call = first ≤ call

-- the call of this number fails, the first having 1
abbrev pub FailsAt : FuseShelf → ℕ → Type 0
FailsAt fuse call = IsDue fuse.fuse call

-- the number of the last call
abbrev pub calls_made : FuseShelf → ℕ
calls_made fuse = fuse.calls

-- how many calls failed
abbrev pub fuse_faults : FuseShelf → ℕ
fuse_faults fuse = fuse.faults

abbrev pub inner_shelf : FuseShelf → MemShelf
inner_shelf fuse = fuse.shelf

abbrev pub fuse_told : FuseShelf → List ℕ → Area → Option (List ℕ)
fuse_told fuse = shelf_told fuse.shelf

abbrev pub fuse_moment : FuseShelf → ℕ
fuse_moment fuse = shelf_moment fuse.shelf

abbrev pub fuse_images : FuseShelf → ℕ → List ℕ → Area → List ℕ → Type 0
fuse_images fuse = shelf_images fuse.shelf
