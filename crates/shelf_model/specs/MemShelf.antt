-- What a shelf in memory tells: its record of calls, and what follows from that.
use Rattle.std.specs.Prelude.{ℕ, List, Option, Some, length, take}
use Rattle.shelf_model.specs.declared.shelf.Area.{Area}
use Rattle.shelf_model.specs.declared.memory.Call.{Call}
use Rattle.shelf_model.specs.declared.memory.MemShelf.{MemShelf}
use Rattle.shelf_model.specs.Calls.{content_of, left_of}

-- its calls so far, but for the reads
abbrev pub calls_of : MemShelf → List Call
calls_of shelf = shelf.calls.items

-- what a read gives
abbrev pub shelf_told : MemShelf → List ℕ → Area → Option (List ℕ)
shelf_told shelf n b = Some (content_of (calls_of shelf) n b)

-- a moment is a number of calls
abbrev pub shelf_moment : MemShelf → ℕ
shelf_moment shelf = length (calls_of shelf)

-- what a crash after so many calls may leave
abbrev pub shelf_images : MemShelf → ℕ → List ℕ → Area → List ℕ → Type 0
shelf_images shelf m n b = left_of (take m (calls_of shelf)) n b
