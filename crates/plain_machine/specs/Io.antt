-- What a guest has of the world outside its memory.
use Rattle.std.specs.Prelude.{ℕ, List, Option}
use Rattle.plain_machine.specs.declared.io.Heap.{Heap}
use Rattle.plain_machine.specs.declared.io.Mapping.{Mapping}

pub record Io : Type 0 where
  -- what is left to be read
  pub input : List ℕ
  -- what was written
  pub output : List ℕ
  -- none where there is no room for one
  pub heap : Option Heap
  -- how many map calls were made
  pub map_calls : ℕ
  -- the modules that are mapped, each with the file that it was mapped from
  pub mapped : List Mapping
