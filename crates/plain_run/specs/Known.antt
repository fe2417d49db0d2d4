-- The modules of a guest that is alone, as they are mapped.
use Rattle.std.specs.Prelude.{◌≡◌, ℕ, ◌≤◌, List, [], ◌∷◌, slice_get, Some}
use Rattle.plain_machine.specs.declared.io.Mapping.{Mapping}
use Rattle.plain_machine.specs.Program.{Program, top_of}

-- the file is there, and its segments end at an address
pub record IsKnown (files : List Program) (base f : ℕ) : Type 0 where
  pub program : Program
  pub there : slice_get files f ≡ Some program
  pub top : top_of program base ≤ 4294967295

-- each of them is the one module, number 0, mapped from a file that is known
abbrev pub AreKnown : List Program → ℕ → List Mapping → Type 0
AreKnown files base [] = Unit {0}
AreKnown files base (m ∷ ms) = (m.module ≡ 0) × IsKnown files base m.file × AreKnown files base ms
