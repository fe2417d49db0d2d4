-- How the blocks of guests are built, each way once.
use Rattle.std.specs.Prelude.{ℕ, ◌≤◌, Bool, true, false, not, ◌==◌, ◌&&◌, List, [], ◌∷◌, map}
use Rattle.std.specs.List.{filter}
use Rattle.rv_decode.specs.declared.ins.Isa.{Isa}
use Rattle.rv_decode.specs.declared.ins.Isa.TheVariants.{I, Im}
use Rattle.probe_tools.specs.declared.tool.Tool.{Tool}
use Rattle.probe_tools.specs.declared.tool.Tool.TheVariants.{Blocks, Calls, Memory}
use Rattle.manifest.specs.Entries.{GuestEntry}

-- how blocks are built: from which instruction set, for which tool, and of how many instructions at most
pub record Recipe : Type 0 where
  pub isa : Isa
  pub tool : Tool
  pub max : ℕ

-- what the type of a recipe keeps
pub record IsRecipe (r : Recipe) : Type 0 where
  pub some : 1 ≤ r.max
  pub most : r.max ≤ 64

-- how a guest's blocks are built
abbrev pub recipe_of : GuestEntry → Recipe
recipe_of g = record { isa = g.isa; tool = g.tool; max = g.max }

abbrev pub same_isa : Isa → Isa → Bool
same_isa I I = true
same_isa I Im = false
same_isa Im I = false
same_isa Im Im = true

abbrev pub same_tool : Tool → Tool → Bool
same_tool Blocks Blocks = true
same_tool Blocks Calls = false
same_tool Blocks Memory = false
same_tool Calls Blocks = false
same_tool Calls Calls = true
same_tool Calls Memory = false
same_tool Memory Blocks = false
same_tool Memory Calls = false
same_tool Memory Memory = true

-- both are one
abbrev pub same : Recipe → Recipe → Bool
same a b = same_isa a.isa b.isa && same_tool a.tool b.tool && (a.max == b.max)

-- each once, in the order in which they first stand
abbrev pub first_uses : List Recipe → List Recipe
first_uses [] = []
first_uses (r ∷ rs) = r ∷ filter (λ other. not (same r other)) (first_uses rs)

-- the recipes of guests, in the order in which guests first use them
abbrev pub recipes_of : List GuestEntry → List Recipe
recipes_of guests = first_uses (map recipe_of guests)
