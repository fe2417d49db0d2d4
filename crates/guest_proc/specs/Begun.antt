-- A block that begins.
use Rattle.std.specs.Prelude.{◌≡◌, ◌≤◌, ℕ, ◌+◌, List, ◌++◌, length, Some}
use Rattle.rv_decode.specs.declared.ins.Isa.{Isa}
use Rattle.probe_tools.specs.declared.tool.Tool.{Tool}
use Rattle.plain_machine.specs.Memory.{Memory}
use Rattle.fragment.specs.Parts.{Parts}
use Rattle.block_build.specs.Making.{Taken}
use Rattle.block_ledger.specs.Ledger.{Ledger, view, begun}
use Rattle.block_ledger.specs.Requests.{Asking}
use Rattle.block_ledger.specs.Traced.{Scheme, beginning}
use Rattle.guest_proc.specs.Fresh.{block_in}
use Rattle.guest_proc.specs.Process.{trace}

-- the block at this address began, and stands ready
pub record HasBegun (tool : Tool) (max : ℕ) (isa : Isa) (m : Memory) (a : ℕ) (old new : Ledger) : Type 0 where
  pub block : Parts
  pub at : block.address ≡ a
  pub fresh : block_in tool max isa m a ≡ Some block
  pub ready : view new a ≡ Some block
  pub here : new.block ≡ a
  pub ledger : new ≡ begun block old

-- the block begins in any trace with this ledger, and there is room for it, so that nothing is asked
abbrev pub BlockBegins : Scheme → Parts → Ledger → Ledger → Type 0
BlockBegins scheme block old new =
    (maps : List ℕ) (units : List (List ℕ)) (requests : List Asking) → beginning scheme (Some block) (trace old maps units requests) ≡ trace new maps units requests

-- The blocks that were built, as the ledger counts them, are those that a maker counted and those that it took.
pub record AreMade (built after steps now : ℕ) (taken last : Taken) : Type 0 where
  pub later : steps ≤ now
  pub more : Taken
  pub took : last ≡ taken ++ more
  pub sum : after + steps ≡ built + now + length more
