-- A process at its start.
use Rattle.std.specs.Prelude.{[], ◌∷◌, None}
use Rattle.std.specs.FinMap as fin
use Rattle.plain_machine.specs.Machine.{first_registers, stack_of}
use Rattle.block_ledger.specs.Ledger.{new_ledger}
use Rattle.block_ledger.specs.Traced.{Scheme}
use Rattle.guest_proc.specs.declared.running.Setup.{Setup}
use Rattle.guest_proc.specs.Process.{Process}

-- its tool, and how its blocks are made and kept
abbrev pub scheme_for : Setup → Scheme
scheme_for setup = record { tool = setup.tool; max = setup.max; pool = setup.pool }

-- it has the stack alone, and its input; nothing is mapped, and nothing has happened
abbrev pub first_process : Setup → Process
first_process setup = record {
  state = record {
    cpu = record { pc = 0; isa = setup.isa; regs = first_registers };
    memory = stack_of setup.stack ∷ [];
    io = record { input = setup.input; output = []; heap = None; map_calls = 0; mapped = [] };
  };
  fuel = setup.fuel;
  report = record { tool = setup.tool; counts = fin.empty };
  ledger = new_ledger;
}
