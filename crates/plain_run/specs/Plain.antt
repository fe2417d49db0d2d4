-- A guest that is alone, and what it finds outside.
use Rattle.std.specs.Prelude.{ℕ, List, [], ◌∷◌}
use Rattle.plain_machine.specs.Program.{Program}
use Rattle.plain_machine.specs.Machine.{Guest, Setting}
use Rattle.plain_run.specs.declared.guest.Setup.{Setup}

-- one module, to stand at this base, and these files
abbrev pub one_module : List Program → ℕ → Setting
one_module files base = record { bases = base ∷ []; files = files }

-- the guest that is run
abbrev pub guest_of : Setup → Guest
guest_of setup = record { isa = setup.isa; program = 0; stack = setup.stack; input = setup.input; fuel = setup.fuel }
