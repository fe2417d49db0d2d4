-- What a tool sees of a run, before each instruction that is done, also where that then faults.
use Rattle.std.specs.Prelude.{ℕ, ◌==◌, ◌||◌, Bool, false, if◌then◌else◌, List, [], ◌∷◌, option_map, Result, Ok, Err}
use Rattle.std.specs.List.{flat_map}
use Rattle.std.specs.Option.{option_to_list}
use Rattle.rv_decode.specs.declared.ins.Ins.{Ins}
use Rattle.rv_decode.specs.declared.ins.Ins.TheVariants as ins
use Rattle.rv_decode.specs.Table.{instruction}
use Rattle.probe_tools.specs.declared.tool.Tool.{Tool}
use Rattle.probe_tools.specs.declared.tool.Tool.TheVariants as tools
use Rattle.probe_tools.specs.declared.event.Event.{Event}
use Rattle.probe_tools.specs.declared.event.Event.TheVariants.{Block, Call, Mem}
use Rattle.plain_machine.specs.declared.access.Access.{Access}
use Rattle.plain_machine.specs.declared.cpu.Cpu.{Cpu}
use Rattle.plain_machine.specs.Memory.{fetched, size_of}
use Rattle.plain_machine.specs.Step.{Accessed, access_of, target_of}
use Rattle.plain_machine.specs.Machine.{State}

-- a link register: x1 or x5 (the unprivileged manual, "Unconditional Jumps")
abbrev pub is_link : ℕ → Bool
is_link rd = (rd == 1) || (rd == 5)

-- a jump that leaves its return address in a link register
abbrev pub is_call : Ins → Bool
is_call (ins.Jal rd imm) = is_link rd
is_call (ins.Jalr rd rs1 imm) = is_link rd
is_call _ = false

abbrev pub access_event : ℕ → Accessed → Event
access_event at a = Mem at a.address (size_of a.size) a.store

-- By the tool and the instruction:
--   blocks   one that begins a block    its address
--   calls    a call                     its address, and its target
--   memory   a load or a store          its address, and the address, size and kind of its access
abbrev pub seen_at : Tool → Cpu → Bool → Ins → List Event
seen_at tools.Blocks cpu begins i = if begins then Block cpu.pc ∷ [] else []
seen_at tools.Calls cpu begins i = if is_call i then option_to_list (option_map (Call cpu.pc) (target_of i cpu)) else []
seen_at tools.Memory cpu begins i = option_to_list (option_map (access_event cpu.pc) (access_of i cpu))

abbrev pub seen_before : Tool → Cpu → Bool → Result ℕ Access → List Event
seen_before tool cpu begins (Err _) = []
seen_before tool cpu begins (Ok word) = seen_at tool cpu begins (instruction cpu.isa word)

-- what the tool sees before the instruction of a state, which begins a block or not
abbrev pub seen : Tool → State × Bool → List Event
seen tool (s, begins) = seen_before tool s.cpu begins (fetched s.memory s.cpu.pc)

-- of a run with its cut, whatever the most instructions of a block
abbrev pub events : Tool → List (State × Bool) → List Event
events tool marks = flat_map (seen tool) marks
