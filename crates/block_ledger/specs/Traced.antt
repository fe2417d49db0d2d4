-- The ledger of a run of the plain machine: its states whose instruction is done, each with whether it begins a block,
-- one after the other.
use Rattle.std.specs.Prelude.{ℕ, ◌+◌, ◌-◌, Bool, true, false, if◌then◌else◌, List, [], ◌∷◌, ◌++◌, drop, find, length, slice_get, Option, Some, None, Result, Ok, Err}
use Rattle.std.specs.List.{flat_map}
use Rattle.std.specs.FinMap as fin
use Rattle.cc_base.specs.Image.{Code}
use Rattle.cc_base.specs.Span.{Range}
use Rattle.cc_base.specs.declared.span.Span.{Span}
use Rattle.rv_decode.specs.declared.ins.Ins.{Ins}
use Rattle.rv_decode.specs.declared.ins.Isa.{Isa}
use Rattle.rv_decode.specs.Table.{instruction}
use Rattle.probe_tools.specs.declared.tool.Tool.{Tool}
use Rattle.plain_machine.specs.declared.access.Access.{Access}
use Rattle.plain_machine.specs.declared.access.MemErr.{MemErr}
use Rattle.plain_machine.specs.declared.cpu.Done.{Done}
use Rattle.plain_machine.specs.declared.cpu.Done.TheVariants as done
use Rattle.plain_machine.specs.declared.io.Asked.TheVariants as asked
use Rattle.plain_machine.specs.Memory.{Memory, fetched, code_at, code_of}
use Rattle.plain_machine.specs.Step.{Outcome, step}
use Rattle.plain_machine.specs.Calls.{Reply, called, is_module}
use Rattle.plain_machine.specs.Program.{Program, Segment, area_of, base_of, placed}
use Rattle.plain_machine.specs.Machine.{State, Setting, Guest, base_at, file_at, program_in, start}
use Rattle.plain_machine.specs.Run.{plain}
use Rattle.plain_machine.specs.Cut.{cut}
use Rattle.fragment.specs.Parts.{Parts}
use Rattle.fragment.specs.Build.{built}
use Rattle.fragment.specs.Exits.{exits_of}
use Rattle.fragment.specs.declared.Exit.{Exit}
use Rattle.fragment.specs.declared.Exit.TheVariants.{Direct, Indirect, Asks, Stop}
use Rattle.block_ledger.specs.Ledger.{Ledger, Blocks, begun, left_by, written, attached, unmapped, flushed, all_offered, wants_room, segment_of, new_ledger}
use Rattle.block_ledger.specs.Requests.{Asking, Request, AsksFile, MakesBe, asked_at, offers, partings, segments_of, unit_asks}

-- how a guest's blocks are made and kept: for this tool, of at most so many instructions, and at most so many private ones
pub record Scheme : Type 0 where
  pub tool : Tool
  pub max : ℕ
  pub pool : ℕ

pub record Trace : Type 0 where
  pub ledger : Ledger
  -- the files of the map calls that are still to be answered
  pub maps : List ℕ
  -- the addresses of the units that are still to be attached
  pub units : List (List ℕ)
  -- what was asked of the files and units that are shared
  pub requests : List Asking

abbrev pub on_ledger : (Ledger → Ledger) → Trace → Trace
on_ledger f t = record t { ledger = f t.ledger }

-- one more request is made
abbrev pub asking : Request → Trace → Trace
asking r t = record t { requests = t.requests ++ asked_at t.ledger.counts.blocks r ∷ [] }

-- ---- how an instruction leaves its block

abbrev pub is_direct : Option Exit → Bool
is_direct None = false
is_direct (Some (Direct to)) = true
is_direct (Some Indirect) = false
is_direct (Some (Asks to)) = false
is_direct (Some Stop) = false

-- the exit of this number, if it is a direct one
abbrev pub direct : ℕ → List Exit → Option ℕ
direct e exits = if is_direct (slice_get exits e) then Some e else None

-- The exit by which an instruction with these exits leaves its block that did so, if it is a direct one. Of a branch the
-- first is taken where its comparison holds, and else the last, also where both lead to one address.
abbrev pub exit_by : List Exit → Done → Option ℕ
exit_by exits done.Next = direct (length exits - 1) exits
exit_by exits done.Taken = direct 0 exits
exit_by exits done.Asked = None
exit_by exits (done.Touched span) = None
exit_by exits (done.Fault kind) = None

-- ---- a begin

-- The block begins. Where there is no room for it, the candidates of all segments are offered and the private blocks go.
abbrev pub with_block : Scheme → Option Parts → Ledger → Ledger
with_block scheme None led = led
with_block scheme (Some f) led = begun f (if wants_room scheme.pool led f.address then flushed (all_offered (fin.keys led.segments) led) else led)

-- what is offered then
abbrev pub room_asks : Scheme → Option Parts → Ledger → List Asking
room_asks scheme None led = []
room_asks scheme (Some f) led = if wants_room scheme.pool led f.address then offers (fin.keys led.segments) led else []

-- the same of a trace
abbrev pub beginning : Scheme → Option Parts → Trace → Trace
beginning scheme f t = record t { ledger = with_block scheme f t.ledger; requests = t.requests ++ room_asks scheme f t.ledger }

abbrev pub built_in : Option Code → ℕ → Isa → Tool → ℕ → Option Parts
built_in None a isa tool max = None
built_in (Some code) a isa tool max = built code a isa tool max

-- the block that is built in the memory at the program counter
abbrev pub block_at : Scheme → State → Option Parts
block_at scheme s = built_in (code_at s.memory s.cpu.pc) s.cpu.pc s.cpu.isa scheme.tool scheme.max

-- ---- map calls

-- the executable segments of a program, where it stands at this base
abbrev pub codes_at : ℕ → List Segment → List Code
codes_at base [] = []
codes_at base (s ∷ ss) = if s.flags.execute then code_of (area_of base s) ∷ codes_at base ss else codes_at base ss

abbrev pub codes_of : Program → ℕ → List Code
codes_of program base = codes_at (base_of program base) program.segments

abbrev pub entry_at : ℕ → Option Parts → List (ℕ × Parts)
entry_at a None = []
entry_at a (Some f) = (a, f) ∷ []

-- the blocks of a unit with these addresses
abbrev pub unit_blocks : Scheme → Isa → Code → List ℕ → Blocks
unit_blocks scheme isa image addresses = fin.from_entries (flat_map (λ a. entry_at a (built image a isa scheme.tool scheme.max)) addresses)

-- the segments of module k, from number seg on, are attached one after the other, each with the next unit
abbrev pub all_attached : Scheme → Isa → ℕ → ℕ → List Code → List (List ℕ) → Ledger → Ledger
all_attached scheme isa k seg [] units led = led
all_attached scheme isa k seg (code ∷ codes) [] led = led
all_attached scheme isa k seg (code ∷ codes) (unit ∷ units) led =
    all_attached scheme isa k (seg + 1) codes units (attached (segment_of k seg) code (unit_blocks scheme isa code unit) led)

-- all of them, which are in file f
abbrev pub module_attached : Scheme → Isa → ℕ → ℕ → List Code → Trace → Trace
module_attached scheme isa k f codes t = record t {
  ledger = all_attached scheme isa k 0 codes t.units t.ledger;
  units = drop (length codes) t.units;
  requests = t.requests ++ unit_asks k f 0 codes t.ledger.counts.blocks;
}

abbrev pub if_placed : Scheme → Isa → ℕ → ℕ → List Code → Result Memory MemErr → Trace → Trace
if_placed scheme isa k f codes (Ok m) t = module_attached scheme isa k f codes t
if_placed scheme isa k f codes (Err e) t = t

-- module k, at this base, is to be mapped in memory m from this program, which is file f
abbrev pub program_mapped : Scheme → Isa → ℕ → ℕ → ℕ → Memory → Option Program → Trace → Trace
program_mapped scheme isa k base f m None t = t
program_mapped scheme isa k base f m (Some program) t = if_placed scheme isa k f (codes_of program base) (placed program base m) t

-- the next answer says from which file
abbrev pub file_mapped : Setting → Scheme → Isa → ℕ → ℕ → Memory → List ℕ → Trace → Trace
file_mapped w scheme isa k base m [] t = t
file_mapped w scheme isa k base m (f ∷ maps) t = program_mapped scheme isa k base f m (file_at w f) (record t { maps = maps })

-- a number that is no module's takes no answer
abbrev pub mapped : Setting → Scheme → Isa → ℕ → Option ℕ → Memory → Trace → Trace
mapped w scheme isa k None m t = t
mapped w scheme isa k (Some base) m t = file_mapped w scheme isa k base m t.maps t

-- module k, at this base, goes, which was mapped from this program
abbrev pub module_unmapped : ℕ → Option ℕ → Option Program → Ledger → Ledger
module_unmapped k None None led = led
module_unmapped k None (Some program) led = led
module_unmapped k (Some base) None led = led
module_unmapped k (Some base) (Some program) led = unmapped k (codes_of program base) led

-- these segments are offered their candidates, and are let go; their marks are of no more use
abbrev pub letting_go : List ℕ → Trace → Trace
letting_go is t = record t { requests = t.requests ++ partings is t.ledger }

abbrev pub range_of : Span → Range
range_of s = record { start = s.start; len = s.len }

-- what a call of the system comes to
abbrev pub after_call : Setting → Scheme → Reply → Trace → Trace
after_call w scheme (asked.Back (Some span), cpu, m, io) t = on_ledger (written (range_of span)) t
after_call w scheme (asked.Back None, cpu, m, io) t = t
after_call w scheme (asked.Map k, cpu, m, io) t = mapped w scheme cpu.isa k (base_at w k) m (asking (AsksFile k) t)
after_call w scheme (asked.Unmap k, cpu, m, io) t = on_ledger (module_unmapped k (base_at w k) (program_in w (find (is_module k) io.mapped))) (letting_go (segments_of k t.ledger) t)
after_call w scheme (asked.Replace k f, cpu, m, io) t = asking (MakesBe k f) t
after_call w scheme (asked.Exit status, cpu, m, io) t = t
after_call w scheme (asked.OutputFull, cpu, m, io) t = t

-- ---- one instruction

-- what the step of a word comes to
abbrev pub after_step : Setting → Scheme → State → Ins → Outcome → Trace → Trace
after_step w scheme s i (done.Touched span, cpu, m) t = on_ledger (λ led. written (range_of span) (left_by None led)) t
after_step w scheme s i (done.Asked, cpu, m) t = after_call w scheme (called s.cpu s.memory s.io) (on_ledger (left_by None) t)
after_step w scheme s i (done.Next, cpu, m) t = on_ledger (left_by (exit_by (exits_of s.cpu.pc i) done.Next)) t
after_step w scheme s i (done.Taken, cpu, m) t = on_ledger (left_by (exit_by (exits_of s.cpu.pc i) done.Taken)) t
after_step w scheme s i (done.Fault kind, cpu, m) t = on_ledger (left_by None) t

abbrev pub after_word : Setting → Scheme → State → Result ℕ Access → Trace → Trace
after_word w scheme s (Ok word) t = after_step w scheme s (instruction s.cpu.isa word) (step word s.cpu s.memory) t
after_word w scheme s (Err e) t = t

-- the state's instruction is done, which begins a block or not
abbrev pub after : Setting → Scheme → State × Bool → Trace → Trace
after w scheme (s, begins) t = after_word w scheme s (fetched s.memory s.cpu.pc) (if begins then beginning scheme (block_at scheme s) t else t)

abbrev pub traced : Setting → Scheme → List (State × Bool) → Trace → Trace
traced w scheme [] t = t
traced w scheme (x ∷ xs) t = traced w scheme xs (after w scheme x t)

-- ---- the whole run of a guest

-- nothing has happened, and these answers are to come
abbrev pub first_trace : List ℕ → List (List ℕ) → Trace
first_trace maps units = record { ledger = new_ledger; maps = maps; units = units; requests = [] }

-- a guest that has a first state has its program's segments attached
abbrev pub if_started : Scheme → Isa → ℕ → ℕ → List Code → Option State → Trace → Trace
if_started scheme isa k f codes None t = t
if_started scheme isa k f codes (Some s) t = module_attached scheme isa k f codes t

abbrev pub started_at : Scheme → Guest → ℕ → Option ℕ → Option Program → Trace → Trace
started_at scheme g f None None t = t
started_at scheme g f None (Some program) t = t
started_at scheme g f (Some base) None t = t
started_at scheme g f (Some base) (Some program) t = if_started scheme g.isa g.program f (codes_of program base) (start g f base program) t

-- before its first block; the first map answer is the file of its program, which it asks for
abbrev pub started : Setting → Scheme → Guest → List ℕ → List (List ℕ) → Trace
started w scheme g [] units = asking (AsksFile g.program) (first_trace [] units)
started w scheme g (f ∷ maps) units = started_at scheme g f (base_at w g.program) (file_at w f) (asking (AsksFile g.program) (first_trace maps units))

-- The plain run of a guest with these map answers, and with units of these addresses.
abbrev pub run_trace : Setting → Scheme → Guest → List ℕ → List (List ℕ) → Trace
run_trace w scheme g maps units = traced w scheme (cut scheme.max 0 None (plain w g maps).states) (started w scheme g maps units)

-- at the end the guest lets all its segments go
abbrev pub closed : Trace → Trace
closed t = letting_go (fin.keys t.ledger.segments) t
