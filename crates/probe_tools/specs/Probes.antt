-- Where a tool has a probe.
use Rattle.std.specs.Prelude.{ℕ, ◌==◌, Bool, Option, Some, None, if◌then◌else◌}
use Rattle.probe_tools.specs.declared.tool.Tool.{Tool}
use Rattle.probe_tools.specs.declared.tool.Tool.TheVariants as tools
use Rattle.probe_tools.specs.declared.probe.Class.{Class}
use Rattle.probe_tools.specs.declared.probe.Class.TheVariants as classes
use Rattle.probe_tools.specs.declared.probe.ProbeKind.{ProbeKind}
use Rattle.probe_tools.specs.declared.probe.ProbeKind.TheVariants as kinds

-- The probe before a word of a block, by the tool, the word's class, its place, and whether it is the last:
--   blocks  any         place 0    a Block probe
--   calls   Call        last       a Call probe
--   memory  Load        any place  a Load probe
--   memory  Store       any place  a Store probe
-- and none elsewhere.
abbrev pub probe_of : Tool → Class → ℕ → Bool → Option ProbeKind
probe_of tools.Blocks class place last = if place == 0 then Some kinds.Block else None
probe_of tools.Calls classes.Call place last = if last then Some kinds.Call else None
probe_of tools.Calls class place last = None
probe_of tools.Memory classes.Load place last = Some kinds.Load
probe_of tools.Memory classes.Store place last = Some kinds.Store
probe_of tools.Memory class place last = None
