-- What holds of a guest between two instructions.
use Rattle.std.specs.Prelude.{◌≡◌, ℕ, ◌+◌, ◌%◌, ◌^◌, ◌<◌, List, length}
use Rattle.probe_tools.specs.declared.tool.Tool.{Tool}
use Rattle.probe_tools.specs.Rows.{count_at}
use Rattle.plain_machine.specs.Program.{Program}
use Rattle.plain_machine.specs.Machine.{State}
use Rattle.engine.specs.Standing.{state}
use Rattle.plain_run.specs.declared.process.Process.{Process}
use Rattle.plain_run.specs.Known.{AreKnown}

-- the plain machine's state
abbrev pub state_of : Process → State
state_of p = state p.cpu p.mem p.io

pub record IsReady (files : List Program) (base : ℕ) (seen : Tool) (p : Process) : Type 0 where
  pub known : AreKnown files base p.io.mapped
  pub file : p.file < length files
  pub aligned : p.cpu.pc % 4 ≡ 0
  pub tool : p.report.tool ≡ seen
  pub small : (key : ℕ) → count_at p.report.counts key + p.left < 2 ^ 64
