-- A run that may begin.
use Rattle.std.specs.Prelude.{◌≡◌, ◌≤◌, length}
use Rattle.whole_run.specs.Job.{slots_in_job}
use Rattle.host.specs.declared.prepare.Prepared.{Prepared}
use Rattle.host.specs.Answer.{job_in}
use Rattle.host.specs.Outcome.{Plan}
use Rattle.host.specs.Words.{meant}

-- what is to be run
abbrev pub plan_in : Prepared → Plan
plan_in p = record { order = meant p.order; listing = p.manifest; programs = p.elfs.items; inputs = p.inputs.items }

-- It has a program for each file and an input for each guest, and its slots are those of its plan.
pub record IsReady (p : Prepared) : Type 0 where
  pub elfs : length p.elfs.items ≡ length p.manifest.files
  pub inputs : length p.inputs.items ≡ length p.manifest.guests
  pub slots : p.slots.items ≡ slots_in_job (job_in (plan_in p))
  pub few : length p.slots.items ≤ 64
