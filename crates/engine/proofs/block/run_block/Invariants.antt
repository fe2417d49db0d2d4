use Rattle.std.proofs.Common.{◌≡◌, ◌%◌, ◌<◌, ◌≤◌, ◌+◌, ◌^◌, ℕ, length}
use Rattle.probe_tools.specs.Rows.{count_at}
use Rattle.plain_machine.specs.Io.{Io}
use Rattle.plain_machine.specs.Events.{events}
use Rattle.fragment.specs.Probing.{probes_before}
use Rattle.engine.specs.Words.{marks_before}
use Rattle.engine.specs.Seeing.{with_events}
use Rattle.engine.specs.Standing.{SameRegions, StandsIn, state}
use Rattle.engine.proofs.Reach.{Reaches}
use Rattle.engine.proofs.block.run_block.Given as goal

abbrev pub invariant-block : goal.invariant-block
invariant-block l = record {
  spent : l.rest + l.place ≡ l.fn.fuel;
  same_words : l.words ≡ l.f.words;
  same_probes : l.probes ≡ l.f.probes;
  tool : l.report.tool ≡ l.fn.report.tool;
  aligned : l.cpu.pc % 4 ≡ 0;
  isa : l.cpu.isa ≡ l.fn.cpu.isa;
  regions : SameRegions l.fn.mem l.mem;
  small : (key : ℕ) → count_at l.report.counts key + l.rest < 2 ^ 64;
  stands : StandsIn l.fn.mem l.fn.cpu.isa l.fn.report.tool (length l.f.words) l.f;
  few : l.next ≤ l.place;
  next : l.next ≡ length (probes_before l.fn.report.tool l.fn.cpu.isa l.f.words l.place);
  counted : (io : Io) → l.report ≡ with_events (events l.fn.report.tool (marks_before l.f.words (state l.fn.cpu l.fn.mem io) l.place)) l.fn.report;
  reaches : (max : ℕ) (io : Io) → 0 < max → (stands : StandsIn l.fn.mem l.fn.cpu.isa l.fn.report.tool max l.f) →
      Reaches l.fn.cpu.isa max stands.region l.f l.fn.fuel (state l.fn.cpu l.fn.mem io) l.place l.rest (state l.cpu l.mem io);
}
