-- A process before its first block.
use Rattle.std.proofs.Common.{◌≡◌, ℕ, ◌+◌, ◌<◌, ◌%◌, ◌^◌, Some, None, refl, sym, ◌∙◌, ap, subst, arith}
use Rattle.std.specs.Prelude.{unwrap_or}
use Rattle.std.specs.Option.{option_or}
use Rattle.std.specs.Ordering.{nat_cmp}
use Rattle.std.specs.FinMap as fin
use Rattle.probe_tools.specs.Rows.{count_at}
use Rattle.plain_machine.specs.declared.cpu.Cpu.{Cpu}
use Rattle.plain_machine.specs.Memory.{Memory}
use Rattle.plain_machine.specs.Io.{Io}
use Rattle.fragment.specs.Parts.{Parts}
use Rattle.report.specs.Rows.{Rows}
use Rattle.block_ledger.specs.Ledger.{Ledger, Segment, new_ledger, view}
use Rattle.block_ledger.specs.Traced.{Scheme}
use Rattle.block_ledger.proofs.Gets.{got-empty}
use Rattle.region_laws.specs.Heap.{HeapIsData}
use Rattle.guest_proc.specs.Kept.{IsReady}
use Rattle.guest_proc.specs.declared.running.Setup.{Setup}
use Rattle.guest_proc.specs.Process.{Process, process}
use Rattle.guest_proc.specs.Started.{first_process}

nothing-live : (a : ℕ) → view new_ledger a ≡ None
nothing-live a = ap (λ o. option_or o (fin.get new_ledger.private a)) (got-empty {X = Parts} a) ∙ got-empty {X = Parts} a

small_start : (rows : Rows) (fuel key : ℕ) → rows.counts ≡ fin.empty → fuel < 2 ^ 63 → count_at rows.counts key + fuel < 2 ^ 64
small_start rows fuel key empty less =
    let none : count_at rows.counts key ≡ 0 = ap (λ m. unwrap_or (fin.get m key) 0) empty ∙ ap (λ o. unwrap_or o 0) (got-empty {X = ℕ} key) in
    omega arith

pub starts_ready : (scheme : Scheme) (cpu : Cpu) (m : Memory) (io : Io) (fuel : ℕ) (rows : Rows) (led : Ledger) → led ≡ new_ledger → cpu.pc % 4 ≡ 0 → HeapIsData io.heap m → rows.counts ≡ fin.empty → fuel < 2 ^ 63 →
    IsReady scheme (process cpu m io fuel rows led)
starts_ready scheme cpu m io fuel rows led new even inert empty less = record {
  aligned = even;
  fresh = λ a block is. let none : view led a ≡ None = ap (λ l. view l a) new ∙ nothing-live a in let impossible = sym none ∙ is in absurd (cc);
  mapped = λ i seg is. let none : fin.get led.segments i ≡ None = ap (λ l. fin.get l.segments i) new ∙ got-empty {X = Segment} i in let impossible = sym none ∙ is in absurd (cc);
  units = record {
    have = λ i seg a is has. let none : fin.get led.segments i ≡ None = ap (λ l. fin.get l.segments i) new ∙ got-empty {X = Segment} i in let impossible = sym none ∙ is in absurd (cc);
    stand = λ i seg a block is has there. let none : fin.get led.segments i ≡ None = ap (λ l. fin.get l.segments i) new ∙ got-empty {X = Segment} i in let impossible = sym none ∙ is in absurd (cc);
  };
  inert = inert;
  small = λ key. small_start rows fuel key empty less;
  few = let none : led.counts.blocks ≡ 0 = ap (λ l. l.counts.blocks) new in omega arith;
}

-- the first of all
pub first-ready : (scheme : Scheme) (setup : Setup) (p : Process) → p ≡ first_process setup → IsReady scheme p
first-ready scheme setup p is =
    let f : Process = first_process setup in
    let few : setup.fuel < 2 ^ 63 = omega (arith, setup.fuel_fits) in
    subst (IsReady scheme) (sym is) (starts_ready scheme f.state.cpu f.state.memory f.state.io f.fuel f.report f.ledger refl refl refl refl few)
