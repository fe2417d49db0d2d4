-- A run behind a system call.
use Rattle.std.proofs.Common.{◌≡◌, ℕ, ◌%◌, ◌<◌, List, [], ◌++◌, Option, Some, None, refl, sym, ◌∙◌, ap, subst}
use Rattle.rv_decode.specs.declared.ins.Isa.{Isa}
use Rattle.probe_tools.specs.declared.tool.Tool.{Tool}
use Rattle.plain_machine.specs.declared.cpu.Cpu.{Cpu}
use Rattle.plain_machine.specs.declared.ends.End.TheVariants as ends
use Rattle.plain_machine.specs.declared.ends.Kind.TheVariants as kinds
use Rattle.plain_machine.specs.declared.io.Asked.{Asked}
use Rattle.plain_machine.specs.declared.io.Asked.TheVariants as asked
use Rattle.plain_machine.specs.Memory.{Memory, IsMemory}
use Rattle.plain_machine.specs.Io.{Io}
use Rattle.plain_machine.specs.Calls.{Reply, called}
use Rattle.plain_machine.specs.Machine.{State, Setting, Transition, To, Final, Stuck, Maps, Unmaps, Replaces, Action, replied, transition_by}
use Rattle.plain_machine.specs.Run.{run_behind}
use Rattle.plain_machine.specs.Cut.{Marked, marked, with_marks, over}
use Rattle.report.specs.Rows.{Rows}
use Rattle.engine.specs.Standing.{state}
use Rattle.block_ledger.specs.Ledger.{Ledger, is_clear, view, written}
use Rattle.block_ledger.specs.Requests.{Asking}
use Rattle.block_ledger.specs.Traced.{Scheme, Trace, after_call, range_of}
use Rattle.region_laws.specs.Heap.{HeapIsData}
use Rattle.region_laws.specs.Calls.{CallLeaves, Leaves, CodeBehind, AsksWell, OutputBehind}
use Rattle.region_laws.proofs.Replies.{calls-leave}
use Rattle.guest_proc.specs.declared.stop.Stop.{Stop}
use Rattle.guest_proc.specs.Fresh.{AreFresh, AreMapped, SharesNoMore}
use Rattle.guest_proc.specs.Kept.{StopsWell}
use Rattle.guest_proc.specs.Called.{CallDone, stop_for, told}
use Rattle.guest_proc.specs.Process.{Asks, CallEnds, Process, Went, answered, nothing, onward, process, trace}
use Rattle.guest_proc.proofs.Kept.{fresh-same, fresh-stored, mapped-same, mapped-stored, shares-only}

-- what a process keeps, whatever the call came to
fresh_by : (a : Asked) (tool : Tool) (max : ℕ) (isa now : Isa) (m after : Memory) (led : Ledger) → 0 < max → now ≡ isa → CodeBehind a m after → AreFresh tool max isa m led → AreFresh tool max now after (told a led)
fresh_by a tool max isa now m after led some same code fresh = subst (λ i. AreFresh tool max i after (told a led)) (sym same) (by_code a code)
  where
    by_code : (x : Asked) → CodeBehind x m after → AreFresh tool max isa after (told x led)
    by_code (asked.Back None) code = fresh-same tool max isa m after led code fresh
    by_code (asked.Back (Some span)) code = fresh-stored tool max isa m after span led some code fresh
    by_code (asked.Exit status) code = fresh-same tool max isa m after led code fresh
    by_code (asked.Map k) code = fresh-same tool max isa m after led code fresh
    by_code (asked.Unmap k) code = fresh-same tool max isa m after led code fresh
    by_code (asked.Replace k f) code = fresh-same tool max isa m after led code fresh
    by_code asked.OutputFull code = fresh-same tool max isa m after led code fresh

mapped_by : (a : Asked) (m after : Memory) (led : Ledger) → CodeBehind a m after → AreMapped m led → AreMapped after (told a led)
mapped_by (asked.Back None) m after led code mapped = mapped-same m after led code mapped
mapped_by (asked.Back (Some span)) m after led code mapped = mapped-stored m after span led code mapped
mapped_by (asked.Exit status) m after led code mapped = mapped-same m after led code mapped
mapped_by (asked.Map k) m after led code mapped = mapped-same m after led code mapped
mapped_by (asked.Unmap k) m after led code mapped = mapped-same m after led code mapped
mapped_by (asked.Replace k f) m after led code mapped = mapped-same m after led code mapped
mapped_by asked.OutputFull m after led code mapped = mapped-same m after led code mapped

segments_told : (a : Asked) (led : Ledger) → (told a led).segments ≡ led.segments
segments_told (asked.Back None) led = refl
segments_told (asked.Back (Some span)) led = refl
segments_told (asked.Exit status) led = refl
segments_told (asked.Map k) led = refl
segments_told (asked.Unmap k) led = refl
segments_told (asked.Replace k f) led = refl
segments_told asked.OutputFull led = refl

shares_told : (a : Asked) (led : Ledger) → SharesNoMore led (told a led)
shares_told (asked.Back None) led = λ x block is. is
shares_told (asked.Back (Some span)) led = shares-only (λ x. is_clear (range_of span) (view led x)) led
shares_told (asked.Exit status) led = λ x block is. is
shares_told (asked.Map k) led = λ x block is. is
shares_told (asked.Unmap k) led = λ x block is. is
shares_told (asked.Replace k f) led = λ x block is. is
shares_told asked.OutputFull led = λ x block is. is

counts_told : (a : Asked) (led : Ledger) → (told a led).counts ≡ led.counts
counts_told (asked.Back None) led = refl
counts_told (asked.Back (Some span)) led = refl
counts_told (asked.Exit status) led = refl
counts_told (asked.Map k) led = refl
counts_told (asked.Unmap k) led = refl
counts_told (asked.Replace k f) led = refl
counts_told asked.OutputFull led = refl

asks_well : (pc : ℕ) (a : Asked) (io : Io) → AsksWell a io → StopsWell (stop_for pc a) io
asks_well pc (asked.Back span) io well = tt
asks_well pc (asked.Exit status) io well = tt
asks_well pc (asked.Map k) io well = well
asks_well pc (asked.Unmap k) io well = well
asks_well pc (asked.Replace k f) io well = tt
asks_well pc asked.OutputFull io well = tt

-- ---- what is told behind the call

-- where a transition asks for something that is not there, the output told is that of the state that asks
behind_same : (w : Setting) (fuel : ℕ) (s now : State) (t : Transition) → now.io.output ≡ s.io.output → run_behind w fuel s t ≡ run_behind w fuel now t
behind_same w fuel s now (To next left) same = refl
behind_same w fuel s now (Final end left) same = ap (λ out. record { states = []; end = Some end; output = out; left = left }) (sym same)
behind_same w fuel s now Stuck same = ap (λ out. record { states = []; end = None; output = out; left = [] }) (sym same)

module _ (scheme : Scheme) (p : Process) (cpu c : Cpu) (m after : Memory) (io now : Io) (fuel : ℕ) (rows : Rows) (led : Ledger) where
  abbrev old : Process
  old = process cpu m io fuel rows led

  abbrev new : Ledger → Process
  new l = process c after now fuel rows l

  abbrev behind : Reply → Setting → List ℕ → Marked
  behind r w answers = marked scheme.max (run_behind w fuel (state cpu m io) (transition_by w answers (state cpu m io) (replied (state cpu m io) r)))

  -- the call came to this reply
  came : (r : Reply) → r ≡ called cpu m io → Asks scheme p old → Went scheme [] p old (λ w. after_call w scheme r) (behind r)
  came r is went = subst (λ x. Went scheme [] p old (λ w. after_call w scheme x) (behind x)) (sym is) went

  -- what is told, and the ledger's change, in other words
  other_words : (change next : Setting → Trace → Trace) (tale tell : Setting → List ℕ → Marked) (l : Ledger) → Went scheme [] p old change tale →
      ((w : Setting) (answers : List ℕ) → tale w answers ≡ tell w answers) → ((w : Setting) (maps : List ℕ) (units : List (List ℕ)) (requests : List Asking) → change w (trace led maps units requests) ≡ next w (trace l maps units requests)) →
      Went scheme [] p (new l) next tell
  other_words change next tale tell l went same does = record {
    marks = went.marks;
    seen = λ w answers. went.seen w answers ∙ ap (with_marks went.marks) (same w answers);
    counted = went.counted;
    ledger = λ w maps units requests. went.ledger w maps units requests ∙ does w maps units (requests ++ []);
  }

  asks_on : (a : Asked) (action : Action) → (w : Setting) (answers : List ℕ) → now.output ≡ io.output →
      ((x y : State) → transition_by w answers x action ≡ transition_by w answers y action) →
      marked scheme.max (run_behind w fuel (state cpu m io) (transition_by w answers (state cpu m io) action)) ≡ answered scheme.max (new led) action w answers
  asks_on a action w answers same each =
      ap (marked scheme.max) (behind_same w fuel (state cpu m io) (state c after now) (transition_by w answers (state cpu m io) action) same
      ∙ ap (run_behind w fuel (state c after now)) (each (state cpu m io) (state c after now)))

  ends_so : (a : Asked) → ◌≡◌ {A = Reply} (a, c, after, now) (called cpu m io) → OutputBehind a io now → Asks scheme p old → CallEnds scheme p (new (told a led)) (stop_for cpu.pc a)
  ends_so (asked.Back None) is out went = other_words _ nothing _ (onward scheme.max (new led)) led (came (asked.Back None, c, after, now) is went) (λ w answers. refl) (λ w maps units requests. refl)
  ends_so (asked.Back (Some span)) is out went =
      other_words _ nothing _ (onward scheme.max (new (written (range_of span) led))) (written (range_of span) led) (came (asked.Back (Some span), c, after, now) is went) (λ w answers. refl) (λ w maps units requests. refl)
  ends_so (asked.Exit status) is out went =
      other_words _ nothing _ (λ w answers. over (ends.Exit status) now.output answers) led (came (asked.Exit status, c, after, now) is went) (λ w answers. ap (λ x. over (ends.Exit status) x answers) (sym out)) (λ w maps units requests. refl)
  ends_so asked.OutputFull is out went =
      other_words _ nothing _ (λ w answers. over (ends.Fault kinds.Output cpu.pc) now.output answers) led (came (asked.OutputFull, c, after, now) is went) (λ w answers. ap (λ x. over (ends.Fault kinds.Output cpu.pc) x answers) (sym out)) (λ w maps units requests. refl)
  ends_so (asked.Map k) is out went =
      other_words _ (λ w. after_call w scheme (asked.Map k, c, after, now)) _ (answered scheme.max (new led) (Maps k (state c after now))) led (came (asked.Map k, c, after, now) is went)
      (λ w answers. asks_on (asked.Map k) (Maps k (state c after now)) w answers out (λ x y. refl)) (λ w maps units requests. refl)
  ends_so (asked.Unmap k) is out went =
      other_words _ (λ w. after_call w scheme (asked.Unmap k, c, after, now)) _ (answered scheme.max (new led) (Unmaps k (state c after now))) led (came (asked.Unmap k, c, after, now) is went)
      (λ w answers. asks_on (asked.Unmap k) (Unmaps k (state c after now)) w answers out (λ x y. refl)) (λ w maps units requests. refl)
  ends_so (asked.Replace k f) is out went =
      other_words _ (λ w. after_call w scheme (asked.Replace k f, c, after, now)) _ (answered scheme.max (new led) (Replaces k f (state c after now))) led (came (asked.Replace k f, c, after, now) is went)
      (λ w answers. asks_on (asked.Replace k f) (Replaces k f (state c after now)) w answers out (λ x y. refl)) (λ w maps units requests. refl)

pub call-done : (cpu c : Cpu) (m after : Memory) (io now : Io) (fuel : ℕ) (rows : Rows) (led last : Ledger) (a : Asked) (s : Option Stop) → IsMemory m → HeapIsData io.heap m → cpu.pc % 4 ≡ 0 →
    ◌≡◌ {A = Reply} (a, c, after, now) (called cpu m io) → last ≡ told a led → s ≡ stop_for cpu.pc a → CallDone (process cpu m io fuel rows led) (process c after now fuel rows last) s
call-done cpu c m after io now fuel rows led last a s good inert even is told_so stop_so =
    let kept : CallLeaves cpu m io a c after now = subst (Leaves cpu m io) (sym is) (calls-leave cpu m io good inert even) in
    let done : CallDone (process cpu m io fuel rows led) (process c after now fuel rows (told a led)) (stop_for cpu.pc a) = record {
      ends = λ scheme p asks. ends_so scheme p cpu c m after io now fuel rows led a is kept.output asks;
      fresh = λ tool max some fresh. fresh_by a tool max cpu.isa c.isa m after led some kept.isa kept.code fresh;
      mapped = λ mapped. mapped_by a m after led kept.code mapped;
      shares = shares_told a led;
      inert = kept.inert;
      aligned = kept.aligned;
      segments = segments_told a led;
      counts = counts_told a led;
      modules = kept.mapped;
      isa = kept.isa;
      stand = kept.stand;
      asks = asks_well cpu.pc a now kept.asks;
    } in
    subst (λ l. CallDone (process cpu m io fuel rows led) (process c after now fuel rows l) s) (sym told_so)
    (subst (λ x. CallDone (process cpu m io fuel rows led) (process c after now fuel rows (told a led)) x) (sym stop_so) done)
