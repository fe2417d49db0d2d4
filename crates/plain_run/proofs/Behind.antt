-- How a run goes on behind a call, by what the call came to.
use Rattle.std.proofs.Common.{◌≡◌, ℕ, ◌%◌, List, [], ◌∷◌, ◌++◌, Some, Result, Ok, Err, true, false, refl, sym, ◌∙◌, ap, subst, arith}
use Rattle.std.specs.Prelude.{slice_get, find}
use Rattle.std.specs.Option.{option_to_list}
use Rattle.std.proofs.lemmas.List.{append-nil}
use Rattle.plain_machine.specs.declared.access.MemErr.{MemErr}
use Rattle.plain_machine.specs.declared.cpu.Cpu.{Cpu}
use Rattle.plain_machine.specs.declared.ends.End.TheVariants as ends
use Rattle.plain_machine.specs.declared.ends.Kind.TheVariants as kinds
use Rattle.plain_machine.specs.declared.io.Asked.{Asked}
use Rattle.plain_machine.specs.declared.io.Asked.TheVariants as asked
use Rattle.plain_machine.specs.Memory.{Memory, without_first}
use Rattle.plain_machine.specs.Step.{next}
use Rattle.plain_machine.specs.Io.{Io}
use Rattle.plain_machine.specs.Calls.{Reply, called, is_mapped, is_module, minus}
use Rattle.plain_machine.specs.Registers.{with_register}
use Rattle.plain_machine.specs.Program.{Program, placed, unplaced}
use Rattle.plain_machine.specs.Machine.{State, Setting, Action, Replaces, call, replied, after_unmap, after_replace, after_placing, with_result, map_file, unmap_from, unmap_module, program_in, To, transition_by}
use Rattle.plain_machine.specs.Own.{taken_by, files_after}
use Rattle.engine.specs.Standing.{state}
use Rattle.plain_run.specs.Plain.{one_module}
use Rattle.plain_run.specs.Answer.{EndsRun, GoesOn, Maps, IsRefused, Placing}
use Rattle.plain_run.proofs.Called.{Leaves, called-leaves}
use Rattle.plain_run.proofs.Knowing.{Found}

-- the call of now came to this reply
abbrev pub Came : State → Reply → Type 0
Came now r = r ≡ called now.cpu now.memory now.io

came : (now : State) (r : Reply) → Came now r → call now ≡ replied now r
came now r is = ap (replied now) (sym is)

leaves : (now : State) (r : Reply) → Came now r → Leaves now.cpu now.io r
leaves now r is = subst (Leaves now.cpu now.io) (sym is) (called-leaves now.cpu now.memory now.io)

pub ends-exit : (now : State) (a : Asked) (status : ℕ) (c : Cpu) (m : Memory) (io : Io) (maps : List ℕ) → a ≡ asked.Exit status → Came now (a, c, m, io) →
    EndsRun now (state c m io) maps maps (ends.Exit status)
ends-exit now a status c m io maps how is =
    let is' : Came now (asked.Exit status, c, m, io) = rw how at is in
    record { same = refl; output = ap (λ (x : Io). x.output) (leaves now (asked.Exit status, c, m, io) is'); stops = came now (asked.Exit status, c, m, io) is' }

pub ends-full : (now : State) (a : Asked) (c : Cpu) (m : Memory) (io : Io) (maps : List ℕ) → a ≡ asked.OutputFull → Came now (a, c, m, io) →
    EndsRun now (state c m io) maps maps (ends.Fault kinds.Output now.cpu.pc)
ends-full now a c m io maps how is =
    let is' : Came now (asked.OutputFull, c, m, io) = rw how at is in
    record { same = refl; output = ap (λ (x : Io). x.output) (leaves now (asked.OutputFull, c, m, io) is'); stops = came now (asked.OutputFull, c, m, io) is' }

-- the call of now came to this
pub goes-by : (w : Setting) (now next : State) (a : Action) (files later before after : List ℕ) → call now ≡ a → after ≡ before ++ taken_by files a → later ≡ files_after w files a →
    ((answers : List ℕ) → transition_by w (taken_by files a ++ answers) now a ≡ To next answers) → GoesOn w now next files later before after
goes-by w now next a files later before after is took become goes = record {
  took = subst (λ x. after ≡ before ++ taken_by files x) (sym is) took;
  become = subst (λ x. later ≡ files_after w files x) (sym is) become;
  goes = λ answers. subst (λ x. transition_by w (taken_by files x ++ answers) now x ≡ To next answers) (sym is) (goes answers);
}

pub goes-replace : (w : Setting) (now next : State) (a : Asked) (k f : ℕ) (c : Cpu) (m : Memory) (io : Io) (files later maps : List ℕ) → a ≡ asked.Replace k f → Came now (a, c, m, io) →
    next ≡ after_replace w (state c m io) k f → later ≡ files_after w files (Replaces k f (state c m io)) → GoesOn w now next files later maps maps
goes-replace w now next a k f c m io files later maps how is to become =
    let is' : Came now (asked.Replace k f, c, m, io) = rw how at is in
    goes-by w now next (Replaces k f (state c m io)) files later maps maps (came now (asked.Replace k f, c, m, io) is') (sym (append-nil maps)) become
    (λ answers. ap (λ s. To s answers) (sym to))

-- ---- the modules that are mapped

pub mapped-kept : (now : State) (a : Asked) (c : Cpu) (m : Memory) (io : Io) → Came now (a, c, m, io) → io.mapped ≡ now.io.mapped
mapped-kept now (asked.Back span) c m io is = (leaves now (asked.Back span, c, m, io) is).1
mapped-kept now (asked.Exit status) c m io is = ap (λ (x : Io). x.mapped) (leaves now (asked.Exit status, c, m, io) is)
mapped-kept now (asked.Map k) c m io is = (leaves now (asked.Map k, c, m, io) is).1
mapped-kept now (asked.Unmap k) c m io is = (leaves now (asked.Unmap k, c, m, io) is).1
mapped-kept now (asked.Replace k f) c m io is = (leaves now (asked.Replace k f, c, m, io) is).1
mapped-kept now asked.OutputFull c m io is = ap (λ (x : Io). x.mapped) (leaves now (asked.OutputFull, c, m, io) is)

pub unmaps-mapped : (now : State) (a : Asked) (k : ℕ) (c : Cpu) (m : Memory) (io : Io) → a ≡ asked.Unmap k → Came now (a, c, m, io) → is_mapped io k ≡ true
unmaps-mapped now a k c m io how is =
    let is' : Came now (asked.Unmap k, c, m, io) = rw how at is in
    (leaves now (asked.Unmap k, c, m, io) is').2

-- ---- the program counter

next_aligned : (cpu : Cpu) → cpu.pc % 4 ≡ 0 → next cpu % 4 ≡ 0
next_aligned cpu h = omega (arith, h)

-- a call that does not end the guest goes on behind itself
abbrev pub GoesBehind : Asked → Type 0
GoesBehind (asked.Back span) = Unit {0}
GoesBehind (asked.Exit status) = ⊥
GoesBehind (asked.Map k) = Unit {0}
GoesBehind (asked.Unmap k) = Unit {0}
GoesBehind (asked.Replace k f) = Unit {0}
GoesBehind asked.OutputFull = ⊥

stands-behind : (cpu c : Cpu) (io after : Io) (m : Memory) (a : Asked) → GoesBehind a → Leaves cpu io (a, c, m, after) → c.pc ≡ next cpu
stands-behind cpu c io after m (asked.Back span) g h = h.0
stands-behind cpu c io after m (asked.Exit status) g h = absurd g
stands-behind cpu c io after m (asked.Map k) g h = h.0
stands-behind cpu c io after m (asked.Unmap k) g h = h.0
stands-behind cpu c io after m (asked.Replace k f) g h = h.0
stands-behind cpu c io after m asked.OutputFull g h = absurd g

pub aligned-behind : (now : State) (a : Asked) (c : Cpu) (m : Memory) (io : Io) → now.cpu.pc % 4 ≡ 0 → GoesBehind a → Came now (a, c, m, io) → c.pc % 4 ≡ 0
aligned-behind now a c m io h g is =
    let e : c.pc ≡ next now.cpu = stands-behind now.cpu c now.io io m a g (leaves now (a, c, m, io) is) in
    rw e (next_aligned now.cpu h)

-- ---- the module is mapped, and unmapped

-- a program that is not placed
refused : (s : State) (k f : ℕ) (made : Result Memory MemErr) → IsRefused made → after_placing s k f made ≡ with_result s (minus 12)
refused s k f (Ok m) no_way = absurd no_way
refused s k f (Err e) is = refl

pub maps-refused : (files : List Program) (base k f : ℕ) (now next : State) (program : Program) (m : Memory) (before : List ℕ) → k ≡ 0 → slice_get files f ≡ Some program →
    Placing now.memory (placed program base now.memory) m false → next ≡ with_result (record now { memory = m }) (minus 12) →
    Maps (one_module files base) k now next (option_to_list (slice_get (f ∷ []) k)) before (before ++ f ∷ [])
maps-refused files base k f now next program m before zero there not_placed to =
    let same : record now { memory = m } ≡ now = ap (λ x. record now { memory = x }) not_placed.1 in
    let told : Maps (one_module files base) 0 now next (f ∷ []) before (before ++ f ∷ []) = record {
      took = refl;
      maps = λ answers.
          ap (map_file now 0 base f answers) there
          ∙ ap (λ s. To s answers) (refused now 0 f (placed program base now.memory) not_placed.0 ∙ sym (to ∙ ap (λ s. with_result s (minus 12)) same));
    } in
    subst (λ x. Maps (one_module files base) x now next (option_to_list (slice_get (f ∷ []) x)) before (before ++ f ∷ [])) (sym zero) told

pub goes-unmap : (files : List Program) (base k : ℕ) (s next : State) (program : Program) → (found : Found files base k s.io.mapped) → found.known.program ≡ program →
    next ≡ after_unmap s k base program → (answers : List ℕ) → unmap_module (one_module files base) s k answers ≡ To next answers
goes-unmap files base k s next program found same to answers =
    let w = one_module files base in
    ap (λ o. unmap_from s k answers o (program_in w (find (is_module k) s.io.mapped))) (ap (slice_get (base ∷ [])) found.zero)
    ∙ ap (λ o. unmap_from s k answers (Some base) (program_in w o)) found.is
    ∙ ap (unmap_from s k answers (Some base)) found.known.there
    ∙ ap (λ p. To (after_unmap s k base p) answers) same
    ∙ ap (λ x. To x answers) (sym to)

-- the state behind a call that unmaps, by its parts
pub unmapped-so : (cpu c : Cpu) (m after : Memory) (io now : Io) (k base : ℕ) (program : Program) → c ≡ record cpu { regs = with_register cpu.regs 10 0 } → after ≡ unplaced program base m →
    now ≡ record io { mapped = without_first (is_module k) io.mapped } → state c after now ≡ after_unmap (state cpu m io) k base program
unmapped-so cpu c m after io now k base program e f g = rw (e, f, g) refl
