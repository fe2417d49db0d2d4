-- A guest that runs, as contracts see it, and how far it comes with a block, and with many.
use Rattle.std.specs.Prelude.{◌≡◌, ℕ, ◌+◌, ◌<◌, ◌≤◌, ◌==◌, ◌⊎◌, Bool, false, if◌then◌else◌, List, [], ◌∷◌, ◌++◌, Option, Some, None, Result, Ok, Err}
use Rattle.plain_machine.specs.declared.access.Access.{Access}
use Rattle.plain_machine.specs.declared.cpu.Cpu.{Cpu}
use Rattle.plain_machine.specs.declared.ends.End.TheVariants as ends
use Rattle.plain_machine.specs.declared.ends.Kind.TheVariants as kinds
use Rattle.plain_machine.specs.declared.io.Asked.{Asked}
use Rattle.plain_machine.specs.declared.io.Asked.TheVariants as asked
use Rattle.plain_machine.specs.Memory.{Memory, fetched}
use Rattle.plain_machine.specs.Io.{Io}
use Rattle.plain_machine.specs.Calls.{called}
use Rattle.plain_machine.specs.Machine.{State, Setting, Action, Maps, Unmaps, Replaces, call, transition_by}
use Rattle.plain_machine.specs.Run.{run, run_behind}
use Rattle.plain_machine.specs.Cut.{Marked, marked, with_marks, over}
use Rattle.plain_machine.specs.Events.{events}
use Rattle.fragment.specs.Parts.{Parts}
use Rattle.report.specs.Rows.{Rows}
use Rattle.engine.specs.declared.block.Left.TheVariants as left
use Rattle.engine.specs.Seeing.{WantsRow, with_events}
use Rattle.engine.specs.Standing.{state}
use Rattle.engine.specs.Words.{DoesWords}
use Rattle.block_ledger.specs.Ledger.{Ledger, is_live, view, wants_room}
use Rattle.block_ledger.specs.Requests.{Asking}
use Rattle.block_ledger.specs.Traced.{Scheme, Trace, traced, after_call}
use Rattle.guest_proc.specs.declared.stop.Ran.{Ran}
use Rattle.guest_proc.specs.declared.stop.Ran.TheVariants as ran
use Rattle.guest_proc.specs.declared.stop.Stop.{Stop}
use Rattle.guest_proc.specs.declared.stop.Stop.TheVariants as stop

pub record Process : Type 0 where
  pub state : State
  -- how many instructions may still be done
  pub fuel : ℕ
  pub report : Rows
  pub ledger : Ledger

abbrev pub process : Cpu → Memory → Io → ℕ → Rows → Ledger → Process
process cpu m io fuel report led = record { state = state cpu m io; fuel = fuel; report = report; ledger = led }

-- ---- where it stops before a block

-- where there is fuel
abbrev pub stop_at : ℕ → Ledger → ℕ → Result ℕ Access → Option Stop
stop_at pool led pc (Err e) = Some (stop.Ended (ends.Fault kinds.Fetch pc))
stop_at pool led pc (Ok word) = if wants_room pool led pc then Some stop.PoolFull else None

abbrev pub stop_with : ℕ → Process → Result ℕ Access → Option Stop
stop_with pool p answer = stop_at pool p.ledger p.state.cpu.pc answer

-- the stop that comes before the next block begins, if one does
abbrev pub stop_of : ℕ → Process → Option Stop
stop_of pool p = if p.fuel == 0 then Some (stop.Ended ends.Fuel) else stop_with pool p (fetched p.state.memory p.state.cpu.pc)

-- ---- how far it came

abbrev pub trace : Ledger → List ℕ → List (List ℕ) → List Asking → Trace
trace led maps units requests = record { ledger = led; maps = maps; units = units; requests = requests }

-- The run from old has these states up to new, and made these requests. Their events were counted; and the ledger of new is
-- the one that they lead to, but for this change, which is still to be done. Behind them this is told.
pub record Went (scheme : Scheme) (made : List Asking) (old new : Process) (change : Setting → Trace → Trace) (behind : Setting → List ℕ → Marked) : Type 0 where
  pub marks : List (State × Bool)
  pub seen : (w : Setting) (answers : List ℕ) → marked scheme.max (run w old.fuel answers old.state) ≡ with_marks marks (behind w answers)
  pub counted : new.report ≡ with_events (events scheme.tool marks) old.report
  pub ledger : (w : Setting) (maps : List ℕ) (units : List (List ℕ)) (requests : List Asking) →
      traced w scheme marks (trace old.ledger maps units requests) ≡ change w (trace new.ledger maps units (requests ++ made))

abbrev pub nothing : Setting → Trace → Trace
nothing w t = t

-- the run from new, where the next block begins
abbrev pub onward : ℕ → Process → Setting → List ℕ → Marked
onward max new w answers = marked max (run w new.fuel answers new.state)

-- the run behind what the state of new comes to
abbrev pub answered : ℕ → Process → Action → Setting → List ℕ → Marked
answered max new action w answers = marked max (run_behind w new.fuel new.state (transition_by w answers new.state action))

-- it goes on from new
abbrev pub GoesOn : Scheme → List Asking → Process → Process → Type 0
GoesOn scheme made old new = Went scheme made old new nothing (onward scheme.max new)

-- a map call: what is told behind it, and what it does to the ledger, go on from new with the answer that comes
abbrev pub Wants : Scheme → List Asking → Process → Process → Asked → Action → Type 0
Wants scheme made old new a action =
    Went scheme made old new (λ w. after_call w scheme (a, new.state.cpu, new.state.memory, new.state.io)) (answered scheme.max new action)

-- it stops in a block, or at its end
abbrev pub StopsIn : Scheme → List Asking → Process → Process → Stop → Type 0
StopsIn scheme made old new (stop.Ended end) = Went scheme made old new nothing (λ w answers. over end new.state.io.output answers)
StopsIn scheme made old new (stop.Map k) = Wants scheme made old new (asked.Map k) (Maps k new.state)
StopsIn scheme made old new (stop.Unmap k) = Wants scheme made old new (asked.Unmap k) (Unmaps k new.state)
StopsIn scheme made old new (stop.Replace k f) = Wants scheme made old new (asked.Replace k f) (Replaces k f new.state)
StopsIn scheme made old new stop.PoolFull = ⊥

-- ---- one block, which makes no request: it begins where there is room for it

-- it calls the system; what the call does is still to be done
abbrev pub Asks : Scheme → Process → Process → Type 0
Asks scheme old new =
    Went scheme [] old new (λ w. after_call w scheme (called new.state.cpu new.state.memory new.state.io)) (answered scheme.max new (call new.state))

-- a block was run that stood ready
abbrev pub RanBlock : Scheme → Process → Process → Ran → Type 0
RanBlock scheme old new ran.On = GoesOn scheme [] old new
RanBlock scheme old new (ran.Ended end) = StopsIn scheme [] old new (stop.Ended end)
RanBlock scheme old new ran.Asks = Asks scheme old new

-- a call was done
abbrev pub CallEnds : Scheme → Process → Process → Option Stop → Type 0
CallEnds scheme old new None = GoesOn scheme [] old new
CallEnds scheme old new (Some s) = StopsIn scheme [] old new s

-- one block was run, before which no stop came
pub record IsOneBlock (scheme : Scheme) (old new : Process) : Type 0 where
  pub begins : stop_of scheme.pool old ≡ None
  pub less : new.fuel < old.fuel
  pub one : new.ledger.counts.blocks ≡ old.ledger.counts.blocks + 1

-- At most one block was run: a stop came before it or in it, or none did.
abbrev pub Advances : Scheme → Process → Process → Option Stop → Type 0
Advances scheme old new None = IsOneBlock scheme old new × GoesOn scheme [] old new
Advances scheme old new (Some s) = ((new ≡ old) × (stop_of scheme.pool old ≡ Some s)) ⊎ (IsOneBlock scheme old new × StopsIn scheme [] old new s)

-- ---- blocks one after the other

-- from old to new, through these: each is one block behind the one before it
abbrev pub Through : Scheme → Process → List Process → Process → Type 0
Through scheme old [] new = new ≡ old
Through scheme old (next ∷ more) new = Advances scheme old next None × Through scheme next more new

-- Blocks were run one after the other, and then this stop came, before the next one or in it. So no stop came before the
-- begin of any, and the pool is full exactly where there is no room for the block that would be next.
pub record RanThrough (scheme : Scheme) (old new : Process) (s : Stop) : Type 0 where
  pub blocks : List Process
  pub last : Process
  pub through : Through scheme old blocks last
  pub stops : Advances scheme last new (Some s)

-- a stop came in it, or directly behind it
abbrev pub Comes : Scheme → List Asking → Process → Process → Stop → Type 0
Comes scheme made old new s = (GoesOn scheme made old new × (stop_of scheme.pool new ≡ Some s)) ⊎ StopsIn scheme made old new s

-- At most one block was run: a stop came before it, in it or directly behind it, or none did.
abbrev pub RanOne : Scheme → Process → Process → Option Stop → Type 0
RanOne scheme old new None = IsOneBlock scheme old new × GoesOn scheme [] old new × (stop_of scheme.pool new ≡ None)
RanOne scheme old new (Some s) = ((new ≡ old) × (stop_of scheme.pool old ≡ Some s)) ⊎ (IsOneBlock scheme old new × Comes scheme [] old new s)

-- Blocks were run up to a stop, and these requests were made: it came before the next block, or in the last one. Where none
-- was run, nothing changed.
pub record RanOn (scheme : Scheme) (made : List Asking) (old new : Process) (s : Stop) : Type 0 where
  pub comes : Comes scheme made old new s
  pub spends : ((new ≡ old) × (stop_of scheme.pool old ≡ Some s)) ⊎ (new.fuel < old.fuel)

-- ---- want of memory

-- an event of the block that stands ready has no row when it comes
pub record LacksRow (p : Process) : Type 0 where
  pub block : Parts
  pub ready : view p.ledger p.state.cpu.pc ≡ Some block
  pub words : ℕ
  pub state : State
  pub report : Rows
  pub wants : WantsRow block words p.state state p.report report

-- the block that stands ready ends with a call of the system, up to which its words were done one after the other
pub record CallsSystem (p : Process) : Type 0 where
  pub block : Parts
  pub ready : view p.ledger p.state.cpu.pc ≡ Some block
  pub words : ℕ
  pub fuel : words ≤ p.fuel
  pub state : State
  pub calls : DoesWords block words p.state left.Asked state

-- how the block that stands ready is left, where it calls the system
abbrev pub LeavesBy : Process → Ran → Type 0
LeavesBy p ran.Asks = CallsSystem p
LeavesBy p ran.On = Unit {0}
LeavesBy p (ran.Ended end) = Unit {0}

-- the next block is to be built, or one of its events has no row, or it calls the system
abbrev pub WantsMemory : Scheme → Process → Type 0
WantsMemory scheme p = (stop_of scheme.pool p ≡ None) × ((is_live p.ledger p.state.cpu.pc ≡ false) ⊎ (LacksRow p ⊎ CallsSystem p))

-- blocks were run one after the other, and the next one wants memory
pub record CameToWant (scheme : Scheme) (old : Process) : Type 0 where
  pub blocks : List Process
  pub reached : Process
  pub through : Through scheme old blocks reached
  pub wants : WantsMemory scheme reached
