-- Where there is a block to run, and where not.
use Rattle.std.proofs.Common.{◌≡◌, ℕ, ◌%◌, Bool, true, false, ◌&&◌, if◌then◌else◌, [], ◌∷◌, Option, Some, None, Result, Ok, Err, refl, sym, ◌∙◌, ap, arith, ⊎_elim, inl, inr, subst}
use Rattle.std.specs.Prelude.{find}
use Rattle.std.proofs.lemmas.Bool.{cases_Bool}
use Rattle.std.proofs.lemmas.Bool.Decides.{nat_tests}
use Rattle.std.proofs.lemmas.Option.{same_Some}
use Rattle.cc_base.specs.Image.{Code}
use Rattle.cc_base.specs.declared.span.CodeView.{CodeView}
use Rattle.plain_machine.specs.declared.access.Access.{Access}
use Rattle.plain_machine.specs.declared.access.Access.TheVariants.{NotMapped}
use Rattle.plain_machine.specs.declared.cpu.Cpu.{Cpu}
use Rattle.plain_machine.specs.Region.{Area, holds, meets, bytes_at}
use Rattle.plain_machine.specs.Memory.{Memory, IsMemory, has_code, fetched, code_of, code_at, as_code, reach, number_of}
use Rattle.plain_machine.specs.Io.{Io}
use Rattle.plain_machine.specs.Machine.{State, Unfetched, action, action_at}
use Rattle.fragment.specs.Parts.{Parts}
use Rattle.probe_tools.specs.declared.tool.Tool.{Tool}
use Rattle.fragment.specs.Build.{CannotBuild, built, has_word}
use Rattle.fragment.proofs.Values.{none-built}
use Rattle.guest_mem.specs.Results.{Shows}
use Rattle.fragment.specs.View.{shown}
use Rattle.engine.specs.Standing.{state}
use Rattle.engine.proofs.KeptCode.{holds-none}

-- what cannot be fetched
abbrev pub IsLost : Result ℕ Access → Type 0
IsLost (Ok word) = ⊥
IsLost (Err e) = Unit {0}

lost_action : (s : State) (r : Result ℕ Access) → IsLost r → action_at r s ≡ Unfetched
lost_action s (Ok word) lost = absurd lost
lost_action s (Err e) lost = refl

-- a region that holds the word meets its first byte
first_byte : (x : ℕ) (r : Area) → holds x 4 r ≡ true → meets x 1 r ≡ true
first_byte x r h = grind (arith, nat_tests)

and_false : (a b : Bool) → (a && b) ≡ false → b ≡ true → a ≡ false
and_false true b h t = absurd (cc)
and_false false b h t = refl

-- no executable region has the byte
no-code : (x : ℕ) (act : Area → ℕ) (m : Memory) → find (has_code x 1) m ≡ None → IsLost (reach (λ r. r.flags.execute) act (find (holds x 4) m))
no-code x act [] e = tt
no-code x act (q ∷ qs) e =
    ⊎_elim
    (λ found. let impossible = rw found at e in absurd (cc))
    (λ passed.
    let rest = rw passed at e in
    ⊎_elim
    (λ held.
    let off : q.flags.execute ≡ false = and_false q.flags.execute (meets x 1 q) passed (first_byte x q held) in
    rw held (rw off tt))
    (λ lacks. rw lacks (no-code x act qs rest))
    (cases_Bool (holds x 4 q)))
    (cases_Bool (has_code x 1 q))

none-as-code : (o : Option Area) → as_code o ≡ None → o ≡ None
none-as-code None e = refl
none-as-code (Some r) e = cc

-- without code there is nothing to fetch
pub action-no-code : (cpu : Cpu) (m : Memory) (io : Io) → code_at m cpu.pc ≡ None → action (state cpu m io) ≡ Unfetched
action-no-code cpu m io e =
    lost_action (state cpu m io) (fetched m cpu.pc) (no-code cpu.pc (λ r. number_of (bytes_at cpu.pc 4 r)) m (none-as-code (find (has_code cpu.pc 1) m) e))

is_lacking : (b : Bool) (x : ℕ) → (if b then Some x else None) ≡ None → b ≡ false
is_lacking true x h = cc
is_lacking false x h = refl

-- the region behind a code
pub record Behind (m : Memory) (x : ℕ) (code : Code) : Type 0 where
  pub region : Area
  pub here : find (has_code x 1) m ≡ Some region
  pub same : code_of region ≡ code

behind-of : (x : ℕ) (m : Memory) (code : Code) (o : Option Area) → find (has_code x 1) m ≡ o → as_code o ≡ Some code → Behind m x code
behind-of x m code None e is = absurd (cc)
behind-of x m code (Some r) e is = record { region = r; here = e; same = same_Some (code_of r) code is }

pub behind-code : (x : ℕ) (m : Memory) (code : Code) → code_at m x ≡ Some code → Behind m x code
behind-code x m code is = behind-of x m code (find (has_code x 1) m) refl is

-- where no block can be built there is nothing to fetch
pub action-no-block : (cpu : Cpu) (m : Memory) (io : Io) (code : Code) → IsMemory m → cpu.pc % 4 ≡ 0 → Behind m cpu.pc code → CannotBuild code cpu.pc → action (state cpu m io) ≡ Unfetched
action-no-block cpu m io code good aligned behind (inl odd) = absurd (odd aligned)
action-no-block cpu m io code good aligned behind (inr lacks) =
    let apart : has_word code cpu.pc ≡ false = is_lacking (has_word code cpu.pc) _ lacks in
    let held : holds cpu.pc 4 behind.region ≡ false = subst (λ c. has_word c cpu.pc ≡ false) (sym behind.same) apart in
    let gone = holds-none cpu.pc 4 m behind.region good.disjoint (omega arith) behind.here held in
    let act : Area → ℕ = λ r. number_of (bytes_at cpu.pc 4 r) in
    let lost : fetched m cpu.pc ≡ Err NotMapped = ap (reach (λ r. r.flags.execute) act) gone in
    ap (λ r. action_at r (state cpu m io)) lost

-- ---- in the words of the code

shown_code : (v : CodeView) (o : Option Code) → Shows (Some v) o → o ≡ Some (shown v)
shown_code v None h = absurd h
shown_code v (Some c) h = ap Some (rw (h.0, h.1) refl)

no_code : (o : Option Code) → Shows None o → o ≡ None
no_code None h = refl
no_code (Some c) h = absurd h

pub unfetched-none : (cpu : Cpu) (m : Memory) → Shows None (code_at m cpu.pc) → (io : Io) → action (state cpu m io) ≡ Unfetched
unfetched-none cpu m h io = action-no-code cpu m io (no_code (code_at m cpu.pc) h)

pub unfetched-lacks : (cpu : Cpu) (m : Memory) (v : CodeView) → IsMemory m → cpu.pc % 4 ≡ 0 → Shows (Some v) (code_at m cpu.pc) → CannotBuild (shown v) cpu.pc → (io : Io) →
    action (state cpu m io) ≡ Unfetched
unfetched-lacks cpu m v good aligned h lacks io =
    action-no-block cpu m io (shown v) good aligned (behind-code cpu.pc m (shown v) (shown_code v (code_at m cpu.pc) h)) lacks

-- where none is built
pub built-none : (cpu : Cpu) (m : Memory) (v : CodeView) (tool : Tool) (max : ℕ) (b : Option Parts) → IsMemory m → cpu.pc % 4 ≡ 0 → Shows (Some v) (code_at m cpu.pc) →
    b ≡ built (shown v) cpu.pc cpu.isa tool max → b ≡ None → (io : Io) → action (state cpu m io) ≡ Unfetched
built-none cpu m v tool max b good aligned h is none io =
    unfetched-lacks cpu m v good aligned h ((none-built (shown v) cpu.pc cpu.isa tool max).0 (sym is ∙ none)) io
