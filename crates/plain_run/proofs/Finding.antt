-- Where the word at an address is found.
use Rattle.std.proofs.Common.{◌≡◌, ℕ, Bool, true, false, ◌||◌, ◌&&◌, not, [], ◌∷◌, Result, length, Option, Some, None, Ok, Err, refl, sym, ◌∙◌, ap, arith, ⊎_elim, subst}
use Rattle.std.specs.Prelude.{find, IsTrue, ◌↔◌}
use Rattle.std.proofs.lemmas.Bool.{cases_Bool}
use Rattle.std.proofs.lemmas.Bool.Decides.{nat_tests}
use Rattle.cc_base.specs.Span.{Range, HoldsWord}
use Rattle.cc_base.specs.declared.span.CodeView.{CodeView}
use Rattle.plain_machine.specs.declared.access.Access.{Access}
use Rattle.plain_machine.specs.declared.access.Access.TheVariants.{NotMapped}
use Rattle.plain_machine.specs.declared.cpu.Cpu.{Cpu}
use Rattle.plain_machine.specs.Region.{Area, holds, meets, bytes_at}
use Rattle.plain_machine.specs.Memory.{Memory, IsMemory, code_at, has_code, fetched, as_code, reach, number_of, region_at}
use Rattle.plain_machine.specs.Machine.{State, action, action_at, Unfetched}
use Rattle.plain_machine.specs.Io.{Io}
use Rattle.plain_machine.specs.Cut.{leaves}
use Rattle.guest_mem.specs.Results.{Shows}
use Rattle.engine.specs.Standing.{state}
use Rattle.engine.proofs.KeptCode.{holds-found, holds-none}
use Rattle.plain_run.specs.Places.{LiesAt}

-- what cannot be fetched
pub unfetched : (cpu : Cpu) (m : Memory) (e : Access) → Err e ≡ fetched m cpu.pc → (io : Io) → action (state cpu m io) ≡ Unfetched
unfetched cpu m e is io = ap (λ r. action_at r (state cpu m io)) (sym is)

lost : (m : Memory) (x word : ℕ) → find (holds x 4) m ≡ None → fetched m x ≡ Ok word → ⊥
lost m x word gone is =
    let act : Area → ℕ = λ r. number_of (bytes_at x 4 r) in
    let e : fetched m x ≡ Err NotMapped = ap (reach (λ r. r.flags.execute) act) gone in
    absurd (cc)

-- the code at a word that is there is its region
pub region-shown : (x word : ℕ) (m : Memory) (v : CodeView) (o : Option Area) → IsMemory m → find (has_code x 1) m ≡ o → Shows (Some v) (as_code o) → fetched m x ≡ Ok word →
    LiesAt (Some (record { start = v.start; len = length v.bytes.now })) (region_at m x 4)
region-shown x word m v None good e h is = absurd h
region-shown x word m v (Some r) good e h is =
    let span : Range = record { start = v.start; len = length v.bytes.now } in
    ⊎_elim
    (λ held. subst (λ o. LiesAt (Some span) o) (sym (holds-found x x 4 m r good.disjoint (omega arith) e held)) (h.0, ap length h.1))
    (λ lacks. absurd (lost m x word (holds-none x 4 m r good.disjoint (omega arith) e lacks) is))
    (cases_Bool (holds x 4 r))

-- ---- without code there is nothing to fetch

abbrev IsLost : Result ℕ Access → Type 0
IsLost (Ok word) = ⊥
IsLost (Err e) = Unit {0}

lost_action : (s : State) (r : Result ℕ Access) → IsLost r → action_at r s ≡ Unfetched
lost_action s (Ok word) none = absurd none
lost_action s (Err e) none = refl

-- a region that holds the word meets its first byte
first_byte : (x : ℕ) (r : Area) → holds x 4 r ≡ true → meets x 1 r ≡ true
first_byte x r h = grind (arith, nat_tests)

and_false : (a b : Bool) → (a && b) ≡ false → b ≡ true → a ≡ false
and_false true b h t = absurd (cc)
and_false false b h t = refl

-- no executable region has the byte
no-code : (x : ℕ) (act : Area → ℕ) (m : Memory) → find (has_code x 1) m ≡ None → IsLost (reach (λ r. r.flags.execute) act (find (holds x 4) m))
no-code x act [] e = tt
no-code x act (q ∷ qs) e =
    ⊎_elim
    (λ found. let impossible = rw found at e in absurd (cc))
    (λ passed.
    let rest = rw passed at e in
    ⊎_elim
    (λ held.
    let off : q.flags.execute ≡ false = and_false q.flags.execute (meets x 1 q) passed (first_byte x q held) in
    rw held (rw off tt))
    (λ lacks. rw lacks (no-code x act qs rest))
    (cases_Bool (holds x 4 q)))
    (cases_Bool (has_code x 1 q))

shown_none : (o : Option Area) → Shows None (as_code o) → o ≡ None
shown_none None h = refl
shown_none (Some r) h = absurd h

pub unfetched-none : (cpu : Cpu) (m : Memory) → Shows None (code_at m cpu.pc) → (io : Io) → action (state cpu m io) ≡ Unfetched
unfetched-none cpu m h io =
    lost_action (state cpu m io) (fetched m cpu.pc) (no-code cpu.pc (λ r. number_of (bytes_at cpu.pc 4 r)) m (shown_none (find (has_code cpu.pc 1) m) h))

-- ---- whether an instruction is outside a region

pub or_true : (a : Bool) → (a || true) ≡ true
or_true true = refl
or_true false = refl

pub leaves-none : (place : Option Area) (s : State) → LiesAt None place → true ≡ leaves place s
leaves-none None s lies = refl
leaves-none (Some r) s lies = absurd lies

holds_same : (b : Bool) (x : ℕ) (span : Range) (r : Area) → span.start ≡ r.start → span.len ≡ length r.bytes → (IsTrue b ↔ HoldsWord span x) → b ≡ holds x 4 r
holds_same b x span r starts long word = grind (arith, nat_tests)

pub leaves-some : (b : Bool) (x : ℕ) (span : Range) (place : Option Area) (s : State) → s.cpu.pc ≡ x → LiesAt (Some span) place → (IsTrue b ↔ HoldsWord span x) → not b ≡ leaves place s
leaves-some b x span None s at lies word = absurd lies
leaves-some b x span (Some r) s at lies word = ap not (holds_same b x span r lies.0 lies.1 word ∙ ap (λ a. holds a 4 r) (sym at))
