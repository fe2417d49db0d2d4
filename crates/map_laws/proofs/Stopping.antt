-- A stop before a block asks for nothing, and an end there is the run's.
use Rattle.std.proofs.Common.{◌≡◌, ℕ, zero, suc, ◌==◌, Bool, true, false, List, Option, Some, None, Result, Ok, Err, refl, ◌∙◌, ap, subst, arith, inl, inr}
use Rattle.std.specs.Prelude.{if◌then◌else◌}
use Rattle.std.proofs.lemmas.Bool.{cases_Bool}
use Rattle.std.proofs.lemmas.Bool.Decides.{nat_tests}
use Rattle.plain_machine.specs.declared.access.Access.{Access}
use Rattle.plain_machine.specs.declared.ends.End.{End}
use Rattle.plain_machine.specs.declared.ends.End.TheVariants as ends
use Rattle.plain_machine.specs.Memory.{fetched}
use Rattle.plain_machine.specs.Machine.{Setting, action_at}
use Rattle.plain_machine.specs.Run.{run, ended}
use Rattle.plain_machine.specs.Cut.{marked, with_marks}
use Rattle.plain_machine.proofs.RunLaws.{run-zero, run-unfetched}
use Rattle.block_ledger.specs.Ledger.{wants_room}
use Rattle.block_ledger.specs.Requests.{Asking}
use Rattle.block_ledger.specs.Traced.{Scheme}
use Rattle.guest_proc.specs.declared.stop.Stop.{Stop}
use Rattle.guest_proc.specs.declared.stop.Stop.TheVariants as stop
use Rattle.guest_proc.specs.Process.{Comes, GoesOn, Process, StopsIn, stop_of, stop_with}

-- it asks for nothing
abbrev pub AsksNothing : Option Stop → Type 0
AsksNothing None = Unit {0}
AsksNothing (Some (stop.Ended e)) = Unit {0}
AsksNothing (Some (stop.Map k)) = ⊥
AsksNothing (Some (stop.Unmap k)) = ⊥
AsksNothing (Some (stop.Replace k f)) = ⊥
AsksNothing (Some stop.PoolFull) = Unit {0}

room_nothing : (b : Bool) → AsksNothing (if b then Some stop.PoolFull else None)
room_nothing true = tt
room_nothing false = tt

with_nothing : (pool : ℕ) (p : Process) (r : Result ℕ Access) → AsksNothing (stop_with pool p r)
with_nothing pool p (Ok word) = room_nothing (wants_room pool p.ledger p.state.cpu.pc)
with_nothing pool p (Err e) = tt

pub before-nothing : (pool : ℕ) (p : Process) → AsksNothing (stop_of pool p)
before-nothing pool p = elim (cases_Bool (p.fuel == 0)) [
  | inl spent ↦ rw spent tt
  | inr some ↦ rw some (with_nothing pool p (fetched p.state.memory p.state.cpu.pc))
]

-- a stop that is to be answered comes in a block
pub comes-asking : (scheme : Scheme) (made : List Asking) (old new : Process) (s : Stop) → (AsksNothing (Some s) → ⊥) → Comes scheme made old new s → StopsIn scheme made old new s
comes-asking scheme made old new s asks (inl before) = absurd (asks (subst AsksNothing before.1 (before-nothing scheme.pool new)))
comes-asking scheme made old new s asks (inr within) = within

-- ---- an end

abbrev pub end_of : End → Option Stop → End
end_of d None = d
end_of d (Some (stop.Ended e)) = e
end_of d (Some (stop.Map k)) = d
end_of d (Some (stop.Unmap k)) = d
end_of d (Some (stop.Replace k f)) = d
end_of d (Some stop.PoolFull) = d

room_end : (b : Bool) (end : End) → ◌≡◌ {A = Option Stop} (if b then Some stop.PoolFull else None) (Some (stop.Ended end)) → ⊥
room_end true end e = cc
room_end false end e = cc

with_end : (pool fuel : ℕ) (p : Process) (end : End) (r : Result ℕ Access) → fetched p.state.memory p.state.cpu.pc ≡ r → stop_with pool p r ≡ Some (stop.Ended end) →
    (w : Setting) (answers : List ℕ) → run w (suc fuel) answers p.state ≡ ended p.state end answers
with_end pool fuel p end (Ok word) is e w answers = absurd (room_end (wants_room pool p.ledger p.state.cpu.pc) end e)
with_end pool fuel p end (Err a) is e w answers =
    run-unfetched w fuel answers p.state (ap (λ r. action_at r p.state) is) ∙ ap (λ x. ended p.state x answers) (ap (end_of end) e)

end_at : (pool fuel : ℕ) (p : Process) (end : End) → p.fuel ≡ fuel → stop_of pool p ≡ Some (stop.Ended end) →
    (w : Setting) (answers : List ℕ) → run w fuel answers p.state ≡ ended p.state end answers
end_at pool zero p end is e w answers =
    let e' : Some (stop.Ended ends.Fuel) ≡ Some (stop.Ended end) = rw is at e in
    run-zero w answers p.state ∙ ap (λ x. ended p.state x answers) (ap (end_of end) e')
end_at pool (suc fuel) p end is e w answers =
    let some : (p.fuel == 0) ≡ false = grind (arith, nat_tests) in
    let e' : stop_with pool p (fetched p.state.memory p.state.cpu.pc) ≡ Some (stop.Ended end) = rw some at e in
    with_end pool fuel p end (fetched p.state.memory p.state.cpu.pc) refl e' w answers

ended_before : (scheme : Scheme) (made : List Asking) (old new : Process) (end : End) → GoesOn scheme made old new → stop_of scheme.pool new ≡ Some (stop.Ended end) → StopsIn scheme made old new (stop.Ended end)
ended_before scheme made old new end g e = record {
  marks = g.marks;
  seen = λ w answers. g.seen w answers ∙ ap (λ r. with_marks g.marks (marked scheme.max r)) (end_at scheme.pool new.fuel new end refl e w answers);
  counted = g.counted;
  ledger = g.ledger;
}

pub comes-ended : (scheme : Scheme) (made : List Asking) (old new : Process) (end : End) → Comes scheme made old new (stop.Ended end) → StopsIn scheme made old new (stop.Ended end)
comes-ended scheme made old new end (inl before) = ended_before scheme made old new end before.0 before.1
comes-ended scheme made old new end (inr within) = within
