use Rattle.std.proofs.Common.{◌≡◌, ℕ, List, ◌+◌, ◌<◌, [], ◌∷◌, ◌++◌, sym, ap, subst, refl, arith, Bool, true, false}
use Rattle.hub_lock.specs.Merge.{total-merged}
use Rattle.hub_lock.specs.Moves.{one_up, one_down, ups, downs, IsCovered}
use Rattle.hub_lock.specs.Places.{mine, others}
use Rattle.hub_lock.proofs.Sums.{total-append}
use Rattle.hub_lock.proofs.Entries.{own_and_others}
use Rattle.hub_lock.proofs.Calls.{CameIn, may_leave, adds, sees, some_before}
use Rattle.hub_lock.specs.declared.tests.Counter.{Counter}
use Rattle.hub_lock.specs.declared.tests.Move.{Move}
use Rattle.hub_lock.proofs.tests.go.Goals as goal

-- what the seat may go down by, the counter has
covered : {E : Type 0} (log : List E) (own : List ℕ) (up : E → Bool) → downs (mine log own) up < ups (mine log own) up → IsCovered (others log own) up → downs log up < ups log up
covered log own up more rest =
    let m = own_and_others log own in
    omega (arith, more, rest, total-merged (λ e. one_up (up e)) log _ _ m, total-merged (λ e. one_down (up e)) log _ _ m)

-- one move more is covered where it goes up, or where more went up than down
covered_push : {E : Type 0} (es : List E) (e : E) (up : E → Bool) → IsCovered es up → (up e ≡ false → downs es up < ups es up) → IsCovered (es ++ e ∷ []) up
covered_push es e up h may =
    let a = total-append (λ m. one_up (up m)) es (e ∷ []) in
    let b = total-append (λ m. one_down (up m)) es (e ∷ []) in
    by (up e) may a b
  where
    by : (flag : Bool) → (flag ≡ false → downs es up < ups es up) → ups (es ++ e ∷ []) up ≡ ups es up + (one_up flag + 0) → downs (es ++ e ∷ []) up ≡ downs es up + (one_down flag + 0) → IsCovered (es ++ e ∷ []) up
    by true may a b = omega (arith, h)
    by false may a b = omega (arith, may refl)

abbrev journal : Counter → List Move
journal x = x.journal.items

pub go-result-requires : goal.go-result-requires
go-result-requires g c down =
    let h = c.enter-counter.ensures in
    let s = c.enter-counter.new.seat in
    subst (λ l. downs l (λ m. m.up) < ups l (λ m. m.up)) (ap (λ k. k.seen) h.inside) (covered s.seen s.own (λ m. m.up) (subst (λ l. downs l (λ m. m.up) < ups l (λ m. m.up)) (sym h.entries) (c.requires.may down)) h.rest_ruled)

pub leave-requires-clause-may : goal.leave-requires-clause-may
leave-requires-clause-may g c =
    let e = c.enter-counter.ensures in
    let h : CameIn c.args.seat.now c.enter-counter.result.value.journal.items c.enter-counter.new.seat = record { inside = e.inside; later = e.later; within = e.within; entries = e.entries } in
    let r = c.go-result.ensures in
    may_leave journal (λ es. IsCovered es (λ m. m.up)) _ _ c.go-result.new.self _ (λ _. c.args.step) c.go-result.result _ c.is_ok.ensures.value h r.ok r.err (λ _. covered_push _ c.args.step (λ m. m.up) (subst (λ l. IsCovered l (λ m. m.up)) e.entries e.own_ruled) c.requires.may)

pub returns-clause-ok : goal.returns-clause-ok
returns-clause-ok g c =
    let e = c.enter-counter.ensures in
    let h : CameIn c.args.seat.now c.enter-counter.result.value.journal.items c.enter-counter.new.seat = record { inside = e.inside; later = e.later; within = e.within; entries = e.entries } in
    let r = c.go-result.ensures in
    let done = adds journal _ _ c.go-result.new.self _ _ (λ _. c.args.step) c.go-result.result _ c.is_ok.ensures.value h r.ok c.leave.ensures in
    some_before _ _ _ _ c.go-result.result done

pub returns-clause-err : goal.returns-clause-err
returns-clause-err g c =
    let e = c.enter-counter.ensures in
    let h : CameIn c.args.seat.now c.enter-counter.result.value.journal.items c.enter-counter.new.seat = record { inside = e.inside; later = e.later; within = e.within; entries = e.entries } in
    sees journal _ _ c.go-result.new.self _ _ c.go-result.result _ c.is_ok.ensures.value h c.leave.ensures
