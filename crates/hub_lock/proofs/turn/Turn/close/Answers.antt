use Rattle.std.proofs.Common.{◌≡◌, refl, sym, ap, ◌∙◌, Some, subst, ℕ, length}
use mathlib.Core.Option.{some-injective}
use Rattle.std.specs.Option.{IsSome}
use Rattle.hub_lock.specs.Places.{times, between}
use Rattle.hub_lock.specs.Seats.{SeatState}
use Rattle.hub_lock.proofs.Commits.{item_of}
use Rattle.hub_lock.proofs.Ends.{closes}
use Rattle.hub_lock.proofs.Entries.{mine-whole}
use Rattle.hub_lock.proofs.SeatStates.{out_of}
use Rattle.hub_lock.proofs.turn.Turn.close.Given as given
use Rattle.hub_lock.proofs.turn.Turn.close.Goals as goal
use Rattle.hub_lock.proofs.turn.Turn.close.Goals.{After-free}

pub unwrap-value-requires : goal.unwrap-value-requires
unwrap-value-requires g c =
    let out = out_of c.seat.inside.pass.me c.seat.invariant (ap (λ s. s.inside) c.seat.view_is ∙ c.requires.outside) in
    let t = closes _ _ _ _ (ap (λ s. s.parts) c.seat.view_is ∙ c.requires.all) out.0 c.close_with-closed.ensures.values.2 in
    let e = some-injective _ _ (sym c.take.ensures.value ∙ t.1) in subst IsSome (sym e) refl

-- what the seat knows of the value
ends : (g : given.Over) (c : After-free g)
    → (c.seat.inside.pass.me.0.opening ≡ Some (g.T.Kept.opening c.unwrap-value.result)) × (g.T.Kept.journal c.unwrap-value.result ≡ c.seat.inside.pass.me.0.seen)
    × ((p : ℕ) → times p c.seat.inside.pass.me.0.own ≡ between p 0 (length c.seat.inside.pass.me.0.seen))
ends g c =
    let out = out_of c.seat.inside.pass.me c.seat.invariant (ap (λ s. s.inside) c.seat.view_is ∙ c.requires.outside) in
    let t = closes _ _ _ _ (ap (λ s. s.parts) c.seat.view_is ∙ c.requires.all) out.0 c.close_with-closed.ensures.values.2 in
    let same = ap (item_of t.0) (sym (some-injective _ _ (sym c.take.ensures.value ∙ t.1)) ∙ c.unwrap-value.ensures) in
    (t.2 ∙ ap (λ x. Some (g.T.Kept.opening x)) same, sym (ap g.T.Kept.journal same) ∙ t.3, t.4)

pub returns-clause-opening : goal.returns-clause-opening
returns-clause-opening g c = ap (λ s. s.opening) (sym c.seat.view_is) ∙ (ends g c).0

pub returns-clause-journal : goal.returns-clause-journal
returns-clause-journal g c = (ends g c).1 ∙ ap (λ s. s.seen) c.seat.view_is

pub returns-clause-own : goal.returns-clause-own
returns-clause-own g c = subst (λ (s : SeatState g.row.T-Opening.Denot g.row.T-Entry.Denot). (p : ℕ) → times p s.own ≡ between p 0 (length s.seen)) c.seat.view_is (ends g c).2

pub returns-clause-entries : goal.returns-clause-entries
returns-clause-entries g c = mine-whole c.args.seat.seen c.args.seat.own (returns-clause-own g c)
