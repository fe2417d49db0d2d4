use Rattle.std.proofs.Common.{rules, ap, ◌∙◌, subst}
use Rattle.hub_lock.specs.Steps.{IsSound}
use Rattle.hub_lock.specs.Seats.{SeatState, seat_state}
use Rattle.hub_lock.proofs.Parts.{joins, checks}
use Rattle.hub_lock.proofs.SeatStates.{Joins, out_of, joins_as}
use Rattle.hub_lock.proofs.turn.Turn.join.Given as given
use Rattle.hub_lock.proofs.turn.Turn.join.Goals as goal

pub join_seat-requires : goal.join_seat-requires
join_seat-requires g c =
    let a = out_of c.seat.inside.pass.me c.seat.invariant (ap (λ s. s.inside) c.seat.view_is ∙ c.requires.outside.0) in
    let b = out_of c.other.inside.pass.me c.other.invariant (ap (λ s. s.inside) c.other.view_is ∙ c.requires.outside.1) in
    (search rules, search rules, b.1, search rules, joins g.T.Kept.empty g.T.Kept.merged _ _ _ _ a.0 b.0 a.2)

pub load-requires : goal.load-requires
load-requires g c = (search rules, search rules, checks _ _ _)

-- what the steps made of the seat
done : (g : given.Over) (c : goal.After-load g)
    → IsSound c.load.new.seat.me × Joins (seat_state c.seat.inside.pass.table_id c.seat.inside.pass.me) (seat_state c.other.inside.pass.table_id c.other.inside.pass.me) (seat_state c.load.new.seat.table_id c.load.new.seat.me)
done g c =
    let m = c.seat.inside.pass in
    let u = c.other.inside.pass in
    let a = out_of m.me c.seat.invariant (ap (λ s. s.inside) c.seat.view_is ∙ c.requires.outside.0) in
    let l = c.load.ensures in
    let j = c.join_seat.ensures in
    joins_as m.table_id c.load.new.seat.table_id u.table_id m.me u.me c.join_seat.new.seat.me c.load.new.seat.me (l.0 ∙ j.0) c.seat.invariant c.other.invariant a j.2 l.2.0 l.2.1 l.2.2

pub invariant_of-seat : goal.invariant_of-seat
invariant_of-seat g c = (done g c).0

told : (g : given.Over) (c : goal.After-load g) → Joins c.args.seat.now c.args.other (seat_state c.load.new.seat.table_id c.load.new.seat.me)
told g c =
    let now = seat_state c.load.new.seat.table_id c.load.new.seat.me in
    let with_other = subst (λ (u : SeatState g.row.T-Opening.Denot g.row.T-Entry.Denot). Joins (seat_state c.seat.inside.pass.table_id c.seat.inside.pass.me) u now) c.other.view_is (done g c).1 in
    subst (λ (s : SeatState g.row.T-Opening.Denot g.row.T-Entry.Denot). Joins s c.args.other now) c.seat.view_is with_other

pub returns-clause-both : goal.returns-clause-both
returns-clause-both g c = (told g c).is

pub returns-clause-later : goal.returns-clause-later
returns-clause-later g c = (told g c).later

pub returns-clause-apart : goal.returns-clause-apart
returns-clause-apart g c = (told g c).apart

pub returns-clause-within : goal.returns-clause-within
returns-clause-within g c = (told g c).within

pub returns-clause-kept : goal.returns-clause-kept
returns-clause-kept g c = (told g c).kept

pub returns-clause-entries : goal.returns-clause-entries
returns-clause-entries g c = (told g c).entries
