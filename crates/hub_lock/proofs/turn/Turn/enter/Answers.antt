use Rattle.std.proofs.Common.{rules, ap, subst, ◌∙◌}
use Rattle.hub_lock.specs.Steps.{IsSound}
use Rattle.hub_lock.specs.Seats.{SeatState, seat_state}
use Rattle.hub_lock.proofs.SeatStates.{Enters, out_of, slot_held, value_found, entered}
use Rattle.hub_lock.proofs.turn.Turn.enter.Given as given
use Rattle.hub_lock.proofs.turn.Turn.enter.Goals as goal

pub draw-ticket-requires-clause-outside : goal.draw-ticket-requires-clause-outside
draw-ticket-requires-clause-outside g c = out_of c.seat.inside.pass.me c.seat.invariant (ap (λ s. s.inside) c.seat.view_is ∙ c.requires.outside)

pub exchange-requires : goal.exchange-requires
exchange-requires g c = (search rules, (_, slot_held g.T.Kept.opening g.T.Kept.journal g.T.Kept.rule c.draw-ticket.new.pass.me c.look.new.pass.me c.draw-ticket.result c.look.ensures.took))

pub unwrap-value-requires : goal.unwrap-value-requires
unwrap-value-requires g c = value_found g.T.Kept.opening g.T.Kept.journal g.T.Kept.rule c.draw-ticket.new.pass.me c.look.new.pass.me c.draw-ticket.result c.exchange.result c.look.ensures.took c.exchange.ensures.2

-- what the steps made of the seat
done : (g : given.Over) (c : goal.After-unwrap-value g)
    → IsSound c.exchange.new.seat.me × Enters g.T.Kept.opening g.T.Kept.journal g.T.Kept.rule (seat_state c.seat.inside.pass.table_id c.seat.inside.pass.me) c.unwrap-value.result (seat_state c.exchange.new.seat.table_id c.exchange.new.seat.me)
done g c =
    let m = c.seat.inside.pass in
    let x = c.exchange.ensures in
    entered g.T.Kept.opening g.T.Kept.journal g.T.Kept.rule m.table_id c.exchange.new.seat.table_id m.me c.draw-ticket.new.pass.me c.look.new.pass.me c.exchange.new.seat.me c.draw-ticket.result c.exchange.result c.unwrap-value.result
    (x.0 ∙ (c.look.ensures.own ∙ c.draw-ticket.ensures.own)) c.seat.invariant (out_of m.me c.seat.invariant (ap (λ s. s.inside) c.seat.view_is ∙ c.requires.outside)) c.draw-ticket.ensures.drew c.look.ensures.took x.2 c.unwrap-value.ensures x.3

pub invariant_of-seat : goal.invariant_of-seat
invariant_of-seat g c = (done g c).0

told : (g : given.Over) (c : goal.After-unwrap-value g)
    → Enters g.T.Kept.opening g.T.Kept.journal g.T.Kept.rule c.args.seat.now c.unwrap-value.result (seat_state c.exchange.new.seat.table_id c.exchange.new.seat.me)
told g c = subst (λ (s : SeatState g.row.T-Opening.Denot g.row.T-Entry.Denot). Enters g.T.Kept.opening g.T.Kept.journal g.T.Kept.rule s c.unwrap-value.result (seat_state c.exchange.new.seat.table_id c.exchange.new.seat.me)) c.seat.view_is (done g c).1

pub returns-clause-inside : goal.returns-clause-inside
returns-clause-inside g c = (told g c).inside

pub returns-clause-opening : goal.returns-clause-opening
returns-clause-opening g c = (told g c).opening

pub returns-clause-later : goal.returns-clause-later
returns-clause-later g c = (told g c).later

pub returns-clause-within : goal.returns-clause-within
returns-clause-within g c = (told g c).within

pub returns-clause-entries : goal.returns-clause-entries
returns-clause-entries g c = (told g c).entries

pub returns-clause-own_ruled : goal.returns-clause-own_ruled
returns-clause-own_ruled g c = (told g c).own_ruled

pub returns-clause-rest_ruled : goal.returns-clause-rest_ruled
returns-clause-rest_ruled g c = (told g c).rest_ruled
