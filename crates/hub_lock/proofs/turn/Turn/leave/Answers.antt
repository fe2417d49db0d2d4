use Rattle.std.proofs.Common.{◌≡◌, rules, sym, ap, subst, ◌∙◌, Some, ◌∷◌}
use Rattle.atomic_table.specs.Table.{rest}
use Rattle.hub_lock.specs.Steps.{view, own_after, IsSound}
use Rattle.hub_lock.specs.Seats.{SeatState, seat_state, MayLeave, Leaves}
use Rattle.hub_lock.proofs.Turns.{passes}
use Rattle.hub_lock.proofs.Commits.{slot_of}
use Rattle.hub_lock.proofs.SeatStates.{in_of, may_commit, left}
use Rattle.hub_lock.proofs.turn.Turn.leave.Given as given
use Rattle.hub_lock.proofs.turn.Turn.leave.Goals as goal

pub commit-requires-clause-inside : goal.commit-requires-clause-inside
commit-requires-clause-inside g c =
    let inside = in_of c.seat.inside.pass.me c.seat.invariant (ap (λ s. s.inside) c.seat.view_is ∙ c.requires.inside) in
    let given = c.exchange.ensures.3 in
    let what : c.of-what.result.value ≡ c.args.held.value = search rules in
    ((_, ap (λ m. m.0.stage) given ∙ inside.0), ap (λ m. m.1) given ∙ (ap (λ l. (0, Some c.args.held.value) ∷ rest l) inside.1 ∙ ap slot_of (sym what)))

pub commit-requires-clause-may : goal.commit-requires-clause-may
commit-requires-clause-may g c =
    let what : c.of-what.result.value ≡ c.args.held.value = search rules in
    may_commit g.T.Kept.opening g.T.Kept.journal g.T.Kept.rule c.seat.inside.pass.table_id c.seat.inside.pass.me c.exchange.new.seat.me.0 c.args.held.value c.of-what.result.value c.args.added (ap (λ m. m.0) c.exchange.ensures.3) what
    (subst (λ (s : SeatState g.row.T-Opening.Denot g.row.T-Entry.Denot). MayLeave g.T.Kept.journal g.T.Kept.rule s c.args.held.value c.args.added) (sym c.seat.view_is) c.requires.may)

pub fetch_add-requires : goal.fetch_add-requires
fetch_add-requires g c =
    let inside = in_of c.seat.inside.pass.me c.seat.invariant (ap (λ s. s.inside) c.seat.view_is ∙ c.requires.inside) in
    let given = c.exchange.ensures.3 in
    let committed = c.commit.ensures.done in
    let what : c.of-what.result.value ≡ c.args.held.value = search rules in
    let holds = ap (λ m. m.1) given ∙ (ap (λ l. (0, Some c.args.held.value) ∷ rest l) inside.1 ∙ ap slot_of (sym what)) in
    let opening = ap (λ m. m.0.opening) given ∙ (ap (λ s. s.opening) c.seat.view_is ∙ (c.requires.opening ∙ ap (λ x. Some (g.T.Kept.opening x)) (sym what))) in
    (search rules, search rules, passes _ _ _ c.of-what.result.value committed.0 (ap (λ m. m.1) committed.1 ∙ holds) (ap (λ m. m.0.opening) committed.1 ∙ opening) (sym (ap (λ m. m.0.seen) committed.1)))

-- what the steps made of the seat
done : (g : given.Over) (c : goal.After-drop-what g)
    → IsSound c.fetch_add.new.seat.me × Leaves g.T.Kept.journal (seat_state c.seat.inside.pass.table_id c.seat.inside.pass.me) c.args.held.value c.args.added (seat_state c.fetch_add.new.seat.table_id c.fetch_add.new.seat.me)
done g c =
    let m = c.seat.inside.pass in
    let m2 = c.exchange.new.seat.me in
    let m3 = c.commit.new.pass.me in
    let inside = in_of m.me c.seat.invariant (ap (λ s. s.inside) c.seat.view_is ∙ c.requires.inside) in
    let what : c.of-what.result.value ≡ c.args.held.value = search rules in
    let may = subst (λ (s : SeatState g.row.T-Opening.Denot g.row.T-Entry.Denot). MayLeave g.T.Kept.journal g.T.Kept.rule s c.args.held.value c.args.added) (sym c.seat.view_is) c.requires.may in
    let committed = subst (λ (x : g.row.T.Denot). m3 ≡ (view m2.0.opening (g.T.Kept.journal x) (own_after m2.0 c.args.added) m2.0.parts m3.0.stage m2.0.told, m2.1)) what c.commit.ensures.done.1 in
    left g.T.Kept.journal g.T.Kept.rule m.table_id c.fetch_add.new.seat.table_id m.me m2 m3 c.fetch_add.new.seat.me c.args.held.value m3.0.stage c.args.added
    (c.fetch_add.ensures.0 ∙ (c.commit.ensures.own ∙ c.exchange.ensures.0)) c.seat.invariant inside.1 may c.exchange.ensures.3 committed c.fetch_add.ensures.2

pub invariant_of-seat : goal.invariant_of-seat
invariant_of-seat g c = (done g c).0

pub returns : goal.returns
returns g c = subst (λ (s : SeatState g.row.T-Opening.Denot g.row.T-Entry.Denot). Leaves g.T.Kept.journal s c.args.held.value c.args.added (seat_state c.fetch_add.new.seat.table_id c.fetch_add.new.seat.me)) c.seat.view_is (done g c).1
