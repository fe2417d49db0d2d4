use Rattle.std.proofs.Common.{◌≡◌, subst, sym}
use Rattle.std.specs.Arc.{arc_value}
use Rattle.std.specs.List.{All}
use Rattle.unit_set.specs.Held.{Held, IsFreshFor}
use Rattle.guest_proc.specs.Kept.{IsReady, process_of, scheme_of}
use Rattle.guest_proc.proofs.Attaching.{ready-attached}
use Rattle.guest_proc.proofs.process.Proc.attach.Goals as goal

pub invariant_of-self-2 : goal.invariant_of-self-2
invariant_of-self-2 g c =
    let unit : Held = arc_value c.args.unit.now in
    let fresh : All (IsFreshFor unit.slot unit.image) unit.frags = subst (λ (u : Held). All (IsFreshFor u.slot u.image) u.frags) c.deref.ensures c.are_fresh.ensures in
    record {
      ready = λ e. subst (λ l. IsReady (scheme_of c.args.self.now.at c.args.self.now.limits) (process_of c.args.self.now.at l)) (sym c.in_ok-attach.ensures.ok)
          (ready-attached (scheme_of c.args.self.now.at c.args.self.now.limits) (process_of c.args.self.now.at (g.B.Book.ledger c.args.self.now.book)) c.segment_of.result unit c.args.self.now.limits.some
          (record { memory = c.code_at.ensures.memory; there = c.requires.there; fresh = fresh; same_isa = c.requires.isa; same_tool = c.requires.tool; same_max = c.requires.max })
          c.requires.clear
          (c.args.self.now.ready c.if-self.false));
    }
