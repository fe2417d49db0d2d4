use Rattle.std.proofs.Common.{◌≡◌, ℕ, Some, ap, subst, sym, ◌∙◌}
use Rattle.std.specs.FinMap as fin
use Rattle.std.specs.List.{All}
use Rattle.fragment.specs.Build.{IsFresh}
use Rattle.unit_set.specs.Held.{addresses}
use Rattle.unit_set.specs.Sets.{IsRising}
use Rattle.block_ledger.specs.Ledger.{Segment, segment_of}
use Rattle.guest_proc.specs.Kept.{IsReady, process_of, scheme_of}
use Rattle.guest_proc.proofs.Attaching.{ready-offered}
use Rattle.guest_proc.proofs.Offered.{candidates-offered, some-segment}
use Rattle.guest_proc.proofs.process.Proc.offer.Goals as goal

pub invariant_of-self-2 : goal.invariant_of-self-2
invariant_of-self-2 g c = record {
  ready = λ e. subst (λ l. IsReady (scheme_of c.args.self.now.at c.args.self.now.limits) (process_of c.args.self.now.at l)) (sym c.in_ok-blocks.ensures.ok)
      (ready-offered (scheme_of c.args.self.now.at c.args.self.now.limits) (process_of c.args.self.now.at (g.B.Book.ledger c.args.self.now.book)) c.segment_of.result (c.args.self.now.ready c.if-self.false));
}

pub returns-clause-addresses : goal.returns-clause-addresses
returns-clause-addresses g c s got =
    let is : fin.get (g.B.Book.ledger c.args.self.now.book).segments c.segment_of.result ≡ Some s = ap (fin.get (g.B.Book.ledger c.args.self.now.book).segments) c.segment_of.ensures ∙ got in
    let all = candidates-offered (scheme_of c.args.self.now.at c.args.self.now.limits) (process_of c.args.self.now.at (g.B.Book.ledger c.args.self.now.book)) c.segment_of.result s c.args.self.now.limits.some c.code_at.ensures.memory (c.args.self.now.ready c.if-self.false) c.in_ok-blocks.ensures.own is in
    ap addresses (c.in_ok-blocks.ensures.blocks s is) ∙ all.keys

pub returns-clause-rises : goal.returns-clause-rises
returns-clause-rises g c =
    let one = some-segment (fin.get (g.B.Book.ledger c.args.self.now.book).segments (segment_of c.args.module c.args.seg)) c.requires.attached in
    let is : fin.get (g.B.Book.ledger c.args.self.now.book).segments c.segment_of.result ≡ Some one.0 = ap (fin.get (g.B.Book.ledger c.args.self.now.book).segments) c.segment_of.ensures ∙ one.1 in
    let all = candidates-offered (scheme_of c.args.self.now.at c.args.self.now.limits) (process_of c.args.self.now.at (g.B.Book.ledger c.args.self.now.book)) c.segment_of.result one.0 c.args.self.now.limits.some c.code_at.ensures.memory (c.args.self.now.ready c.if-self.false) c.in_ok-blocks.ensures.own is in
    subst IsRising (sym (ap addresses (c.in_ok-blocks.ensures.blocks one.0 is))) all.rises

pub returns-clause-fresh : goal.returns-clause-fresh
returns-clause-fresh g c s got =
    let is : fin.get (g.B.Book.ledger c.args.self.now.book).segments c.segment_of.result ≡ Some s = ap (fin.get (g.B.Book.ledger c.args.self.now.book).segments) c.segment_of.ensures ∙ got in
    let all = candidates-offered (scheme_of c.args.self.now.at c.args.self.now.limits) (process_of c.args.self.now.at (g.B.Book.ledger c.args.self.now.book)) c.segment_of.result s c.args.self.now.limits.some c.code_at.ensures.memory (c.args.self.now.ready c.if-self.false) c.in_ok-blocks.ensures.own is in
    subst (All (IsFresh s.image c.args.self.now.at.cpu.isa c.args.self.now.at.report.tool c.args.self.now.limits.max)) (sym (c.in_ok-blocks.ensures.blocks s is)) all.fresh
