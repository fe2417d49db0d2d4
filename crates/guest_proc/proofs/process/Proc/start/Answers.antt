use Rattle.std.proofs.Common.{◌≡◌, ◌∙◌, ap}
use Rattle.guest_proc.specs.Kept.{process_of, scheme_of}
use Rattle.guest_proc.proofs.Starting.{first-ready}
use Rattle.guest_proc.proofs.process.Proc.start.Goals as goal

pub invariant_of-result : goal.invariant_of-result
invariant_of-result g c = record {
  ready = λ e. first-ready (record { tool = c.in_ok-at.at.report.tool; max = c.args.setup.max; pool = c.args.setup.pool }) c.args.setup (process_of c.in_ok-at.at (g.B.Book.ledger c.args.book)) (ap (process_of c.in_ok-at.at) c.requires.new ∙ c.in_ok-at.ensures);
}
