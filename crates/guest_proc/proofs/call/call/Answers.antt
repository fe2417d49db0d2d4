use Rattle.guest_proc.proofs.Calling.{call-done}
use Rattle.guest_proc.proofs.call.call.Goals as goal

pub returns : goal.returns
returns g c = record {
  done = λ fuel report.
      call-done c.args.cpu.now c.ask.new.cpu c.args.mem.now c.ask.new.mem c.args.io.now c.ask.new.io fuel report (g.B.Book.ledger c.args.book.now) (g.B.Book.ledger c.tell.new.book) c.in_ok-asked.asked c.stop_for.result
      c.code_at.ensures.memory c.requires.inert c.requires.aligned c.in_ok-asked.ensures.called c.tell.ensures c.stop_for.ensures;
}
