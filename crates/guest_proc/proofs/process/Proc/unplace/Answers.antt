use Rattle.std.proofs.Common.{◌≡◌, subst, sym}
use Rattle.block_ledger.specs.Ledger.{unmapped}
use Rattle.block_ledger.specs.Traced.{codes_of}
use Rattle.guest_proc.specs.Kept.{IsReady, process_of, scheme_of}
use Rattle.guest_proc.specs.Maps.{put_to, unplaced_state}
use Rattle.guest_proc.specs.Process.{Process}
use Rattle.guest_proc.proofs.Going.{gone-so, ready-unplaced}
use Rattle.guest_proc.proofs.process.Proc.unplace.Goals as goal

pub invariant_of-self : goal.invariant_of-self
invariant_of-self g c =
    let old : Process = process_of c.args.self.now.at (g.B.Book.ledger c.args.self.now.book) in
    record {
      ready = λ e. subst (IsReady (scheme_of c.args.self.now.at c.args.self.now.limits))
          (sym (gone-so old c.args.module c.args.elf.now c.args.base c.unplace.new.mem c.mark_unmapped.new.self (g.B.Book.ledger c.unmap.new.book) c.unplace.ensures c.mark_unmapped.ensures c.unmap.ensures))
          (ready-unplaced (scheme_of c.args.self.now.at c.args.self.now.limits) old c.args.module c.args.elf.now c.args.base c.code_at.ensures.memory c.requires.placed (c.args.self.now.ready e));
    }

pub returns-clause-becomes : goal.returns-clause-becomes
returns-clause-becomes g c =
    gone-so (process_of c.args.self.now.at (g.B.Book.ledger c.args.self.now.book)) c.args.module c.args.elf.now c.args.base c.unplace.new.mem c.mark_unmapped.new.self (g.B.Book.ledger c.unmap.new.book) c.unplace.ensures c.mark_unmapped.ensures c.unmap.ensures
