use Rattle.std.proofs.Common.{◌≡◌, true, ap, subst}
use Rattle.journal_text.specs.Shut.{shelf_failed}
use Rattle.whole_run.specs.Shelf.{seen_of as shelf_seen}
use Rattle.host.specs.Answer.{Lists, job_in}
use Rattle.host.specs.Prepared.{plan_in}
use Rattle.host.proofs.Faulty.{failed_is_caused}
use Rattle.host.proofs.top.work.Goals as goal

pub returns-clause-done : goal.returns-clause-done
returns-clause-done g c =
    let r = c.in_ok-run.ensures.run in
    record {
      plan = plan_in c.in_ok-prepared.prepared;
      comes = c.in_ok-prepared.ensures.done;
      whole = r.whole;
      runs = r.runs;
      lists_are = r.lists_are;
      printed = r.printed;
      caused = λ slot failed. failed_is_caused (job_in (plan_in c.in_ok-prepared.prepared)) (shelf_seen g.H.Shelf.told g.H.Shelf.faults c.args.shelf.now c.run.new.shelf) r.whole slot r.runs
          (subst (λ (x : Lists). shelf_failed x.loads x.served slot ≡ true) r.lists_are failed);
    }
