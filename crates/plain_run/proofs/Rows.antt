-- What is counted of events.
use Rattle.std.specs.Prelude.{IfOk}
use Rattle.std.proofs.Common.{◌≡◌, Bool, Result, Ok, Err, List, [], ◌∷◌, ◌++◌, sym, subst, append_assoc}
use Rattle.std.proofs.lemmas.List.{append-nil}
use Rattle.probe_tools.specs.declared.tool.Tool.{Tool}
use Rattle.probe_tools.specs.declared.event.Event.{Event}
use Rattle.probe_tools.specs.Rows.{AreRows, Counts, key_of, with_more}
use Rattle.probe_tools.proofs.Counting.{rows_more}
use Rattle.plain_machine.specs.Machine.{State}
use Rattle.plain_machine.specs.Events.{events}
use Rattle.report.specs.Rows.{Rows}
use Rattle.engine.specs.Seeing.{counting, with_events}
use Rattle.plain_run.specs.Runs.{Counted}

rows-counting : (es before : List Event) (counts : Counts) → AreRows before counts → AreRows (before ++ es) (counting es counts)
rows-counting [] before counts are = rw (append-nil before) are
rows-counting (e ∷ es) before counts are =
    subst (λ xs. AreRows xs (counting es (with_more (key_of e) 1 counts))) (append_assoc before (e ∷ []) es)
    (rows-counting es (before ++ e ∷ []) (with_more (key_of e) 1 counts) (rows_more before e counts are))

pub counted-by : (tool : Tool) (marks : List (State × Bool)) (old new : Rows) → new ≡ with_events (events tool marks) old → Counted tool marks old.counts new.counts
counted-by tool marks old new is before are = subst (λ r. AreRows (before ++ events tool marks) r.counts) (sym is) (rows-counting (events tool marks) before old.counts are)

-- what is known of a result twice
pub both-ok : {A : Type 0} {E : Type 0} (r : Result A E) (P Q : A → Type 0) → IfOk r P → IfOk r Q → IfOk r (λ x. P x × Q x)
both-ok (Ok x) P Q p q = (p, q)
both-ok (Err e) P Q p q = tt
