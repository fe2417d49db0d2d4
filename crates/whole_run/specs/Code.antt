-- A whole run is stored as its parts.
use Rattle.std.specs.Prelude.{List, refl}
use Rattle.std.specs.Coded.{Coded, code_by, coded×, coded_list}
use Rattle.publish.specs.declared.outcome.Loaded.{Loaded}
use Rattle.publish.specs.declared.outcome.Pub.{Pub}
use Rattle.publish.specs.contracts.outcome.Loaded as loads
use Rattle.publish.specs.contracts.outcome.Pub as pubs
use Rattle.registry.specs.declared.entry.Entry.{Entry}
use Rattle.registry.specs.contracts.entry.Entry as entries
use Rattle.guest_loop.specs.declared.guest.Ran.{Ran}
use Rattle.guest_loop.specs.contracts.guest.Ran as rans
use Rattle.whole_run.specs.Whole.{Whole}

abbrev pub whole_code : Coded Whole
whole_code = code_by (List Loaded × (List Ran × (List Entry × List Pub)))
    (coded× (coded_list loads.the_row.coded) (coded× (coded_list rans.the_row.coded) (coded× (coded_list entries.the_row.coded) (coded_list pubs.the_row.coded))))
    (λ w. (w.loads, (w.rans, (w.journal, w.served)))) (λ p. record { loads = p.0; rans = p.1.0; journal = p.1.1.0; served = p.1.1.1 }) (λ _. refl)
