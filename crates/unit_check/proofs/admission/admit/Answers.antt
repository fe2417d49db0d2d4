use Rattle.std.proofs.Common.{ap, sym, ◌∙◌}
use Rattle.unit_check.specs.Admission.{addresses_in}
use Rattle.unit_check.proofs.Admitting.{fresh_all, links_all, rising, link_each, same_addresses, is_held, is_admitted}
use Rattle.unit_check.proofs.admission.admit.Goals as goal

pub first_bad-requires-clause-rises : goal.first_bad-requires-clause-rises
first_bad-requires-clause-rises c = rw (c.deref.ensures.value, c.in_ok-addrs.ensures, c.frags-2.ensures) (rising c.args.raw.image 0 c.args.raw.frags c.requires.1.fragments)

pub first_bad-requires-clause-each : goal.first_bad-requires-clause-each
first_bad-requires-clause-each c = rw c.frags-3.ensures (link_each c.args.raw.image 0 c.args.raw.frags c.requires.1.fragments)

pub unit_of-requires-clause-addresses : goal.unit_of-requires-clause-addresses
unit_of-requires-clause-addresses c = c.in_ok-addrs.ensures ∙ ap addresses_in c.frags-2.ensures ∙ sym (same_addresses c.args.raw.frags)

pub unit_of-requires-clause-held : goal.unit_of-requires-clause-held
unit_of-requires-clause-held c =
    is_held c.requires.0 c.args.raw c.requires.1 (fresh_all c.args.raw.slot c.slot-2.result.now c.args.raw.image c.image.result.now c.args.raw.frags c.frags.result.now c.first_stale.result c.in_default.is c.slot-2.ensures c.image.ensures c.frags.ensures c.first_stale.ensures)

pub returns : goal.returns
returns c =
    is_admitted c.requires.0 c.args.raw c.args.slot.now c.in_ok-unit_of.field-0 c.requires.1 (sym c.slot.ensures ∙ c.is.ensures.0 c.if-not-is.false)
    (fresh_all c.args.raw.slot c.slot-2.result.now c.args.raw.image c.image.result.now c.args.raw.frags c.frags.result.now c.first_stale.result c.in_default.is c.slot-2.ensures c.image.ensures c.frags.ensures c.first_stale.ensures)
    (links_all c.deref.result.now c.args.raw.frags c.frags-3.result.now (c.deref.ensures.value ∙ c.in_ok-addrs.ensures ∙ ap addresses_in c.frags-2.ensures) c.frags-3.ensures c.in_default-first_bad.ensures)
    c.in_ok-unit_of.ensures
