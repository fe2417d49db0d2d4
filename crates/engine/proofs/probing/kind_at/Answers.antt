use Rattle.std.proofs.Common.{◌≤◌, length, sym, ◌∙◌, arith}
use Rattle.probe_tools.specs.declared.probe.ProbeKind.TheVariants as kinds
use Rattle.fragment.specs.declared.Probe.{Probe}
use Rattle.engine.proofs.Probes.{kind-there, kind-elsewhere, kind-nowhere}
use Rattle.engine.proofs.probing.kind_at.Goals as goal

pub returns-then-from-place : goal.returns-then-from-place
returns-then-from-place c = λ tool isa words all at lt.
    let none : Probe = record { place = 0; kind = kinds.Block } in
    kind-there tool isa words c.args.probes.now c.args.place c.args.next none all lt at c.if-next-probes.true (sym c.from.ensures ∙ c.if-from-place.true)

pub returns-else-from-place : goal.returns-else-from-place
returns-else-from-place c = λ tool isa words all at lt.
    let none : Probe = record { place = 0; kind = kinds.Block } in
    kind-elsewhere tool isa words c.args.probes.now c.args.place c.args.next none all lt at (λ e. c.if-from-place.false (c.from.ensures ∙ e))

pub returns-else-next-probes : goal.returns-else-next-probes
returns-else-next-probes c = λ tool isa words all at lt.
    let past : length c.args.probes.now ≤ c.args.next = omega arith in
    kind-nowhere tool isa words c.args.probes.now c.args.place c.args.next all lt at past
