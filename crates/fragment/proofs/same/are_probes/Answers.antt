use Rattle.std.proofs.Common.{◌≡◌, ◌<◌, Some, None, length, sym, ◌∙◌, arith}
use Rattle.fragment.specs.Probing.{probe_at}
use Rattle.fragment.proofs.Places.{before-none, front_more, front_stays, stands_there}
use Rattle.fragment.proofs.same.are_probes.Goals as goal
use Rattle.fragment.proofs.same.are_probes.Goals.{then-next-probes-via-then-next-probes, then-next-probes-via-else-next-probes+then-not-is_probe, in-Some+else-next-probes+else-not-is_probe, in_default}

pub loop-place-init : goal.loop-place-init
loop-place-init c = record { within = omega arith; same = sym (before-none c.args.tool c.args.isa c.args.words.now) }

pub returns-then-next-probes : goal.returns-then-next-probes
returns-then-next-probes c = (
  λ no. absurd (cc),
  λ all.
      let here : probe_at c.args.tool c.args.isa c.args.words.now c.loop-place.place ≡ Some c.in-Some.kind = cc in
      let stands = stands_there c.args.tool c.args.isa c.args.words.now c.loop-place.place c.in-Some.kind c.args.probes.now c.loop-place.next here (omega arith) (omega arith) c.loop-place.invariant.same all in
      absurd (elim c.then-next-probes.branch [
        | then-next-probes-via-then-next-probes w ↦ omega (arith, stands.within)
        | then-next-probes-via-else-next-probes+then-not-is_probe w ↦ let is = w.is_probe.ensures.1 (stands.here _) in cc
      ]),
)

pub loop-place-preserved : goal.loop-place-preserved
loop-place-preserved c =
    elim c.match-probe_for.branch [
      | in-Some+else-next-probes+else-not-is_probe w ↦
          let here : probe_at c.args.tool c.args.isa c.args.words.now c.loop-place.place ≡ Some w.in-Some.kind = cc in
          let more : c.loop-place.next < length c.args.probes.now = omega arith in
          rw w.next-is (record {
            within = omega arith;
            same = front_more c.args.tool c.args.isa c.args.words.now c.loop-place.place w.in-Some.kind c.args.probes.now c.loop-place.next _ here more
                (w.is_probe.ensures.0 w.if-not-is_probe.false) c.loop-place.invariant.same;
          })
      | in_default w ↦
          let none : probe_at c.args.tool c.args.isa c.args.words.now c.loop-place.place ≡ None = cc in
          rw w.next-is (record {
            within = omega arith;
            same = c.loop-place.invariant.same ∙ front_stays c.args.tool c.args.isa c.args.words.now c.loop-place.place none;
          })
    ]
