use Rattle.std.proofs.Common.{◌≡◌, Some, None, sym, ◌∙◌, arith}
use Rattle.fragment.specs.Probing.{probe_at}
use Rattle.fragment.proofs.Places.{before_more_some, front_stays}
use Rattle.block_build.proofs.Ranges.{none_before, none_behind}
use Rattle.block_build.proofs.builder.probes_of.Goals as goal
use Rattle.block_build.proofs.builder.probes_of.Goals.{in-Some+in_ok-push, in_default}

pub loop-place-init : goal.loop-place-init
loop-place-init c = c.in_ok-probes.ensures ∙ sym (none_before c.args.tool c.args.isa c.args.words.now c.places-from.result.0 c.places-from.result.1 c.places-from.ensures c.places-from.result.0 (omega arith))

pub loop-place-preserved : goal.loop-place-preserved
loop-place-preserved c = elim c.match-probe_for.branch [
  | in-Some+in_ok-push w ↦
      let here : probe_at c.args.tool c.args.isa c.args.words.now c.loop-place.place ≡ Some w.in-Some.kind = cc in
      rw (w.probes-is, w.in_ok-push.ensures.items) (rw c.loop-place.invariant (sym (before_more_some c.args.tool c.args.isa c.args.words.now c.loop-place.place w.in-Some.kind here)))
  | in_default w ↦
      let none : probe_at c.args.tool c.args.isa c.args.words.now c.loop-place.place ≡ None = cc in
      rw w.probes-is (c.loop-place.invariant ∙ front_stays c.args.tool c.args.isa c.args.words.now c.loop-place.place none)
]

pub returns : goal.returns
returns c =
    let end : c.loop-place.place ≡ c.places-from.result.1 = omega (arith, c.places-from.ensures.within) in
    rw end at c.loop-place.invariant ∙ none_behind c.args.tool c.args.isa c.args.words.now c.places-from.result.0 c.places-from.result.1 c.places-from.ensures
