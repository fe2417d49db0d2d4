use Rattle.std.proofs.Common.{◌≡◌, ◌+◌, ap, ℕ, arith}
use Rattle.std.proofs.lemmas.Result.{err_from_is_err_and}
use Rattle.unit_set.specs.Raw.{Tied}
use Rattle.unit_format.specs.Steps.{each}
use Rattle.unit_format.specs.Text.{code}
use Rattle.unit_format.specs.Reading.{turn_at, next_turn}
use Rattle.unit_format.proofs.Loop.{steps_on, stops, runs_out}
use Rattle.unit_format.proofs.fragments.fragments_in.Goals as goal

pub returns-in_err-fragment : goal.returns-in_err-fragment
returns-in_err-fragment c =
    let p = err_from_is_err_and c.from_residual.result c.from_residual.ensures.1 in
    rw (p.1, p.2) (stops (turn_at c.args.version (code c.args.start c.args.content.now)) next_turn c.in_err-fragment.field-0.0 (c.loop-number.number, c.loop-number.least) c.loop-number.fragments.items c.args.count c.loop-number.number c.loop-number.rest.now (each (turn_at c.args.version (code c.args.start c.args.content.now)) next_turn (0, 0) c.args.count c.args.bytes.now) c.loop-number-test.true c.in_err-fragment.ensures c.loop-number.invariant)

pub loop-number-preserved : goal.loop-number-preserved
loop-number-preserved c =
    let to : c.in_ok-fragment.fragment.frag.address + 1 ≡ c.from-least.result + 1 = let seen = ap (λ (t : Tied). t.frag.address) c.fragment.view_is in omega (arith, seen, c.from-least.ensures, c.addr.ensures) in
    let turn : next_turn (c.loop-number.number, c.loop-number.least) c.in_ok-fragment.fragment ≡ (c.loop-number.number + 1, c.from-least.result + 1) = ap (λ (x : ℕ). (c.loop-number.number + 1, x)) to in
    rw c.in_ok-push.ensures.items (steps_on (turn_at c.args.version (code c.args.start c.args.content.now)) next_turn (c.loop-number.number, c.loop-number.least) (c.loop-number.number + 1, c.from-least.result + 1) c.loop-number.fragments.items c.args.count c.loop-number.number c.loop-number.rest.now c.in_ok-fragment.fragment c.in_ok-fragment.after.now
    (each (turn_at c.args.version (code c.args.start c.args.content.now)) next_turn (0, 0) c.args.count c.args.bytes.now) c.loop-number-test.true c.in_ok-fragment.ensures turn c.loop-number.invariant)

pub returns : goal.returns
returns c = runs_out (turn_at c.args.version (code c.args.start c.args.content.now)) next_turn (c.loop-number.number, c.loop-number.least) c.loop-number.fragments.items c.args.count c.loop-number.number c.loop-number.rest.now (each (turn_at c.args.version (code c.args.start c.args.content.now)) next_turn (0, 0) c.args.count c.args.bytes.now) c.loop-number-test.false c.loop-number.invariant
