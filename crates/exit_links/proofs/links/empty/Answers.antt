use Rattle.std.proofs.Common.{◌+◌, ◌∙◌, ap, refl, arith}
use Rattle.std.specs.FinMap.{len}
use Rattle.exit_links.proofs.Pairs.{empties-first, empties-next, empties-last, len-taken, pairs-same}
use Rattle.exit_links.proofs.links.empty.Goals as goal

pub loop-exit-init : goal.loop-exit-init
loop-exit-init g c = record { emptied = empties-first c.args.lists.now c.args.to; exits = refl; heads = refl; steps = refl }

pub loop-exit-smaller : goal.loop-exit-smaller
loop-exit-smaller g c = let one = len-taken c.loop-exit.lists c.take_to.new.lists c.in-Some._exit c.args.to c.in-Some.ensures.led c.in-Some.ensures.leads in omega (arith, one)

pub loop-exit-preserved : goal.loop-exit-preserved
loop-exit-preserved g c =
    let before = c.loop-exit.invariant in
    let one = len-taken c.loop-exit.lists c.take_to.new.lists c.in-Some._exit c.args.to c.in-Some.ensures.led c.in-Some.ensures.leads in record {
      emptied = empties-next c.args.lists.now c.loop-exit.lists c.take_to.new.lists c.args.to c.in-Some._exit before.emptied c.in-Some.ensures.led c.in-Some.ensures.leads;
      exits = c.take_to.ensures.exits ∙ before.exits;
      heads = c.take_to.ensures.heads ∙ before.heads;
      steps = omega (arith, one, before.steps, c.tick.ensures);
    }

pub returns-clause-others : goal.returns-clause-others
returns-clause-others g c = (empties-last c.args.lists.now c.loop-exit.lists c.take_to.new.lists c.args.to c.loop-exit.invariant.emptied c.in_default.ensures.none c.in_default.ensures.kept).0

pub returns-clause-gone : goal.returns-clause-gone
returns-clause-gone g c = (empties-last c.args.lists.now c.loop-exit.lists c.take_to.new.lists c.args.to c.loop-exit.invariant.emptied c.in_default.ensures.none c.in_default.ensures.kept).1

pub returns-clause-steps : goal.returns-clause-steps
returns-clause-steps g c = ap (λ m. c.loop-exit.steps + len m) (pairs-same c.loop-exit.lists c.take_to.new.lists c.in_default.ensures.kept) ∙ c.loop-exit.invariant.steps
