use Rattle.std.proofs.Common.{length, sym, ◌∙◌, arith, ap, Some}
use Rattle.in_lists.specs.Lists.{Incoming}
use Rattle.exit_links.specs.Leads.{leads}
use Rattle.exit_links.proofs.Leading.{below-none, below-more, below-same, below-all, free-there, not_cut}
use Rattle.exit_links.proofs.hung.moved.Goals.{in-Some, in_default}
use Rattle.exit_links.proofs.hung.moved.Goals as goal

pub loop-exit-init : goal.loop-exit-init
loop-exit-init c = record { leads = below-none c.args.lists.now c.in_ok-new.new c.in_ok-new.ensures.leads; exits = c.in_ok-new.ensures.exits; heads = c.in_ok-new.ensures.heads }

pub hang-requires-clause-free : goal.hang-requires-clause-free
hang-requires-clause-free c = free-there c.args.lists.now c.loop-exit.new c.loop-exit.exit c.loop-exit.invariant.leads

pub hang-requires-clause-exit : goal.hang-requires-clause-exit
hang-requires-clause-exit c = let fit = c.requires.fits c.loop-exit.exit c.in-Some.to (sym c.target.ensures ∙ c.in-Some.is) in omega (arith, fit.0, c.loop-exit.invariant.exits)

pub hang-requires-clause-to : goal.hang-requires-clause-to
hang-requires-clause-to c = let fit = c.requires.fits c.loop-exit.exit c.in-Some.to (sym c.target.ensures ∙ c.in-Some.is) in omega (arith, fit.1, c.loop-exit.invariant.heads)

pub loop-exit-preserved : goal.loop-exit-preserved
loop-exit-preserved c =
    let v = c.args.lists.now in let n = c.loop-exit.new in let e = c.loop-exit.exit in let before = c.loop-exit.invariant in
    elim c.match-target.branch [
      | in-Some w ↦ record {
        leads = below-more v n e (Some w.in-Some.to) (sym c.target.ensures ∙ w.in-Some.is) (leads c.match-target.new) before.leads (λ x. ap (λ u. leads u x) w.new-is ∙ w.hang.ensures.leads x);
        exits = ap (λ (u : Incoming). u.exits) w.new-is ∙ w.hang.ensures.exits ∙ before.exits;
        heads = ap (λ (u : Incoming). length u.lists) w.new-is ∙ w.hang.ensures.heads ∙ before.heads;
      }
      | in_default w ↦ record {
        leads = λ x. ap (λ u. leads u x) w.new-is ∙ below-same v n e (sym c.target.ensures ∙ w.in_default.is) before.leads x;
        exits = ap (λ (u : Incoming). u.exits) w.new-is ∙ before.exits;
        heads = ap (λ (u : Incoming). length u.lists) w.new-is ∙ before.heads;
      }
    ]

pub returns-clause-leads : goal.returns-clause-leads
returns-clause-leads c =
    let v = c.args.lists.now in
    below-all v c.loop-exit.new c.loop-exit.exit (λ x past. not_cut (leads v x) (λ q led.
    let here = c.in_range.ensures x q led in let there = c.requires.fits x q led in absurd (omega (arith, here.0, there.0, past, c.requires.old, c.loop-exit-test.false, c.min-exit-end.ensures)))) c.loop-exit.invariant.leads
