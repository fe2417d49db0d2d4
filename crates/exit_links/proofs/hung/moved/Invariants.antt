use Rattle.std.proofs.Common.{◌≡◌, ℕ, cond, None, length}
use Rattle.std.specs.Prelude.{nat_lt}
use Rattle.exit_links.specs.Leads.{leads}
use Rattle.exit_links.proofs.hung.moved.Given as goal

abbrev pub invariant-loop-exit : goal.invariant-loop-exit
invariant-loop-exit l = record {
  leads : (x : ℕ) → leads l.new x ≡ cond (nat_lt x l.exit) (leads l.lists x) None;
  exits : l.new.exits ≡ l.exits;
  heads : length l.new.lists ≡ l.heads;
}
