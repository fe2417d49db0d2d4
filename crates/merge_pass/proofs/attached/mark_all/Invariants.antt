use Rattle.std.proofs.Common.{◌≡◌}
use Rattle.std.specs.Prelude.{drop}
use Rattle.std.specs.FinSet as set
use Rattle.merge_pass.proofs.Marking.{add_all}
use Rattle.merge_pass.proofs.attached.mark_all.Given as goal

abbrev pub invariant-loop-i : goal.invariant-loop-i
invariant-loop-i l = add_all (set.from_list l.marks.keys) (drop l.i l.fn.addrs) ≡ add_all (set.from_list l.initial.marks.keys) l.fn.addrs
