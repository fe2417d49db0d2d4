use Rattle.std.proofs.Common.{◌≡◌, ◌≤◌, ◌+◌, ◌*◌, ◌++◌, take}
use Rattle.std.specs.Prelude.{vec_len, vec_capacity}
use Rattle.std.specs.List.{flat_map}
use Rattle.unit_set.specs.Held.{link_in}
use Rattle.unit_format.specs.Text.{out_text}
use Rattle.unit_format.specs.Units.{link_number}
use Rattle.unit_format.proofs.writing.put_outs.Given as goal

abbrev pub invariant-loop-exit : goal.invariant-loop-exit
invariant-loop-exit l = (l.out.items ≡ l.fn.out.items ++ flat_map (λ e. out_text (e, link_number (link_in l.u.frags e))) (take l.exit-index l.exits)) × (vec_len l.out ≡ vec_len l.fn.out + 9 * l.exit-index) × (vec_capacity l.fn.out ≤ vec_capacity l.out)
