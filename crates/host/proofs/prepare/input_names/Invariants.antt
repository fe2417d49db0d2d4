use Rattle.std.proofs.Common.{◌≡◌, ◌++◌, All, drop, true}
use Rattle.manifest.specs.Names.{is_file_name}
use Rattle.host.specs.Outcome.{input_names}
use Rattle.host.proofs.prepare.input_names.Given as goal

abbrev pub invariant-loop-guest : goal.invariant-loop-guest
invariant-loop-guest l = record {
  names : l.names.items ++ input_names (drop l.guest-index l.guests) ≡ input_names l.guests;
  spelled : All (λ n. is_file_name n ≡ true) l.names.items;
}
