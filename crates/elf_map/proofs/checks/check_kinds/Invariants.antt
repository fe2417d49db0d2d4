use Rattle.std.proofs.Common.{◌≡◌}
use Rattle.std.specs.List.{flat_map}
use Rattle.elf_map.specs.Elf.{headers, kind_rules, first_failing}
use Rattle.elf_map.proofs.checks.check_kinds.Given as goal

abbrev pub invariant-loop-header : goal.invariant-loop-header
invariant-loop-header l = first_failing (flat_map kind_rules l.header-iterator) ≡ first_failing (flat_map kind_rules (headers l.file))
