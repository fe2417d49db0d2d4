use Rattle.std.proofs.Common.{◌≡◌, ◌+◌, ◌≤◌, length}
use Rattle.elf_map.specs.Elf.{headers}
use Rattle.elf_map.proofs.RuleLemmas.{code_count}
use Rattle.elf_map.proofs.checks.check_count.Given as goal

abbrev pub invariant-loop-header : goal.invariant-loop-header
invariant-loop-header l =
    (l.count + code_count l.file l.header-iterator ≡ code_count l.file (headers l.file)) × (l.count + length l.header-iterator ≤ 64)
