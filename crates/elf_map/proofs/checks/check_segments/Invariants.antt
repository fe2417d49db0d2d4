use Rattle.std.proofs.Common.{◌≡◌, ◌+◌, ◌≤◌, length}
use Rattle.std.specs.List.{list_all}
use Rattle.elf_map.specs.Elf.{headers, segment_rules, is_sound, first_failing}
use Rattle.elf_map.proofs.checks.check_segments.Given as goal

abbrev pub invariant-loop-header : goal.invariant-loop-header
invariant-loop-header l =
    (first_failing (segment_rules (length l.file) l.i l.header-iterator) ≡ first_failing (segment_rules (length l.file) 0 (headers l.file)))
    × (list_all (is_sound (length l.file)) l.header-iterator ≡ list_all (is_sound (length l.file)) (headers l.file))
    × (l.i + length l.header-iterator ≤ 64)
