use Rattle.std.proofs.Common.{◌≡◌, ◌++◌, length, true}
use Rattle.std.specs.List.{list_all}
use Rattle.elf_map.specs.Elf.{headers, is_sound, segments_of}
use Rattle.elf_map.proofs.elf.segments_in.Given as goal

abbrev pub invariant-loop-header : goal.invariant-loop-header
invariant-loop-header l =
    (l.segments.items ++ segments_of l.file l.header-iterator ≡ segments_of l.file (headers l.file))
    × (list_all (is_sound (length l.file)) l.header-iterator ≡ true)
