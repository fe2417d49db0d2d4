use Rattle.std.proofs.Common.{◌+◌, ◌∙◌, refl}
use Rattle.elf_map.proofs.NumberLemmas.{little_number-part}
use Rattle.elf_map.proofs.header.u16_at.Goals as goal

pub returns : goal.returns
returns c = c.read_u16.ensures ∙ little_number-part 2 c.args.at (c.args.at + 2) c.args.bytes.now refl c.requires
