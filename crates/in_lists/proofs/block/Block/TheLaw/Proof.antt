-- A `&` to a block shows each node that is written there.
use denote.RawPtr.{block_of, count_of}
use denote.Param.Shared.{copy_shared}
use denote.Struct.Field.{RawPtr-field}
use denote.Struct.Laws.{RawPtr-copy}
use denote.Struct.Lending.{of_Lends}
use Rattle.in_lists.specs.contracts.block.Block.{struct, the_codes, the_heap, the_lent, the_row}
use Rattle.in_lists.proofs.Memory.{shown_laws, laid_lends}
use Rattle.in_lists.proofs.block.Block.TheLaw.Statement.{statement}

pub shares : statement
shares = of_Lends struct the_codes the_heap the_lent (λ d _. shown_laws (block_of d.start) (count_of d.start) d.nodes)
    (copy_shared RawPtr-field RawPtr-copy, tt)
    (λ M 𝓤 𝓛 d _. laid_lends 𝓛 (block_of d.start) the_row.lives (count_of d.start) d.nodes d.more)
