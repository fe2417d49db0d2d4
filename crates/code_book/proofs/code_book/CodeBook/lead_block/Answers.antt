use Rattle.std.proofs.Common.{◌∙◌}
use Rattle.block_ledger.specs.Ledger.{exit_at}
use Rattle.code_book.specs.Whole.{region_of, led_to}
use Rattle.code_book.specs.View.{ledger_of}
use Rattle.code_book.proofs.Blocks.{two-exits}
use Rattle.code_book.proofs.code_book.CodeBook.lead_block.Goals as goal

pub returns : goal.returns
returns c =
    c.lead-2.ensures
    ∙ (λ i. led_to (exit_at (c.addr-2.ensures i) 0) (c.target_of-2.ensures i) ((c.lead.ensures ∙ (λ j. led_to (exit_at (c.addr.ensures j) 1) (c.target_of.ensures j) (ledger_of c.args.self.now))) i))
    ∙ two-exits (region_of c.args.unit.now.image) 0 c.args.unit.now.frags c.requires.inside c.args.block.now (ledger_of c.args.self.now) c.requires.few
