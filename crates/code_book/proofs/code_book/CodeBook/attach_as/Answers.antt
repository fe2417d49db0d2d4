use Rattle.std.proofs.Common.{◌≡◌, ◌∙◌, ap}
use Rattle.std.specs.FinMap as fin
use Rattle.block_ledger.specs.Ledger.{Ledger, is_live, only}
use Rattle.merge_pass.specs.Segments.{segment_for}
use Rattle.code_book.specs.Book.{ledger, outside}
use Rattle.code_book.specs.View.{book_of, ledger_of}
use Rattle.code_book.specs.Whole.{region_of, with_blocks, with_links}
use Rattle.code_book.proofs.Blocks.{blocks-live, clear-of, attached-is, undone}
use Rattle.code_book.proofs.code_book.CodeBook.attach_as.Goals as goal

pub returns-in-Err-clause-err : goal.returns-in-Err-clause-err
returns-in-Err-clause-err c =
    let unit = c.args.unit.now in
    let came : ledger_of c.place_all.new.self ≡ with_blocks unit.frags (ledger_of c.args.self.now) =
    c.in_ok-place_all.ensures.ok ∙ ap (λ fs. with_blocks fs (ledger_of c.args.self.now)) c.blocks_of.ensures.blocks in
    c.withdraw_region.ensures
    ∙ (λ i. only (outside (c.region_of-region.ensures i)) (ledger (record (book_of c.place_all.new.self) { segments = c.in-Err.ensures.err i })))
    ∙ ap (only (outside (region_of unit.image))) came
    ∙ undone (book_of c.args.self.now) c.args.self.now.kept (region_of unit.image) unit.frags (record { least = 0; rest = c.blocks_of.ensures.inside }) (clear-of unit.image (ledger_of c.args.self.now) c.requires.clear)

pub lead_all-requires : goal.lead_all-requires
lead_all-requires c =
    let unit = c.args.unit.now in
    let came : ledger_of c.place_all.new.self ≡ with_blocks unit.frags (ledger_of c.args.self.now) =
    c.in_ok-place_all.ensures.ok ∙ ap (λ fs. with_blocks fs (ledger_of c.args.self.now)) c.blocks_of.ensures.blocks in
    record { live = λ a is. ap (λ led. is_live led a) came ∙ blocks-live unit.frags (ledger_of c.args.self.now) a is }

pub returns-clause-ok : goal.returns-clause-ok
returns-clause-ok c =
    let unit = c.args.unit.now in
    let came : ledger_of c.place_all.new.self ≡ with_blocks unit.frags (ledger_of c.args.self.now) =
    c.in_ok-place_all.ensures.ok ∙ ap (λ fs. with_blocks fs (ledger_of c.args.self.now)) c.blocks_of.ensures.blocks in
    let segments : c.insert.new.self ≡ fin.insert (ledger_of c.args.self.now).segments c.args.number (segment_for unit) =
    c.in_default.ensures.ok ∙ (λ i. fin.insert ((ap (λ (led : Ledger). led.segments) came) i) c.args.number (c.requires.segment i)) in
    c.lead_all.ensures
    ∙ (λ i. let led : Ledger = came i in with_links unit.frags unit.frags (record led { segments = segments i }))
    ∙ attached-is (region_of unit.image) unit c.blocks_of.ensures.inside c.args.number (ledger_of c.args.self.now)
