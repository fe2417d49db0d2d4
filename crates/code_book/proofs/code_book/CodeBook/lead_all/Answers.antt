use Rattle.std.proofs.Common.{◌≡◌, ◌≤◌, ◌-◌, ◌∙◌, sym, ap, subst, arith, length, List, get_or}
use Rattle.std.specs.Prelude.{drop}
use Rattle.fragment.specs.Parts.{Parts}
use Rattle.code_book.specs.Whole.{region_of, with_links, with_exits}
use Rattle.code_book.specs.View.{ledger_of}
use Rattle.code_book.proofs.Blocks.{links-none, links-more, drop-end, is-next, split}
use Rattle.code_book.proofs.code_book.CodeBook.lead_all.Goals as goal

pub loop-left-init : goal.loop-left-init
loop-left-init c = record {
  led = sym (ap (λ (fs : List Parts). with_links c.args.unit.now.frags (drop (length fs) c.args.unit.now.frags) (ledger_of c.args.self.now)) c.blocks_of-blocks.ensures.blocks
      ∙ ap (λ fs. with_links c.args.unit.now.frags fs (ledger_of c.args.self.now)) (drop-end c.args.unit.now.frags) ∙ links-none c.args.unit.now.frags (ledger_of c.args.self.now));
  left = let same = ap length c.blocks_of-blocks.ensures.blocks in omega (arith, same);
}

pub lead_block-requires-clause-few : goal.lead_block-requires-clause-few
lead_block-requires-clause-few c =
    let same : c.index-blocks-left.result ≡ get_or c.args.unit.now.frags (c.loop-left.left - 1) c.index-blocks-left.result =
    c.index-blocks-left.is ∙ ap (λ (fs : List Parts). get_or fs (c.loop-left.left - 1) c.index-blocks-left.result) c.blocks_of-blocks.ensures.blocks in
    let next = is-next (region_of c.args.unit.now.image) c.args.unit.now.frags c.loop-left.left c.index-blocks-left.result c.blocks_of-blocks.ensures.inside c.loop-left-test.true c.loop-left.invariant.left same in
    subst (λ (f : Parts). length f.exits ≤ 2) (sym c.fragment.ensures) next.inside.1.exits

pub loop-left-preserved : goal.loop-left-preserved
loop-left-preserved c =
    let all = c.args.unit.now.frags in
    let same : c.index-blocks-left.result ≡ get_or all (c.loop-left.left - 1) c.index-blocks-left.result =
    c.index-blocks-left.is ∙ ap (λ (fs : List Parts). get_or fs (c.loop-left.left - 1) c.index-blocks-left.result) c.blocks_of-blocks.ensures.blocks in
    record {
      led = c.lead_block.ensures
          ∙ (λ i. with_exits all (c.fragment.ensures i) (c.loop-left.invariant.led i))
          ∙ links-more all c.index-blocks-left.result (drop c.loop-left.left all) (ledger_of c.args.self.now)
          ∙ ap (λ fs. with_links all fs (ledger_of c.args.self.now)) (sym (split all c.loop-left.left c.index-blocks-left.result c.loop-left-test.true c.loop-left.invariant.left same));
      left = let most = c.loop-left.invariant.left in omega (arith, most);
    }
