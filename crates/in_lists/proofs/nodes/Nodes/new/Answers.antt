use Rattle.std.proofs.Common.{◌≡◌, length, sym, ap, ◌∙◌, subst, arith}
use Rattle.in_lists.specs.Block.{put_at}
use Rattle.in_lists.specs.Nodes.{alone, AllAlone}
use Rattle.in_lists.proofs.Written.{put_longer, put_alone}
use Rattle.in_lists.proofs.nodes.Nodes.new.Goals as goal

pub loop-index-preserved : goal.loop-index-preserved
loop-index-preserved c =
    let ns = c.loop-index.block.nodes in let i = c.loop-index.index in let before = c.loop-index.invariant in
    let is : c.put.new.self.nodes ≡ put_at ns i (alone i) = c.put.ensures.nodes ∙ ap (put_at ns i) c.alone.ensures in record {
      written = ap length is ∙ put_longer ns i (alone i) (sym before.written);
      room = c.put.ensures.room ∙ before.room;
      start = c.put.ensures.start ∙ before.start;
      alone = subst AllAlone (sym is) (put_alone ns i (omega arith) before.alone);
    }
