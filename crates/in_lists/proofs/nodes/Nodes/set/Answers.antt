use Rattle.std.proofs.Common.{◌≡◌, ◌<◌, List, length, set, sym, ap, ◌∙◌, subst, length-set}
use Rattle.in_lists.specs.declared.node.Node.{Node}
use Rattle.in_lists.proofs.Written.{put_within}
use Rattle.in_lists.proofs.nodes.Nodes.set.Goals as goal

over : (c : goal.After-put) → c.put.new.self.nodes ≡ set c.self.inside.block.nodes c.args.index c.args.node
over c = c.put.ensures.nodes ∙ put_within c.self.inside.block.nodes c.args.index c.args.node (subst (λ (ns : List Node). c.args.index < length ns) (sym c.self.view_is) c.requires)

pub invariant_of-self : goal.invariant_of-self
invariant_of-self c =
    let full = c.self.invariant in record {
      written = ap length (over c) ∙ length-set c.self.inside.block.nodes c.args.index c.args.node ∙ full.written;
      start = full.start ∙ sym c.put.ensures.start;
      len = full.len;
      alloc = full.alloc;
    }

pub returns : goal.returns
returns c = over c ∙ ap (λ (ns : List Node). set ns c.args.index c.args.node) c.self.view_is
