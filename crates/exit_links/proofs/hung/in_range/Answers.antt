use Rattle.exit_links.proofs.Leading.{in-led, head-within}
use Rattle.exit_links.proofs.hung.in_range.Goals as goal

pub returns : goal.returns
returns c = λ x q led.
    let v = c.args.lists.now in let kept = c.each_in_one_list.ensures in
    let inside = in-led v kept x q led in (kept.in_range x q inside, head-within v x q inside)
