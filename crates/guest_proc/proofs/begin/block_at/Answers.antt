use Rattle.guest_proc.proofs.Beginning.{block-short, block-there, built-there, code-there}
use Rattle.guest_proc.proofs.begin.block_at.Goals as goal

pub unreachable-requires : goal.unreachable-requires
unreachable-requires g c = code-there c.args.cpu.now c.args.mem.now c.requires.fetched c.in_default.ensures.shown

pub unreachable-requires-in_default-2 : goal.unreachable-requires-in_default-2
unreachable-requires-in_default-2 g c =
    block-there c.args.cpu.now c.args.mem.now c.in-Some.code c.args.tool c.args.max c.in_ok-block.field-0 c.requires.fetched c.in-Some.ensures.memory c.requires.aligned c.in-Some.ensures.shown c.in_ok-block.ensures.built c.in_default-2.is

pub returns-clause-short : goal.returns-clause-short
returns-clause-short g c =
    let there = built-there c.args.cpu.now c.args.mem.now c.in-Some.code c.args.tool c.args.max c.in_ok-block.field-0 c.in-Some-2.block c.in-Some.ensures.shown c.in_ok-block.ensures.built c.in-Some-2.is in
    block-short c.args.tool c.args.max c.args.cpu.now.isa c.args.mem.now c.args.cpu.now.pc c.in-Some-2.block c.requires.some c.requires.most c.in-Some.ensures.memory there
