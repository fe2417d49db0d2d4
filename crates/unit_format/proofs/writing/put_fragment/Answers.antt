use Rattle.std.proofs.Common.{arith, ap, length}
use Rattle.unit_format.proofs.Sizes.{fragment_size, probes_text_size}
use Rattle.unit_format.proofs.writing.put_fragment.Goals as goal

pub put_probes-requires : goal.put_probes-requires
put_probes-requires c =
    omega (arith, c.requires.room, fragment_size c.args.u.now.frags c.args.f.now, ap length c.probes-probes.ensures, c.put_u32.ensures.1, c.put_u32.ensures.2, c.put_count.ensures.1, c.put_count.ensures.2, c.put_count-2.ensures.1, c.put_count-2.ensures.2)

pub put_outs-requires : goal.put_outs-requires
put_outs-requires c =
    omega (arith, c.requires.room, fragment_size c.args.u.now.frags c.args.f.now, ap length c.probes-probes.ensures, ap length c.exits-exits.ensures, probes_text_size c.probes-probes.result.now, c.put_u32.ensures.1, c.put_u32.ensures.2, c.put_count.ensures.1, c.put_count.ensures.2, c.put_count-2.ensures.1, c.put_count-2.ensures.2, c.put_probes.ensures.1, c.put_probes.ensures.2, c.put_byte.ensures.1, c.put_byte.ensures.2)
