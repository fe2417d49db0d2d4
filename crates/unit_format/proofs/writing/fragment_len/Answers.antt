use Rattle.std.proofs.Common.{sym}
use Rattle.unit_format.proofs.Sizes.{fragment_size}
use Rattle.unit_format.proofs.writing.fragment_len.Goals as goal

pub returns-clause-exact : goal.returns-clause-exact
returns-clause-exact c frags = rw (c.probes.ensures, c.exits.ensures) (sym (fragment_size frags c.args.f.now))
