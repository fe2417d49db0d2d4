use Rattle.std.proofs.Common.{◌≡◌, ◌<◌, ◌%◌, length}
use Rattle.plain_run.specs.Known.{AreKnown}
use Rattle.plain_run.proofs.tests.a_module_that_was_replaced_is_mapped_from_its_new_file.Given as goal

-- between two calls the guest may make a further one
abbrev pub invariant-loop-number : goal.invariant-loop-number
invariant-loop-number g l = AreKnown l.elfs.items 0 l.guest.io.mapped × (l.guest.file < length l.elfs.items) × (l.guest.cpu.pc % 4 ≡ 0)
