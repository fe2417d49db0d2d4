use Rattle.std.proofs.Common.{◌∷◌, [], sym, ◌∙◌, ap, subst, refl, length, false}
use Rattle.std.proofs.lemmas.Option.{slice_get_read}
use Rattle.std.specs.Prelude.{slice_get}
use Rattle.std.specs.Option.{option_to_list}
use Rattle.plain_machine.specs.Program.{placed}
use Rattle.plain_machine.specs.Registers.{with_register}
use Rattle.engine.specs.Standing.{state}
use Rattle.plain_run.specs.Plain.{one_module}
use Rattle.plain_run.specs.Answer.{Maps, Placing}
use Rattle.plain_run.specs.Known.{AreKnown}
use Rattle.plain_run.proofs.Behind.{maps-refused}
use Rattle.plain_run.proofs.Knowing.{known-more, known-placed}
use Rattle.plain_run.proofs.calls.map.Goals as goal

pub returns-in_ok-mark_mapped-clause-known : goal.returns-in_ok-mark_mapped-clause-known
returns-in_ok-mark_mapped-clause-known c =
    let more = ap (λ x. x.mapped) c.in_ok-mark_mapped.ensures.ok in
    let top = c.in_ok-place.ensures.top c.if-branch.true in
    subst (AreKnown c.args.elfs.now c.args.base) (sym more)
    (known-more c.args.elfs.now c.args.base c.args.file c.args.io.now.mapped c.requires.known
    (known-placed c.args.elfs.now c.args.base c.args.file c.index-elfs-file.result c.requires.file c.index-elfs-file.is top))

pub returns-else-branch-clause-maps : goal.returns-else-branch-clause-maps
returns-else-branch-clause-maps c =
    let elfs = c.args.elfs.now in
    let there = slice_get_read elfs (length elfs) c.args.file c.index-elfs-file.result refl c.requires.file c.index-elfs-file.is in
    let placing : Placing c.args.mem.now (placed c.index-elfs-file.result c.args.base c.args.mem.now) c.place.new.mem false = subst (Placing c.args.mem.now (placed c.index-elfs-file.result c.args.base c.args.mem.now) c.place.new.mem) c.if-branch.false c.in_ok-place.ensures.placing in
    let next = state c.set_result-else-branch.new.cpu c.place.new.mem c.args.io.now in
    let now = state c.args.cpu.now c.args.mem.now c.args.io.now in
    let cpu = c.set_result-else-branch.ensures ∙ ap (λ n. record c.args.cpu.now { regs = with_register c.args.cpu.now.regs 10 n }) c.minus-else-branch.ensures in
    subst (Maps (one_module elfs c.args.base) c.args.module now next (option_to_list (slice_get (c.args.file ∷ []) c.args.module)) c.args.maps.now.items) (sym c.in_ok-push.ensures.items)
    (maps-refused elfs c.args.base c.args.module c.args.file now next c.index-elfs-file.result c.place.new.mem c.args.maps.now.items c.if-module-ne0.false there placing (ap (λ x. state x c.place.new.mem c.args.io.now) cpu))
