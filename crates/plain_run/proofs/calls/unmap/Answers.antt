use Rattle.std.proofs.Common.{◌≡◌, sym, ◌∙◌, ap, subst}
use Rattle.plain_machine.specs.Calls.{is_module}
use Rattle.engine.specs.Standing.{state}
use Rattle.plain_run.specs.Known.{AreKnown}
use Rattle.plain_run.proofs.Behind.{goes-unmap, unmapped-so}
use Rattle.plain_run.proofs.Knowing.{known-less, known-within, file-found, mapped-from, not-found}
use Rattle.plain_run.proofs.calls.unmap.Goals as goal

pub returns-in_default-clause-goes : goal.returns-in_default-clause-goes
returns-in_default-clause-goes c = absurd (not-found c.args.elfs.now c.args.base c.args.module c.args.io.now.mapped c.requires.known c.requires.mapped (sym c.in_default.is ∙ c.file_of.ensures))

pub bounds-elfs-file : goal.bounds-elfs-file
bounds-elfs-file c =
    known-within c.args.elfs.now c.args.base c.in-Some.file
    (file-found c.args.elfs.now c.args.base c.args.module c.in-Some.file c.args.io.now.mapped c.requires.known c.requires.mapped (sym c.in-Some.is ∙ c.file_of.ensures))

pub unplace-requires : goal.unplace-requires
unplace-requires c =
    (mapped-from c.args.elfs.now c.args.base c.args.module c.in-Some.file c.index-elfs-file.result c.args.io.now.mapped c.requires.known c.requires.mapped (sym c.in-Some.is ∙ c.file_of.ensures) c.index-elfs-file.is).top

pub returns-clause-goes : goal.returns-clause-goes
returns-clause-goes c =
    let from = mapped-from c.args.elfs.now c.args.base c.args.module c.in-Some.file c.index-elfs-file.result c.args.io.now.mapped c.requires.known c.requires.mapped (sym c.in-Some.is ∙ c.file_of.ensures) c.index-elfs-file.is in
    goes-unmap c.args.elfs.now c.args.base c.args.module (state c.args.cpu.now c.args.mem.now c.args.io.now) (state c.set_result.new.cpu c.unplace.new.mem c.mark_unmapped.new.self) c.index-elfs-file.result
    from.found from.same (unmapped-so c.args.cpu.now c.set_result.new.cpu c.args.mem.now c.unplace.new.mem c.args.io.now c.mark_unmapped.new.self c.args.module c.args.base c.index-elfs-file.result
    c.set_result.ensures c.unplace.ensures c.mark_unmapped.ensures)

pub returns-clause-known : goal.returns-clause-known
returns-clause-known c =
    let fewer : c.mark_unmapped.new.self.mapped ≡ _ = ap (λ x. x.mapped) c.mark_unmapped.ensures in
    subst (AreKnown c.args.elfs.now c.args.base) (sym fewer) (known-less c.args.elfs.now c.args.base (is_module c.args.module) c.args.io.now.mapped c.requires.known)
