use Rattle.std.proofs.Common.{◌≡◌, ◌%◌, ◌++◌, ◌∷◌, [], ap, sym, ◌∙◌, subst, arith}
use Rattle.probe_tools.specs.Rows.{count_at}
use Rattle.plain_run.specs.Known.{AreKnown}
use Rattle.plain_run.proofs.Entering.{entry-aligned}
use Rattle.plain_run.proofs.Knowing.{known-more, known-placed}
use Rattle.plain_run.proofs.process.start.Goals as goal

pub returns-clause-ready : goal.returns-clause-ready
returns-clause-ready c =
    let top = c.in_ok-place.ensures.top c.if-not-branch.false in
    let more = ap (λ x. x.mapped) c.in_ok-mark_mapped.ensures.ok ∙ ap (λ x. x.mapped ++ record { «module» = 0; file = c.args.module.file } ∷ []) c.in_ok-io.ensures in
    record {
      known = subst (AreKnown c.args.elfs.now c.args.module.base) (sym more)
          (known-more c.args.elfs.now c.args.module.base c.args.module.file [] tt
          (known-placed c.args.elfs.now c.args.module.base c.args.module.file c.index-elfs-module.result c.requires c.index-elfs-module.is top));
      file = c.requires;
      aligned = ap (λ x. x.pc % 4) c.first_cpu.ensures ∙ entry-aligned c.index-elfs-module.result c.args.module.base c.in-Some.entry (sym c.in-Some.is ∙ c.entry.ensures);
      tool = ap (λ r. r.tool) c.new-2.ensures.report;
      small = λ key. let none : count_at c.new-2.result.counts key ≡ 0 = c.new-2.ensures.none key in omega (arith, none, c.args.setup.now.fuel_fits);
    }
