use Rattle.std.proofs.Common.{◌≡◌, ◌∙◌, ◌+◌, ap, Some, subst}
use Rattle.std.specs.Prelude.{filter, slice_get}
use Rattle.elf_map.specs.Program.{executes}
use Rattle.elf_map.proofs.SpanLemmas.{range, span-there}
use Rattle.elf_map.proofs.elf.Elf.code_span.Goals as goal

pub returns : goal.returns
returns c =
    let same : c.deref.result.now ≡ c.args.self.now.segments = cc in
    let found : slice_get (filter executes c.args.self.now.segments) c.args.seg ≡ Some c.code_at.result.now = subst (λ ss. slice_get (filter executes ss) c.args.seg ≡ Some c.code_at.result.now) same c.code_at.ensures.found in
    span-there c.args.self.now c.args.base c.code_at.result.now c.args.seg c.span.result found c.span.ensures.len
    (c.span.ensures.span ∙ ap (λ b. range (b + c.code_at.result.now.vaddr) c.code_at.result.now.size) c.base.ensures)
