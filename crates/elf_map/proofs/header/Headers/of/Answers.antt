use Rattle.std.proofs.Common.{◌≡◌, ◌∙◌, ap, sym, arith}
use Rattle.elf_map.specs.Elf.{headers_from, e_phnum, e_phoff}
use Rattle.elf_map.proofs.HeaderLemmas.{headers_from-none, length-headers_from, few_headers}
use Rattle.elf_map.proofs.header.Headers.of.Goals as goal
use Rattle.elf_map.proofs.header.Headers.of.Goals.{then-count-eq0, else-count-eq0}

pub returns-clause-all : goal.returns-clause-all
returns-clause-all c =
    let count : c.from-count.result ≡ e_phnum c.args.file.now = c.from-count.ensures ∙ c.u16_at.ensures in
    elim c.if-count-eq0.branch [
      | then-count-eq0 w ↦
          headers_from-none c.args.file.now c.if-count-eq0.at c.from-count.result w.if-count-eq0.true
          ∙ sym (headers_from-none c.args.file.now (e_phoff c.args.file.now) (e_phnum c.args.file.now) (sym count ∙ w.if-count-eq0.true))
      | else-count-eq0 w ↦
          ap (λ at. headers_from c.args.file.now at c.from-count.result) (w.at-is ∙ w.u32_at.ensures)
          ∙ ap (λ n. headers_from c.args.file.now (e_phoff c.args.file.now) n) count
    ]

pub returns-clause-few : goal.returns-clause-few
returns-clause-few c =
    let count : c.from-count.result ≡ e_phnum c.args.file.now = c.from-count.ensures ∙ c.u16_at.ensures in
    omega (arith, length-headers_from c.args.file.now c.if-count-eq0.at c.from-count.result, few_headers c.args.file.now c.requires)
