use Rattle.std.proofs.Common.{[], ◌∷◌}
use Rattle.elf_map.specs.Elf.{file_rules, count_rule, program_in}
use Rattle.std.proofs.lemmas.Result.{err_from_is_err_and}
use Rattle.elf_map.proofs.RuleLemmas.{header_fails, kind_fails, segment_fails, count_decides, Tests-same}
use Rattle.elf_map.proofs.checks.check.Goals as goal

pub returns-in_err-check_header-clause-rules : goal.returns-in_err-check_header-clause-rules
returns-in_err-check_header-clause-rules c =
    let p = err_from_is_err_and c.from_residual.result c.from_residual.ensures.1 in
    rw (p.1, p.2) (header_fails c.args.file.now c.in_err-check_header.field-0.0 c.in_err-check_header.ensures)

pub returns-in_err-check_kinds-clause-rules : goal.returns-in_err-check_kinds-clause-rules
returns-in_err-check_kinds-clause-rules c =
    let p = err_from_is_err_and c.from_residual-in_err-check_kinds.result c.from_residual-in_err-check_kinds.ensures.1 in
    rw (p.1, p.2) (kind_fails c.args.file.now c.in_err-check_kinds.field-0.0 c.in_ok-check_header.ensures c.in_err-check_kinds.ensures)

pub returns-in_err-check_segments-clause-rules : goal.returns-in_err-check_segments-clause-rules
returns-in_err-check_segments-clause-rules c =
    let p = err_from_is_err_and c.from_residual-in_err-check_segments.result c.from_residual-in_err-check_segments.ensures.1 in
    rw (p.1, p.2) (segment_fails c.args.file.now c.in_err-check_segments.field-0.0 c.in_ok-check_header.ensures c.in_ok-check_kinds.ensures c.in_err-check_segments.ensures.rules)

pub returns-clause-rules : goal.returns-clause-rules
returns-clause-rules c =
    Tests-same (file_rules c.args.file.now) (count_rule (program_in c.args.file.now) ∷ []) c.check_count.result
    (count_decides c.args.file.now c.in_ok-check_header.ensures c.in_ok-check_kinds.ensures c.in_ok-check_segments.ensures.rules) c.check_count.ensures.rule
