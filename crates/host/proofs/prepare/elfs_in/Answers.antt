use Rattle.std.proofs.Common.{◌≡◌, ◌≤◌, ◌<◌, ◌∙◌, Err, Ok, subst, arith, length, take, get_or}
use Rattle.std.proofs.lemmas.List.{take_all}
use Rattle.std.proofs.lemmas.Result.{err_from_is_err_and}
use Rattle.elf_map.specs.Elf.{elf_of}
use Rattle.host.specs.Outcome.{taken}
use Rattle.host.proofs.Programs.{AreTaken, taken_more, refused_at, all_taken, program_count}
use Rattle.host.proofs.prepare.elfs_in.Goals as goal

pub loop-i-init : goal.loop-i-init
loop-i-init c = rw c.new-elfs.ensures.items tt

pub returns-in_err-elf_in-clause-gives : goal.returns-in_err-elf_in-clause-gives
returns-in_err-elf_in-clause-gives c =
    let within : c.loop-i.i < length c.args.names.now = omega (arith, c.loop-i-test.true, c.loop-i.auto.i-end) in
    let also : c.loop-i.i < length c.args.contents.now = omega (arith, within, c.requires) in
    let h = c.in_err-elf_in.ensures in
    let p = err_from_is_err_and c.from_residual.result c.from_residual.ensures.1 in
    rw (p.1, p.2) (λ other. refused_at c.args.names.now c.args.contents.now c.loop-i.elfs.items c.loop-i.i c.in_err-elf_in.field-0.0 c.index-names-i.result c.index-contents-i.result within also
    c.loop-i.invariant
    (subst (λ n. taken n (elf_of (get_or c.args.contents.now c.loop-i.i c.index-contents-i.result)) ≡ Err c.in_err-elf_in.field-0.0) c.index-names-i.is
    (subst (λ b. taken c.index-names-i.result (elf_of b) ≡ Err c.in_err-elf_in.field-0.0) (c.items.ensures ∙ c.index-contents-i.is) (h other))))

pub loop-i-preserved : goal.loop-i-preserved
loop-i-preserved c =
    let within : c.loop-i.i < length c.args.names.now = omega (arith, c.loop-i-test.true, c.loop-i.auto.i-end) in
    let also : c.loop-i.i < length c.args.contents.now = omega (arith, within, c.requires) in
    let h = c.in_ok-elf_in.ensures in
    rw c.in_ok-push.ensures.items (taken_more c.args.names.now c.args.contents.now c.loop-i.elfs.items c.loop-i.i c.in_ok-elf_in.field-0 c.index-names-i.result c.index-contents-i.result within also
    c.loop-i.invariant
    (subst (λ n. taken n (elf_of (get_or c.args.contents.now c.loop-i.i c.index-contents-i.result)) ≡ Ok c.in_ok-elf_in.field-0) c.index-names-i.is
    (subst (λ b. taken c.index-names-i.result (elf_of b) ≡ Ok c.in_ok-elf_in.field-0) (c.items.ensures ∙ c.index-contents-i.is) h)))

pub returns-clause-gives : goal.returns-clause-gives
returns-clause-gives c =
    let all : length c.args.names.now ≤ c.loop-i.i = omega (arith, c.loop-i-test.false, c.loop-i.auto.i-end) in
    let every : length c.args.contents.now ≤ c.loop-i.i = omega (arith, all, c.requires) in
    all_taken c.args.names.now c.args.contents.now c.loop-i.elfs.items
    (subst (λ names. AreTaken names c.args.contents.now c.loop-i.elfs.items) (take_all c.loop-i.i c.args.names.now all)
    (subst (λ files. AreTaken (take c.loop-i.i c.args.names.now) files c.loop-i.elfs.items) (take_all c.loop-i.i c.args.contents.now every) c.loop-i.invariant))

pub returns-clause-count : goal.returns-clause-count
returns-clause-count c =
    let all : length c.args.names.now ≤ c.loop-i.i = omega (arith, c.loop-i-test.false, c.loop-i.auto.i-end) in
    let every : length c.args.contents.now ≤ c.loop-i.i = omega (arith, all, c.requires) in
    program_count c.args.names.now c.args.contents.now c.loop-i.elfs.items
    (subst (λ names. AreTaken names c.args.contents.now c.loop-i.elfs.items) (take_all c.loop-i.i c.args.names.now all)
    (subst (λ files. AreTaken (take c.loop-i.i c.args.names.now) files c.loop-i.elfs.items) (take_all c.loop-i.i c.args.contents.now every) c.loop-i.invariant))
