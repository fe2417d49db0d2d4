use Rattle.std.proofs.Common.{◌≡◌, ◌∙◌, Some, ap, subst, sym}
use Rattle.std.specs.Arc.{arc_value}
use Rattle.std.specs.Prelude.{is_some}
use Rattle.std.specs.FinMap as fin
use Rattle.cc_base.specs.Image.{Code}
use Rattle.plain_machine.specs.Memory.{code_at}
use Rattle.unit_set.specs.Held.{Held}
use Rattle.block_ledger.specs.Ledger.{Ledger}
use Rattle.block_ledger.proofs.Gets.{got-insert}
use Rattle.block_ledger.specs.Traced.{codes_of}
use Rattle.code_book.specs.View.{ledger_of}
use Rattle.guest_proc.specs.Maps.{IsVacant}
use Rattle.guest_proc.specs.Process.{Process}
use Rattle.guest_proc.proofs.Spans.{clear-at, code-at, code_for, there-at}
use Rattle.guest_proc.proofs.tests.attach_empty.Goals as goal

pub attach-requires-clause-there : goal.attach-requires-clause-there
attach-requires-clause-there g c =
    let unit : Held = arc_value c.in_ok-unit.unit in
    let same : unit.image ≡ code_for 0 c.in_ok-code.field-0 = ap (λ (u : Held). u.image) (c.in_ok-unit.ensures.ok ∙ c.empty.ensures) ∙ c.in_ok-image.ensures in
    subst (λ (x : Code). code_at c.args.guest.now.at.mem x.start ≡ Some x) (sym same)
    (there-at c.args.guest.now.at.mem (codes_of c.args.elf.now 0) 0 (code_for 0 c.in_ok-code.field-0) c.requires.there (code-at c.args.elf.now 0 0 c.in_ok-code.field-0 c.in_ok-code.ensures.code)).1

pub attach-requires-clause-clear : goal.attach-requires-clause-clear
attach-requires-clause-clear g c =
    let unit : Held = arc_value c.in_ok-unit.unit in
    let same : unit.image ≡ code_for 0 c.in_ok-code.field-0 = ap (λ (u : Held). u.image) (c.in_ok-unit.ensures.ok ∙ c.empty.ensures) ∙ c.in_ok-image.ensures in
    subst (λ (x : Code). IsVacant x (ledger_of c.args.guest.now.book)) (sym same)
    (clear-at (ledger_of c.args.guest.now.book) (codes_of c.args.elf.now 0) 0 (code_for 0 c.in_ok-code.field-0) c.requires.clear (code-at c.args.elf.now 0 0 c.in_ok-code.field-0 c.in_ok-code.ensures.code))

pub returns : goal.returns
returns g c =
    let led : Ledger = ledger_of c.attach.new.self.book in
    let is = ap (λ (p : Process). p.ledger) c.in_ok-attach.ensures.attached in
    ap is_some (ap (λ (l : Ledger). fin.get l.segments 0) is ∙ got-insert (ledger_of c.args.guest.now.book).segments 0 _ 0)
