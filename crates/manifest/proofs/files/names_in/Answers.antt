use Rattle.std.proofs.Common.{◌∙◌, arith}
use Rattle.manifest.proofs.Putting.{found_again, goes_on}
use Rattle.manifest.proofs.files.names_in.Goals as goal

pub returns-then-not-branch-clause-distinct : goal.returns-then-not-branch-clause-distinct
returns-then-not-branch-clause-distinct c =
    found_again c.args.items.now c.loop-value.value-index c.value-item.result c.loop-value.names c.as_bytes.result.now c.in_ok-add.field-0 (omega arith) c.value-item.is
    (c.as_bytes.ensures.value ∙ c.text_of.ensures) c.loop-value.invariant.0 c.in_ok-add.ensures.new c.if-not-branch.true

pub loop-value-preserved : goal.loop-value-preserved
loop-value-preserved c =
    goes_on c.args.items.now c.loop-value.value-index c.value-item.result c.loop-value.names c.as_bytes.result.now c.in_ok-add.field-0 (omega arith) c.value-item.is
    (c.as_bytes.ensures.value ∙ c.text_of.ensures) c.loop-value.invariant.0 c.in_ok-add.ensures.new c.add.new.self c.if-not-branch.false c.in_ok-add.ensures.names
    c.loop-value.invariant.1 c.loop-value.invariant.2
