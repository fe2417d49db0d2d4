use Rattle.std.proofs.Common.{◌<◌, length, ap, ◌∙◌, arith}
use Rattle.std.proofs.lemmas.Result.{err_from_is_err_and}
use Rattle.toml.specs.View.{table_view}
use Rattle.manifest.specs.Entries.{ModuleEntry}
use Rattle.manifest.specs.Manifest.{module_of, module_rules}
use Rattle.manifest.proofs.Putting.{distinct_more, grown}
use Rattle.manifest.proofs.Walking.{goes_on, stops, ends}
use Rattle.manifest.proofs.module.rows_of.Goals as goal

pub returns-in_err-row-clause-reads : goal.returns-in_err-row-clause-reads
returns-in_err-row-clause-reads c =
    let p = err_from_is_err_and c.from_residual.result c.from_residual.ensures.1 in
    rw (p.1, p.2) (λ known. stops (module_of c.args.files.now) (module_rules c.args.files.now) (λ m. m.file < length c.args.files.now) c.args.items.now c.loop-value.value-index
    c.value-item.result (table_view c.in-Some.table.now) c.loop-value.rows.items c.deref.result.now c.in_err-row.field-0.0 (omega arith) c.value-item.is c.in-Some.ensures c.deref.ensures.value
    c.loop-value.invariant.0 (c.in_err-row.ensures.reads known))

pub loop-value-preserved : goal.loop-value-preserved
loop-value-preserved c = (
  goes_on (module_of c.args.files.now) (module_rules c.args.files.now) (λ m. m.file < length c.args.files.now) c.args.items.now c.loop-value.value-index
      c.value-item.result (table_view c.in-Some.table.now) c.loop-value.rows.items c.deref.result.now c.push.new.self.items c.in_ok-row.row (omega arith) c.value-item.is c.in-Some.ensures
      c.deref.ensures.value c.loop-value.invariant.0 c.in_ok-row.ensures.reads.0 c.in_ok-row.ensures.reads.1 c.in_ok-row.ensures.file c.in_ok-push.ensures.items,
  grown (λ r. r.name) c.loop-value.rows.items c.deref.result.now c.push.new.self.items c.in_ok-row.row c.loop-value.names c.add.new.self c.items.result.now c.in_ok-add.field-0
      c.loop-value.invariant.1 c.deref.ensures.value c.in_ok-row.ensures.new (c.items.ensures ∙ ap (λ (r : ModuleEntry). r.name) c.row.view_is) c.in_ok-add.ensures.new c.in_ok-add.ensures.names c.in_ok-push.ensures.items,
  distinct_more c.loop-value.names c.add.new.self c.items.result.now c.in_ok-add.field-0 c.in_ok-add.ensures.new c.in_ok-add.ensures.names c.loop-value.invariant.2,
)

pub returns-clause-reads : goal.returns-clause-reads
returns-clause-reads c =
    ends (module_of c.args.files.now) (module_rules c.args.files.now) (λ m. m.file < length c.args.files.now) c.args.items.now c.loop-value.value-index c.loop-value.rows.items (omega arith)
    c.loop-value.invariant.0
