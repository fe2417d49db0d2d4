use Rattle.std.proofs.Common.{◌∙◌, ap, sym}
use Rattle.std.specs.Prelude.{codes}
use Rattle.std.proofs.lemmas.Result.{err_from_is_err_and}
use Rattle.toml.specs.Data.{get_member}
use Rattle.toml.specs.View.{table_view}
use Rattle.manifest.specs.Keys.{first_in}
use Rattle.manifest.specs.Manifest.{modules_at, guests_at, guests_rules}
use Rattle.manifest.proofs.Whole.{modules_fail, guests_decide, listing_is, is_listing}
use Rattle.manifest.proofs.read.manifest_in.Goals as goal

pub returns-in_err-modules : goal.returns-in_err-modules
returns-in_err-modules c =
    let p = err_from_is_err_and c.from_residual-in_err-modules.result c.from_residual-in_err-modules.ensures.1 in
    rw (p.1, p.2) (λ known. modules_fail (table_view c.args.table.now) c.in_ok-files.files c.in_ok-files.ensures.reads.1 c.in_ok-check_keys.ensures
    c.in_ok-files.ensures.reads.0 c.in_err-modules.field-0.0 (c.in_err-modules.ensures.reads known))

pub returns-in_err-guests : goal.returns-in_err-guests
returns-in_err-guests c =
    let p = err_from_is_err_and c.from_residual-in_err-guests.result c.from_residual-in_err-guests.ensures.1 in
    let t = table_view c.args.table.now in
    rw (p.1, p.2) (λ known. guests_decide t c.in_ok-files.files c.in_ok-files.ensures.reads.1 c.in_ok-check_keys.ensures
    c.in_ok-files.ensures.reads.0 c.in_ok-modules.modules.rows.items c.in_ok-modules.ensures.reads.1 c.in_ok-modules.ensures.reads.0
    ∙ ap (λ names. first_in (guests_rules names (get_member (codes "guest") t))) (sym c.in_ok-modules.ensures.named)
    ∙ c.in_err-guests.ensures.reads known)

pub invariant_of-result : goal.invariant_of-result
invariant_of-result c =
    is_listing c.in_ok-files.files c.in_ok-to_names.field-0.items c.in_ok-modules.modules.rows.items c.in_ok-modules.modules.names c.in_ok-guests.guests.items
    c.in_ok-to_names.ensures c.in_ok-modules.ensures.named c.in_ok-files.ensures.some c.in_ok-files.ensures.few c.in_ok-files.ensures.spelled
    c.in_ok-modules.ensures.some c.in_ok-modules.ensures.few c.in_ok-modules.ensures.files c.in_ok-guests.ensures.some c.in_ok-guests.ensures.few c.in_ok-guests.ensures.modules c.in_ok-modules.ensures.apart

pub returns : goal.returns
returns c =
    let t = table_view c.args.table.now in
    let files = c.in_ok-to_names.ensures in (
      guests_decide t c.in_ok-files.files c.in_ok-files.ensures.reads.1 c.in_ok-check_keys.ensures c.in_ok-files.ensures.reads.0
          c.in_ok-modules.modules.rows.items c.in_ok-modules.ensures.reads.1 c.in_ok-modules.ensures.reads.0
          ∙ ap (λ names. first_in (guests_rules names (get_member (codes "guest") t))) (sym c.in_ok-modules.ensures.named)
          ∙ c.in_ok-guests.ensures.reads.0,
      listing_is t c.in_ok-to_names.field-0.items c.in_ok-modules.modules.rows.items c.in_ok-guests.guests.items (files ∙ c.in_ok-files.ensures.reads.1)
          (c.in_ok-modules.ensures.reads.1 ∙ ap (λ fs. modules_at fs (get_member (codes "module") t)) (sym files))
          (c.in_ok-guests.ensures.reads.1 ∙ ap (λ names. guests_at names (get_member (codes "guest") t)) c.in_ok-modules.ensures.named),
    )
