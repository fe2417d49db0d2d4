-- What stands ready in a ledger after each thing that happens.
use Rattle.std.proofs.Common.{◌≡◌, ℕ, ◌&&◌, Bool, true, false, cond, Option, Some, None, refl, sym, ◌∙◌, ap, subst}
use Rattle.std.specs.Prelude.{if◌then◌else◌, not, is_some}
use Rattle.std.specs.Option.{option_or}
use Rattle.std.specs.FinMap as fin
use Rattle.cc_base.specs.Span.{Range}
use Rattle.fragment.specs.Parts.{Parts}
use Rattle.block_ledger.specs.Ledger.{Ledger, view, only, has_some, is_clear, is_live, leads_to, link_stays, source}
use Rattle.block_ledger.specs.Laws.{OnlyViews, WritesWithdraw, LinksStayLive}
use Rattle.block_ledger.proofs.Gets.{got-kept}

or_by : (b : Bool) (x y : Option Parts) → option_or (cond b x None) (cond b y None) ≡ (if b then option_or x y else None)
or_by true x y = refl
or_by false x y = refl

pub only-views : OnlyViews
only-views stays led a =
    ap (λ o. option_or o (fin.get (fin.retain_keys led.private stays) a)) (got-kept led.shared stays a)
    ∙ ap (λ o. option_or (cond (stays a) (fin.get led.shared a) None) o) (got-kept led.private stays a)
    ∙ or_by (stays a) (fin.get led.shared a) (fin.get led.private a)

-- ---- writes

cleared : (b : Bool) (g f : Parts) → (if not b then Some g else None) ≡ Some f → (b ≡ false) × (g ≡ f)
cleared true g f e = absurd (cc)
cleared false g f e = (refl, cc)

spared_by : (span : Range) (o : Option Parts) (f : Parts) → (if is_clear span o then o else None) ≡ Some f → (has_some span f ≡ false) × (o ≡ Some f)
spared_by span None f e = absurd (cc)
spared_by span (Some g) f e =
    let both : (has_some span g ≡ false) × (g ≡ f) = cleared (has_some span g) g f e in
    (subst (λ x. has_some span x ≡ false) both.1 both.0, ap Some both.1)

pub writes-withdraw : WritesWithdraw
writes-withdraw span led a f e =
    let both : (has_some span f ≡ false) × (view led a ≡ Some f) = spared_by span (view led a) f (sym (only-views (λ x. is_clear span (view led x)) led a) ∙ e) in
    record { clear = both.0; before = both.1 }

-- ---- links

if_kept : (b : Bool) (o : Option ℕ) (to : ℕ) → cond b o None ≡ Some to → (b ≡ true) × (o ≡ Some to)
if_kept true o to e = (refl, e)
if_kept false o to e = absurd (cc)

both_of : (b c : Bool) → (b && c) ≡ true → (b ≡ true) × (c ≡ true)
both_of true c e = (refl, e)
both_of false c e = absurd (cc)

live_by : (b : Bool) (o : Option Parts) → b ≡ true → is_some o ≡ true → is_some (if b then o else None) ≡ true
live_by true o t e = e
live_by false o t e = absurd (cc)

stays_live : (stays : ℕ → Bool) (led : Ledger) (a : ℕ) → stays a ≡ true → is_live led a ≡ true → is_live (only stays led) a ≡ true
stays_live stays led a t e = ap is_some (only-views stays led a) ∙ live_by (stays a) (view led a) t e

pub links-stay-live : LinksStayLive
links-stay-live stays led live x to e =
    let kept : (link_stays stays led x ≡ true) × (fin.get led.links x ≡ Some to) =
    if_kept (link_stays stays led x) (fin.get led.links x) to (sym (got-kept led.links (link_stays stays led) x) ∙ e) in
    let ends : (stays (source x) ≡ true) × (leads_to stays (fin.get led.links x) ≡ true) = both_of (stays (source x)) (leads_to stays (fin.get led.links x)) kept.0 in
    let there : stays to ≡ true = sym (ap (leads_to stays) kept.1) ∙ ends.1 in
    (stays_live stays led (source x) ends.0 (live x to kept.1).0, stays_live stays led to there (live x to kept.1).1)
