-- What stands ready stays fresh, whatever happens to the ledger.
use Rattle.std.proofs.Common.{◌≡◌, ℕ, ◌+◌, ◌<◌, ◌⊎◌, Bool, true, false, cond, List, length, Option, Some, None, refl, sym, ◌∙◌, ap, subst, inl, inr}
use Rattle.std.specs.Prelude.{find, not, is_some, if◌then◌else◌}
use Rattle.std.specs.Option.{option_or}
use Rattle.std.specs.Ordering.{nat_cmp, eq_by_cmp}
use Rattle.std.specs.FinMap as fin
use Rattle.std.proofs.lemmas.Bool.{cases_Bool}
use Rattle.std.proofs.lemmas.Option.{same_Some}
use Rattle.cc_base.specs.declared.span.Span.{Span}
use Rattle.cc_base.specs.Span.{Range}
use Rattle.rv_decode.specs.declared.ins.Isa.{Isa}
use Rattle.probe_tools.specs.declared.tool.Tool.{Tool}
use Rattle.plain_machine.specs.Memory.{Memory, has_code, put, as_code}
use Rattle.fragment.specs.Parts.{Parts}
use Rattle.engine.specs.Standing.{SameCode, IsStored}
use Rattle.block_ledger.specs.Ledger.{Ledger, view, only, flushed, written, is_clear, begun, found, linked_by, counted, left_by, is_shared, is_private, is_live, has_some, source}
use Rattle.block_ledger.specs.Traced.{built_in, range_of}
use Rattle.block_ledger.proofs.Views.{only-views, writes-withdraw}
use Rattle.block_ledger.proofs.Gets.{got-insert, got-kept, tied}
use Rattle.guest_proc.specs.Fresh.{AreFresh, AreMapped, AreOfUnits, SharesNoMore, block_in, extent}
use Rattle.guest_proc.proofs.Put.{fresh-put, extent-put}

-- ---- what stands ready

kept_value : {X : Type 0} (b : Bool) (o : Option X) (x : X) → cond b o None ≡ Some x → o ≡ Some x
kept_value true o x e = e
kept_value false o x e = absurd (cc)

shared_left : (e : Option ℕ) (led : Ledger) → (left_by e led).shared ≡ led.shared
shared_left None led = refl
shared_left (Some e) led = refl

chosen : (b : Bool) (o : Option Parts) (block : Parts) → (if b then o else None) ≡ Some block → o ≡ Some block
chosen true o block e = e
chosen false o block e = absurd (cc)

-- the same blocks stand ready
pub view_linked : (left : Option ℕ) (x : ℕ) (led : Ledger) (a : ℕ) → view (linked_by left x led) a ≡ view led a
view_linked None x led a = refl
view_linked (Some e) x led a = elim (cases_Bool (is_some (fin.get led.links e))) [
  | inl linked ↦ rw linked refl
  | inr apart ↦ rw apart (elim (cases_Bool (is_live led (source e))) [ inl live ↦ rw live refl | inr gone ↦ rw gone refl ])
]

pub is_none : (o : Option Parts) → is_some o ≡ false → o ≡ None
is_none None e = refl
is_none (Some f) e = absurd (cc)

-- what stands ready once a block was found or built
pub view_found : (block : Parts) (led : Ledger) (a : ℕ) → (view (found block led) a ≡ view led a) ⊎ ((a ≡ block.address) × (view (found block led) a ≡ Some block))
view_found block led a = elim (cases_Bool (is_shared led block.address)) [
  | inl shared ↦ inl (rw shared refl)
  | inr not_shared ↦ elim (cases_Bool (is_private led block.address)) [
    | inl private ↦ inl (rw (not_shared, private) refl)
    | inr new ↦ elim (cases_Bool (eq_by_cmp nat_cmp a block.address)) [
      | inl same ↦
          let at : a ≡ block.address = tied a block.address same in
          inr (
            at,
            rw (not_shared, new) (rw (got-insert led.private block.address block a, same) (
                let none : fin.get led.shared a ≡ None = ap (fin.get led.shared) at ∙ is_none (fin.get led.shared block.address) not_shared in rw none refl)),
          )
      | inr other ↦ inl (rw (not_shared, new) (rw (got-insert led.private block.address block a, other) refl))
    ]
  ]
]

pub view-begun : (block : Parts) (led : Ledger) (a : ℕ) → (view (begun block led) a ≡ view led a) ⊎ ((a ≡ block.address) × (view (begun block led) a ≡ Some block))
view-begun block led a = elim (view_found block (counted led) a) [
  | inl same ↦ inl (view_linked led.left block.address (found block (counted led)) a ∙ same)
  | inr here ↦ inr (here.0, view_linked led.left block.address (found block (counted led)) a ∙ here.1)
]

pub view-left : (e : Option ℕ) (led : Ledger) (a : ℕ) → view (left_by e led) a ≡ view led a
view-left None led a = refl
view-left (Some e) led a = refl

-- ---- it stays fresh

module _ (tool : Tool) (max : ℕ) where
  -- in a memory with the same code
  pub fresh-same : (isa : Isa) (m after : Memory) (led : Ledger) → SameCode m after → AreFresh tool max isa m led → AreFresh tool max isa after led
  fresh-same isa m after led same fresh a block is = ap (λ o. built_in (as_code o) a isa tool max) (same a) ∙ fresh a block is

  -- where only some stay
  pub fresh-only : (isa : Isa) (m : Memory) (stays : ℕ → Bool) (led : Ledger) → AreFresh tool max isa m led → AreFresh tool max isa m (only stays led)
  fresh-only isa m stays led fresh a block is = fresh a block (chosen (stays a) (view led a) block (sym (only-views stays led a) ∙ is))

  -- behind a store, where what it meets was withdrawn
  fresh-written : (isa : Isa) (m : Memory) (addr : ℕ) (bytes : List ℕ) (led : Ledger) → 0 < max → 0 < length bytes → AreFresh tool max isa m led →
      AreFresh tool max isa (put addr bytes m) (written (record { start = addr; len = length bytes }) led)
  fresh-written isa m addr bytes led some_max some fresh a block is =
      let spared = writes-withdraw (record { start = addr; len = length bytes }) led a block is in
      fresh-put tool max isa m a addr bytes block some_max some spared.clear (fresh a block spared.before)

  pub fresh-stored : (isa : Isa) (m after : Memory) (span : Span) (led : Ledger) → 0 < max → IsStored span m after → AreFresh tool max isa m led → AreFresh tool max isa after (written (range_of span) led)
  fresh-stored isa m after span led some stored fresh =
      let before = fresh-same isa m stored.before led stored.same fresh in
      let behind = fresh-written isa stored.before span.start stored.bytes led some stored.some before in
      let there = subst (λ n. AreFresh tool max isa (put span.start stored.bytes stored.before) (written (record { start = span.start; len = n }) led)) stored.size behind in
      subst (λ x. AreFresh tool max isa x (written (range_of span) led)) (sym stored.made) there

  -- a block begins that is fresh
  pub fresh-begun : (isa : Isa) (m : Memory) (block : Parts) (led : Ledger) → block_in tool max isa m block.address ≡ Some block → AreFresh tool max isa m led → AreFresh tool max isa m (begun block led)
  fresh-begun isa m block led new fresh a other is =
      elim (view-begun block led a) [
        | inl same ↦ fresh a other (sym same ∙ is)
        | inr here ↦
            let one : block ≡ other = same_Some block other (sym here.1 ∙ is) in
            subst (λ f. block_in tool max isa m a ≡ Some f) one (subst (λ x. block_in tool max isa m x ≡ Some block) (sym here.0) new)
      ]

  pub fresh-left : (isa : Isa) (m : Memory) (e : Option ℕ) (led : Ledger) → AreFresh tool max isa m led → AreFresh tool max isa m (left_by e led)
  fresh-left isa m e led fresh a block is = fresh a block (sym (view-left e led a) ∙ is)

  pub fresh-flushed : (isa : Isa) (m : Memory) (led : Ledger) → AreFresh tool max isa m led → AreFresh tool max isa m (flushed led)
  fresh-flushed isa m led fresh a block is = fresh-only isa m (λ x. not (is_private led x)) led fresh a block is

-- ---- the places of segments

pub mapped-same : (m after : Memory) (led : Ledger) → SameCode m after → AreMapped m led → AreMapped after led
mapped-same m after led same mapped i seg is = ap (λ o. extent (as_code o)) (same seg.image.start) ∙ mapped i seg is

mapped-put : (m : Memory) (addr : ℕ) (bytes : List ℕ) (led : Ledger) → AreMapped m led → AreMapped (put addr bytes m) led
mapped-put m addr bytes led mapped i seg is = extent-put seg.image.start addr bytes m seg.image (mapped i seg is)

pub mapped-segments : (m : Memory) (led after : Ledger) → after.segments ≡ led.segments → AreMapped m led → AreMapped m after
mapped-segments m led after same mapped i seg is = mapped i seg (ap (λ s. fin.get s i) (sym same) ∙ is)

pub mapped-stored : (m after : Memory) (span : Span) (led : Ledger) → IsStored span m after → AreMapped m led → AreMapped after (written (range_of span) led)
mapped-stored m after span led stored mapped =
    let before = mapped-same m stored.before led stored.same mapped in
    let there = mapped-put stored.before span.start stored.bytes led before in
    mapped-segments after led (written (range_of span) led) refl (subst (λ x. AreMapped x led) (sym stored.made) there)

segments_linked : (left : Option ℕ) (x : ℕ) (led : Ledger) → (linked_by left x led).segments ≡ led.segments
segments_linked None x led = refl
segments_linked (Some e) x led = elim (cases_Bool (is_some (fin.get led.links e))) [
  | inl linked ↦ rw linked refl
  | inr apart ↦ rw apart (elim (cases_Bool (is_live led (source e))) [ inl live ↦ rw live refl | inr gone ↦ rw gone refl ])
]

segments_found : (block : Parts) (led : Ledger) → (found block led).segments ≡ led.segments
segments_found block led = elim (cases_Bool (is_shared led block.address)) [
  | inl shared ↦ rw shared refl
  | inr not_shared ↦ elim (cases_Bool (is_private led block.address)) [ inl private ↦ rw (not_shared, private) refl | inr new ↦ rw (not_shared, new) refl ]
]

pub segments-begun : (block : Parts) (led : Ledger) → (begun block led).segments ≡ led.segments
segments-begun block led = segments_linked led.left block.address (found block (counted led)) ∙ segments_found block (counted led)

pub segments-left : (e : Option ℕ) (led : Ledger) → (left_by e led).segments ≡ led.segments
segments-left None led = refl
segments-left (Some e) led = refl

pub counts-left : (e : Option ℕ) (led : Ledger) → (left_by e led).counts ≡ led.counts
counts-left None led = refl
counts-left (Some e) led = refl

-- ---- the counts of a begin

blocks_linked : (left : Option ℕ) (x : ℕ) (led : Ledger) → ((linked_by left x led).counts.blocks ≡ led.counts.blocks) × ((linked_by left x led).counts.built ≡ led.counts.built)
blocks_linked None x led = (refl, refl)
blocks_linked (Some e) x led = elim (cases_Bool (is_some (fin.get led.links e))) [
  | inl linked ↦ rw linked (refl, refl)
  | inr apart ↦ rw apart (elim (cases_Bool (is_live led (source e))) [ inl live ↦ rw live (refl, refl) | inr gone ↦ rw gone (refl, refl) ])
]

blocks_found : (block : Parts) (led : Ledger) → (found block led).counts.blocks ≡ led.counts.blocks
blocks_found block led = elim (cases_Bool (is_shared led block.address)) [
  | inl shared ↦ rw shared refl
  | inr not_shared ↦ elim (cases_Bool (is_private led block.address)) [ inl private ↦ rw (not_shared, private) refl | inr new ↦ rw (not_shared, new) refl ]
]

pub one-more : (block : Parts) (led : Ledger) → (begun block led).counts.blocks ≡ led.counts.blocks + 1
one-more block led = (blocks_linked led.left block.address (found block (counted led))).0 ∙ blocks_found block (counted led)

-- a live block is not built
built_live : (block : Parts) (led : Ledger) → is_live led block.address ≡ true → (found block led).counts.built ≡ led.counts.built
built_live block led live = elim (cases_Bool (is_shared led block.address)) [
  | inl shared ↦ rw shared refl
  | inr not_shared ↦ elim (cases_Bool (is_private led block.address)) [
    | inl private ↦ rw (not_shared, private) refl
    | inr new ↦
        let none : fin.get led.shared block.address ≡ None = is_none (fin.get led.shared block.address) not_shared in
        let none' : fin.get led.private block.address ≡ None = is_none (fin.get led.private block.address) new in
        let impossible = rw (none, none') at live in absurd (cc)
  ]
]

pub built-live : (block : Parts) (led : Ledger) → is_live led block.address ≡ true → (begun block led).counts.built ≡ led.counts.built
built-live block led live = (blocks_linked led.left block.address (found block (counted led))).1 ∙ built_live block (counted led) live

pub not_either : (a b : Option Parts) → is_some (option_or a b) ≡ false → (is_some a ≡ false) × (is_some b ≡ false)
not_either None None h = (refl, refl)
not_either None (Some f) h = absurd (cc)
not_either (Some f) b h = absurd (cc)

pub built-new : (block : Parts) (led : Ledger) → is_live led block.address ≡ false → (begun block led).counts.built ≡ led.counts.built + 1
built-new block led gone =
    let apart = not_either (fin.get led.shared block.address) (fin.get led.private block.address) gone in
    let not_shared : is_shared (counted led) block.address ≡ false = apart.0 in
    let not_private : is_private (counted led) block.address ≡ false = apart.1 in
    (blocks_linked led.left block.address (found block (counted led))).1 ∙ rw (not_shared, not_private) refl

-- ---- the blocks of units

pub shares-only : (stays : ℕ → Bool) (led : Ledger) → SharesNoMore led (only stays led)
shares-only stays led a block is = kept_value (stays a) (fin.get led.shared a) block (sym (got-kept led.shared stays a) ∙ is)

pub shares-left : (e : Option ℕ) (led last : Ledger) → last ≡ left_by e led → SharesNoMore led last
shares-left e led last same a block is = let at : fin.get (left_by e led).shared a ≡ Some block = subst (λ (l : Ledger). fin.get l.shared a ≡ Some block) same is in ap (λ m. fin.get m a) (sym (shared_left e led)) ∙ at

pub shares-written : (span : Span) (led last : Ledger) → last ≡ written (range_of span) (left_by None led) → SharesNoMore led last
shares-written span led last same a block is =
    shares-only (λ x. is_clear (range_of span) (view (left_by None led) x)) (left_by None led) a block (subst (λ (l : Ledger). fin.get l.shared a ≡ Some block) same is)

shared_linked : (left : Option ℕ) (x : ℕ) (led : Ledger) → (linked_by left x led).shared ≡ led.shared
shared_linked None x led = refl
shared_linked (Some e) x led = elim (cases_Bool (is_some (fin.get led.links e))) [
  | inl linked ↦ rw linked refl
  | inr apart ↦ rw apart (elim (cases_Bool (is_live led (source e))) [ inl live ↦ rw live refl | inr gone ↦ rw gone refl ])
]

shared_found : (block : Parts) (led : Ledger) → (found block led).shared ≡ led.shared
shared_found block led = elim (cases_Bool (is_shared led block.address)) [
  | inl shared ↦ rw shared refl
  | inr not_shared ↦ elim (cases_Bool (is_private led block.address)) [ inl private ↦ rw (not_shared, private) refl | inr new ↦ rw (not_shared, new) refl ]
]

pub shared-begun : (block : Parts) (led : Ledger) → (begun block led).shared ≡ led.shared
shared-begun block led = shared_linked led.left block.address (found block (counted led)) ∙ shared_found block (counted led)

-- the same units are attached
pub units-kept : (tool : Tool) (max : ℕ) (isa : Isa) (led last : Ledger) → last.segments ≡ led.segments → SharesNoMore led last → AreOfUnits tool max isa led → AreOfUnits tool max isa last
units-kept tool max isa led last same shares units = record {
  have = λ i seg a is has. units.have i seg a (ap (λ s. fin.get s i) (sym same) ∙ is) has;
  stand = λ i seg a block is has there. units.stand i seg a block (ap (λ s. fin.get s i) (sym same) ∙ is) has (shares a block there);
}
