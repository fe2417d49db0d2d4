-- A unit is attached, and blocks are offered to one.
use Rattle.std.proofs.Common.{◌≡◌, ℕ, ◌+◌, ◌%◌, ◌<◌, ◌==◌, ◌&&◌, ◌⊎◌, Bool, true, false, List, [], ◌∷◌, ◌++◌, length, map, Option, Some, None, refl, sym, ◌∙◌, ap, subst, arith, inl, inr}
use Rattle.std.specs.Prelude.{find, is_some, nat_le, not}
use Rattle.std.specs.Option.{option_or}
use Rattle.std.specs.List.{All, list_any}
use Rattle.std.specs.Ordering.{nat_cmp, eq_by_cmp}
use Rattle.std.specs.Cmp.{nat_cmp_total}
use Rattle.std.specs.FinMap as fin
use Rattle.std.specs.FinSet as set
use Rattle.std.proofs.lemmas.Bool.{cases_Bool, or_parts}
use Rattle.std.proofs.lemmas.Bool.Decides.{nat_tests}
use Rattle.std.proofs.lemmas.List.Elements.{All-head, All-tail}
use Rattle.std.proofs.lemmas.Option.{same_Some}
use Rattle.cc_base.specs.Image.{Code}
use Rattle.cc_base.specs.Span.{Range}
use Rattle.rv_decode.specs.declared.ins.Isa.{Isa}
use Rattle.probe_tools.specs.declared.tool.Tool.{Tool}
use Rattle.plain_machine.specs.Region.{Area, meets}
use Rattle.plain_machine.specs.Memory.{Memory, AreDisjoint, IsMemory, has_code, code_of, code_at, as_code}
use Rattle.fragment.specs.Parts.{Parts}
use Rattle.fragment.specs.Build.{built, can_build, has_word}
use Rattle.fragment.proofs.Testing.{fresh_can}
use Rattle.fragment.proofs.Values.{value-built}
use Rattle.engine.proofs.KeptCode.{and_left, and_right}
use Rattle.unit_set.specs.Held.{Held, IsFreshFor}
use Rattle.block_book.specs.Clauses.{blocks_of}
use Rattle.block_ledger.specs.Ledger.{Ledger, Blocks, Segment, attached, candidates, flushed, is_private, offered, offered_to, view, with_all, with_offered}
use Rattle.block_ledger.specs.Traced.{Scheme, built_in}
use Rattle.block_ledger.proofs.Gets.{got-insert, tied}
use Rattle.guest_proc.specs.Fresh.{AreFresh, AreMapped, AreOfUnits, extent}
use Rattle.guest_proc.specs.Kept.{IsReady}
use Rattle.guest_proc.specs.Maps.{IsVacant, put_to}
use Rattle.guest_proc.specs.Process.{Process}
use Rattle.guest_proc.proofs.Kept.{fresh-flushed, mapped-segments, shares-only, units-kept}

-- ---- the region of an address beside another

met_twice : (a : ℕ) (q r : Area) → meets a 1 q ≡ true → meets a 1 r ≡ true → meets q.start (length q.bytes) r ≡ true
met_twice a q r p s = grind (arith, nat_tests)

fails_found : (p q : Area → Bool) (xs : List Area) (x : Area) → find p xs ≡ Some x → list_any q xs ≡ false → q x ≡ false
fails_found p q [] x e f = absurd (cc)
fails_found p q (y ∷ ys) x e f =
    let parts = or_parts (q y) (list_any q ys) f in
    elim (cases_Bool (p y)) [
      | inl here ↦ let is : Some y ≡ Some x = rw here at e in subst (λ z. q z ≡ false) (same_Some y x is) parts.0
      | inr not_here ↦ let rest : find p ys ≡ Some x = rw not_here at e in fails_found p q ys x rest parts.1
    ]

both_true : (a b : Bool) → a ≡ true → b ≡ true → (a && b) ≡ true
both_true true b p q = q
both_true false b p q = absurd (cc)

-- an address in the region of another has the same region
same-region : (x a : ℕ) (m : Memory) (r : Area) → AreDisjoint m → find (has_code x 1) m ≡ Some r → meets a 1 r ≡ true → find (has_code a 1) m ≡ Some r
same-region x a [] r d e met = absurd (cc)
same-region x a (q ∷ qs) r d e met = elim (cases_Bool (has_code x 1 q)) [
  | inl here ↦
      let is : Some q ≡ Some r = rw here at e in
      let same : q ≡ r = same_Some q r is in
      let runs : q.flags.execute ≡ true = and_left q.flags.execute (meets x 1 q) here in
      let met_q : meets a 1 q ≡ true = subst (λ z. meets a 1 z ≡ true) (sym same) met in
      let code : has_code a 1 q ≡ true = both_true q.flags.execute (meets a 1 q) runs met_q in
      rw code is
  | inr not_here ↦
      let rest : find (has_code x 1) qs ≡ Some r = rw not_here at e in
      elim (cases_Bool (has_code a 1 q)) [
        | inl wrong ↦
            let both : meets q.start (length q.bytes) r ≡ true = met_twice a q r (and_right q.flags.execute (meets a 1 q) wrong) met in
            let apart : meets q.start (length q.bytes) r ≡ false = fails_found (has_code x 1) (meets q.start (length q.bytes)) qs r rest d.0 in
            absurd (cc)
        | inr right ↦ rw right (same-region x a qs r d.1 rest met)
      ]
]

word_met : (a : ℕ) (r : Area) → has_word (code_of r) a ≡ true → meets a 1 r ≡ true
word_met a r h = grind (arith, nat_tests)

code_by : (x a : ℕ) (m : Memory) (image : Code) (o : Option Area) → IsMemory m → find (has_code x 1) m ≡ o → as_code o ≡ Some image → has_word image a ≡ true → code_at m a ≡ Some image
code_by x a m image None good is e h = absurd (cc)
code_by x a m image (Some r) good is e h =
    let same : code_of r ≡ image = same_Some (code_of r) image e in
    ap as_code (same-region x a m r good.disjoint is (word_met a r (subst (λ c. has_word c a ≡ true) (sym same) h))) ∙ e

-- ---- the blocks of a unit

built_word : (image : Code) (isa : Isa) (tool : Tool) (max a : ℕ) (f : Parts) → 0 < max → built image a isa tool max ≡ Some f → has_word image a ≡ true
built_word image isa tool max a f some e =
    let at : f.address ≡ a = (value-built image a isa tool max f some e).1 in
    let can : can_build image f.address ≡ true = fresh_can image isa tool max f (ap (λ x. built image x isa tool max) at ∙ e) in
    subst (λ x. has_word image x ≡ true) at (and_right (f.address % 4 == 0) (has_word image f.address) can)

-- what is found among them was built there
found_built : (u : Held) (a : ℕ) (f : Parts) (blocks : List Parts) → All (IsFreshFor u.slot u.image) blocks → fin.find nat_cmp a (map (λ g. (g.address, g)) blocks) ≡ Some f →
    built u.image a u.slot.isa u.slot.tool u.slot.max ≡ Some f
found_built u a f [] are e = absurd (cc)
found_built u a f (g ∷ blocks) are e = elim (cases_Bool (eq_by_cmp nat_cmp a g.address)) [
  | inl same ↦
      let is : Some g ≡ Some f = rw same at e in
      ap (λ x. built u.image x u.slot.isa u.slot.tool u.slot.max) (tied a g.address same) ∙ All-head (IsFreshFor u.slot u.image) g blocks are ∙ is
  | inr other ↦ let rest : fin.find nat_cmp a (map (λ g. (g.address, g)) blocks) ≡ Some f = rw other at e in found_built u a f blocks (All-tail (IsFreshFor u.slot u.image) g blocks are) rest
]

find_both : (q : ℕ) (xs ys : List (ℕ × Parts)) → fin.find nat_cmp q (xs ++ ys) ≡ option_or (fin.find nat_cmp q xs) (fin.find nat_cmp q ys)
find_both q [] ys = refl
find_both q (x ∷ xs) ys = elim (cases_Bool (eq_by_cmp nat_cmp q x.0)) [ inl same ↦ rw same refl | inr other ↦ rw other (find_both q xs ys) ]

got_all : (m : Blocks) (unit : Blocks) (q : ℕ) → fin.get (with_all m (fin.entries unit)) q ≡ option_or (fin.get unit q) (fin.get m q)
got_all m unit q =
    fin.get-from_entries nat_cmp_total (fin.entries unit ++ fin.entries m) q
    ∙ find_both q (fin.entries unit) (fin.entries m)
    ∙ ap (λ o. option_or o (fin.find nat_cmp q (fin.entries m))) (sym (fin.get-entries unit q))
    ∙ ap (option_or (fin.get unit q)) (sym (fin.get-entries m q))

either_of : (a b c : Option Parts) (f : Parts) → option_or (option_or a b) c ≡ Some f → (a ≡ Some f) ⊎ (option_or b c ≡ Some f)
either_of None b c f e = inr e
either_of (Some x) b c f e = inl e

-- a unit that was made as the scheme says, in the code of a memory
pub record Fits (scheme : Scheme) (isa : Isa) (m : Memory) (u : Held) : Type 0 where
  pub memory : IsMemory m
  pub there : code_at m u.image.start ≡ Some u.image
  pub fresh : All (IsFreshFor u.slot u.image) u.frags
  pub same_isa : u.slot.isa ≡ isa
  pub same_tool : u.slot.tool ≡ scheme.tool
  pub same_max : u.slot.max ≡ scheme.max

unit_built : (scheme : Scheme) (isa : Isa) (m : Memory) (u : Held) (a : ℕ) (f : Parts) → Fits scheme isa m u → fin.get (blocks_of u.frags) a ≡ Some f → built u.image a isa scheme.tool scheme.max ≡ Some f
unit_built scheme isa m u a f fits is =
    ap (λ x. built u.image a x scheme.tool scheme.max) (sym fits.same_isa) ∙ ap (λ x. built u.image a u.slot.isa x scheme.max) (sym fits.same_tool) ∙ ap (λ x. built u.image a u.slot.isa u.slot.tool x) (sym fits.same_max)
    ∙ found_built u a f u.frags fits.fresh (sym (fin.get-from_entries nat_cmp_total (map (λ g. (g.address, g)) u.frags) a) ∙ is)

-- where one of its blocks begins, the memory has its image
image_there : (scheme : Scheme) (isa : Isa) (m : Memory) (u : Held) (a : ℕ) (f : Parts) → 0 < scheme.max → Fits scheme isa m u → built u.image a isa scheme.tool scheme.max ≡ Some f → code_at m a ≡ Some u.image
image_there scheme isa m u a f some fits there =
    code_by u.image.start a m u.image (find (has_code u.image.start 1) m) fits.memory refl fits.there (built_word u.image isa scheme.tool scheme.max a f some there)

fresh-attached : (scheme : Scheme) (isa : Isa) (m : Memory) (i : ℕ) (u : Held) (led : Ledger) → 0 < scheme.max → Fits scheme isa m u → AreFresh scheme.tool scheme.max isa m led →
    AreFresh scheme.tool scheme.max isa m (attached i u.image (blocks_of u.frags) led)
fresh-attached scheme isa m i u led some fits fresh a f is =
    let parts : option_or (option_or (fin.get (blocks_of u.frags) a) (fin.get led.shared a)) (fin.get led.private a) ≡ Some f =
    ap (λ o. option_or o (fin.get led.private a)) (sym (got_all led.shared (blocks_of u.frags) a)) ∙ is in
    elim (either_of (fin.get (blocks_of u.frags) a) (fin.get led.shared a) (fin.get led.private a) f parts) [
      | inl in_unit ↦
          let there = unit_built scheme isa m u a f fits in_unit in
          ap (λ o. built_in o a isa scheme.tool scheme.max) (image_there scheme isa m u a f some fits there) ∙ there
      | inr before ↦ fresh a f before
    ]

-- ---- the blocks of all units

some_value : (o : Option Parts) → is_some o ≡ true → (f : Parts) × (o ≡ Some f)
some_value None e = absurd (cc)
some_value (Some f) e = (f, refl)

either_two : (a b : Option Parts) (f : Parts) → option_or a b ≡ Some f → (a ≡ Some f) ⊎ (b ≡ Some f)
either_two None b f e = inr e
either_two (Some x) b f e = inl e

-- the segment of this unit
abbrev with_unit : Held → Segment
with_unit u = record { image = u.image; addresses = set.from_list (fin.keys (blocks_of u.frags)); offered = set.empty }

has_own : (unit : Blocks) (a : ℕ) → set.contains (set.from_list {R = nat_cmp} (fin.keys unit)) a ≡ is_some (fin.get unit a)
has_own unit a = set.contains-from_list nat_cmp_total (fin.keys unit) a ∙ sym (fin.contains_key-keys unit a)

same_word : (c d : Code) (a : ℕ) → d.start ≡ c.start → length d.bytes ≡ length c.bytes → has_word c a ≡ true → has_word d a ≡ true
same_word c d a s l h = subst (λ x. (nat_le x a && nat_le (a + 4) (x + length d.bytes)) ≡ true) (sym s) (subst (λ n. (nat_le c.start a && nat_le (a + 4) (c.start + n)) ≡ true) (sym l) h)

-- a word in the region of a code that a memory has elsewhere is in that one
start_by : (m : Memory) (a : ℕ) (c image : Code) (o : Option Code) → IsMemory m → code_at m c.start ≡ o → extent o ≡ extent (Some c) → has_word c a ≡ true → code_at m a ≡ Some image → c.start ≡ image.start
start_by m a c image None good is e h there = absurd (cc)
start_by m a c image (Some d) good is e h there =
    let same : record { start = d.start; len = length d.bytes } ≡ record { start = c.start; len = length c.bytes } = same_Some (record { start = d.start; len = length d.bytes }) (record { start = c.start; len = length c.bytes }) e in
    let start : d.start ≡ c.start = ap (λ (r : Range). r.start) same in
    let within : has_word d a ≡ true = same_word c d a start (ap (λ (r : Range). r.len) same) h in
    let here : code_at m a ≡ Some d = code_by c.start a m d (find (has_code c.start 1) m) good refl is within in
    sym start ∙ ap (λ (x : Code). x.start) (same_Some d image (sym here ∙ there))

module _ (scheme : Scheme) (isa : Isa) (m : Memory) (i : ℕ) (u : Held) (led : Ledger) (some : 0 < scheme.max) (fits : Fits scheme isa m u) where
  own_have : (a : ℕ) → set.contains (with_unit u).addresses a ≡ true → is_some (built u.image a isa scheme.tool scheme.max) ≡ true
  own_have a has = let f = some_value (fin.get (blocks_of u.frags) a) (sym (has_own (blocks_of u.frags) a) ∙ has) in ap is_some (unit_built scheme isa m u a f.0 fits f.1)

  own_stand : (a : ℕ) (block : Parts) → set.contains (with_unit u).addresses a ≡ true → fin.get (with_all led.shared (fin.entries (blocks_of u.frags))) a ≡ Some block → built u.image a isa scheme.tool scheme.max ≡ Some block
  own_stand a block has there =
      let f = some_value (fin.get (blocks_of u.frags) a) (sym (has_own (blocks_of u.frags) a) ∙ has) in
      let is : Some f.0 ≡ Some block = sym (got_all led.shared (blocks_of u.frags) a ∙ ap (λ o. option_or o (fin.get led.shared a)) f.1) ∙ there in
      unit_built scheme isa m u a f.0 fits f.1 ∙ is

  other_stand : IsVacant u.image led → AreMapped m led → AreOfUnits scheme.tool scheme.max isa led → (j : ℕ) (seg : Segment) (a : ℕ) (block : Parts) → fin.get led.segments j ≡ Some seg → set.contains seg.addresses a ≡ true →
      fin.get (with_all led.shared (fin.entries (blocks_of u.frags))) a ≡ Some block → built seg.image a isa scheme.tool scheme.max ≡ Some block
  other_stand vacant mapped units j seg a block is has there = elim (either_two (fin.get (blocks_of u.frags) a) (fin.get led.shared a) block (sym (got_all led.shared (blocks_of u.frags) a) ∙ there)) [
    | inl own ↦
        let f = some_value (built seg.image a isa scheme.tool scheme.max) (units.have j seg a is has) in
        let at : code_at m a ≡ Some u.image = image_there scheme isa m u a block some fits (unit_built scheme isa m u a block fits own) in
        absurd (vacant.none j seg is (start_by m a seg.image u.image (code_at m seg.image.start) fits.memory refl (mapped j seg is) (built_word seg.image isa scheme.tool scheme.max a f.0 some f.1) at))
    | inr before ↦ units.stand j seg a block is has before
  ]

  units-attached : IsVacant u.image led → AreMapped m led → AreOfUnits scheme.tool scheme.max isa led → AreOfUnits scheme.tool scheme.max isa (attached i u.image (blocks_of u.frags) led)
  units-attached vacant mapped units = record {
    have = λ j seg a is has. elim (cases_Bool (eq_by_cmp nat_cmp j i)) [
      | inl same ↦
          let one : Some (with_unit u) ≡ Some seg = (let h = sym (got-insert led.segments i (with_unit u) j) ∙ is in rw same at h) in
          subst (λ (s : Segment). set.contains s.addresses a ≡ true → is_some (built s.image a isa scheme.tool scheme.max) ≡ true) (same_Some (with_unit u) seg one) (own_have a) has
      | inr other ↦ let old : fin.get led.segments j ≡ Some seg = (let h = sym (got-insert led.segments i (with_unit u) j) ∙ is in rw other at h) in units.have j seg a old has
    ];
    stand = λ j seg a block is has there. elim (cases_Bool (eq_by_cmp nat_cmp j i)) [
      | inl same ↦
          let one : Some (with_unit u) ≡ Some seg = (let h = sym (got-insert led.segments i (with_unit u) j) ∙ is in rw same at h) in
          subst (λ (s : Segment). set.contains s.addresses a ≡ true → built s.image a isa scheme.tool scheme.max ≡ Some block) (same_Some (with_unit u) seg one) (λ h. own_stand a block h there) has
      | inr other ↦ let old : fin.get led.segments j ≡ Some seg = (let h = sym (got-insert led.segments i (with_unit u) j) ∙ is in rw other at h) in other_stand vacant mapped units j seg a block old has there
    ];
  }

mapped-attached : (m : Memory) (i : ℕ) (image : Code) (unit : Blocks) (led : Ledger) → code_at m image.start ≡ Some image → AreMapped m led → AreMapped m (attached i image unit led)
mapped-attached m i image unit led here mapped j seg is = elim (cases_Bool (eq_by_cmp nat_cmp j i)) [
  | inl same ↦
      let one = let h = sym (got-insert led.segments i _ j) ∙ is in rw same at h in
      let e : image ≡ seg.image = ap (λ s. s.image) (same_Some _ seg one) in
      subst (λ c. extent (code_at m c.start) ≡ extent (Some c)) e (ap extent here)
  | inr other ↦ let old : fin.get led.segments j ≡ Some seg = (let h = sym (got-insert led.segments i _ j) ∙ is in rw other at h) in mapped j seg old
]

pub ready-attached : (scheme : Scheme) (p : Process) (i : ℕ) (u : Held) → 0 < scheme.max → Fits scheme p.state.cpu.isa p.state.memory u → IsVacant u.image p.ledger → IsReady scheme p →
    IsReady scheme (put_to p p.state (attached i u.image (blocks_of u.frags) p.ledger))
ready-attached scheme p i u some fits vacant ready = record {
  aligned = ready.aligned;
  fresh = fresh-attached scheme p.state.cpu.isa p.state.memory i u p.ledger some fits ready.fresh;
  mapped = mapped-attached p.state.memory i u.image (blocks_of u.frags) p.ledger fits.there ready.mapped;
  units = units-attached scheme p.state.cpu.isa p.state.memory i u p.ledger some fits vacant ready.mapped ready.units;
  inert = ready.inert;
  small = ready.small;
  few = ready.few;
}

-- ---- blocks are offered

view_offered : (o : Option Segment) (i : ℕ) (led : Ledger) (a : ℕ) → view (offered_to i o led) a ≡ view led a
view_offered None i led a = refl
view_offered (Some seg) i led a = refl

blocks_offered : (o : Option Segment) (i : ℕ) (led : Ledger) → (offered_to i o led).counts.blocks ≡ led.counts.blocks
blocks_offered None i led = refl
blocks_offered (Some seg) i led = refl

offered_one : (m : Memory) (i j : ℕ) (one more seg : Segment) (led : Ledger) → more.image ≡ one.image → fin.get led.segments i ≡ Some one → AreMapped m led → fin.get (fin.insert led.segments i more) j ≡ Some seg →
    extent (code_at m seg.image.start) ≡ extent (Some seg.image)
offered_one m i j one more seg led same at mapped is = elim (cases_Bool (eq_by_cmp nat_cmp j i)) [
  | inl here ↦
      let got : Some more ≡ Some seg = let h = sym (got-insert led.segments i more j) ∙ is in rw here at h in
      let e : one.image ≡ seg.image = sym same ∙ ap (λ s. s.image) (same_Some more seg got) in
      subst (λ c. extent (code_at m c.start) ≡ extent (Some c)) e (mapped i one at)
  | inr other ↦ let old : fin.get led.segments j ≡ Some seg = (let h = sym (got-insert led.segments i more j) ∙ is in rw other at h) in mapped j seg old
]

mapped_offered : (m : Memory) (i : ℕ) (o : Option Segment) (led : Ledger) → fin.get led.segments i ≡ o → AreMapped m led → AreMapped m (offered_to i o led)
mapped_offered m i None led at mapped = mapped
mapped_offered m i (Some one) led at mapped = λ j seg is. offered_one m i j one (with_offered one (candidates one led)) seg led refl at mapped is

-- the segment as it was before an offer
record Was (led : Ledger) (j : ℕ) (seg : Segment) : Type 0 where
  before : Segment
  at : fin.get led.segments j ≡ Some before
  image : before.image ≡ seg.image
  addresses : before.addresses ≡ seg.addresses

offered_was : (i j : ℕ) (one more seg : Segment) (led : Ledger) → more.image ≡ one.image → more.addresses ≡ one.addresses → fin.get led.segments i ≡ Some one → fin.get (fin.insert led.segments i more) j ≡ Some seg → Was led j seg
offered_was i j one more seg led image addresses at is = elim (cases_Bool (eq_by_cmp nat_cmp j i)) [
  | inl here ↦
      let got : Some more ≡ Some seg = let h = sym (got-insert led.segments i more j) ∙ is in rw here at h in
      let same : more ≡ seg = same_Some more seg got in
      record { before = one; at = ap (fin.get led.segments) (tied j i here) ∙ at; image = sym image ∙ ap (λ s. s.image) same; addresses = sym addresses ∙ ap (λ s. s.addresses) same }
  | inr other ↦ let old : fin.get led.segments j ≡ Some seg = (let h = sym (got-insert led.segments i more j) ∙ is in rw other at h) in record { before = seg; at = old; image = refl; addresses = refl }
]

units_offered : (tool : Tool) (max : ℕ) (isa : Isa) (i : ℕ) (o : Option Segment) (led : Ledger) → fin.get led.segments i ≡ o → AreOfUnits tool max isa led → AreOfUnits tool max isa (offered_to i o led)
units_offered tool max isa i None led at units = units
units_offered tool max isa i (Some one) led at units =
    let was = λ (j : ℕ) (seg : Segment) (is : fin.get (fin.insert led.segments i (with_offered one (candidates one led))) j ≡ Some seg). offered_was i j one (with_offered one (candidates one led)) seg led refl refl at is in
    record {
      have = λ j seg a is has.
          let w = was j seg is in
          subst (λ (c : Code). is_some (built c a isa tool max) ≡ true) w.image (units.have j w.before a w.at (ap (λ s. set.contains s a) w.addresses ∙ has));
      stand = λ j seg a block is has there.
          let w = was j seg is in
          subst (λ (c : Code). built c a isa tool max ≡ Some block) w.image (units.stand j w.before a block w.at (ap (λ s. set.contains s a) w.addresses ∙ has) there);
    }

pub ready-offered : (scheme : Scheme) (p : Process) (i : ℕ) → IsReady scheme p → IsReady scheme (put_to p p.state (offered i p.ledger))
ready-offered scheme p i ready = record {
  aligned = ready.aligned;
  fresh = λ a block is. ready.fresh a block (sym (view_offered (fin.get p.ledger.segments i) i p.ledger a) ∙ is);
  mapped = mapped_offered p.state.memory i (fin.get p.ledger.segments i) p.ledger refl ready.mapped;
  units = units_offered scheme.tool scheme.max p.state.cpu.isa i (fin.get p.ledger.segments i) p.ledger refl ready.units;
  inert = ready.inert;
  small = ready.small;
  few = let same : (offered i p.ledger).counts.blocks ≡ p.ledger.counts.blocks = blocks_offered (fin.get p.ledger.segments i) i p.ledger in omega (arith, ready.few);
}

-- ---- the private blocks go

pub ready-flushed : (scheme : Scheme) (p : Process) → IsReady scheme p → IsReady scheme (put_to p p.state (flushed p.ledger))
ready-flushed scheme p ready = record {
  aligned = ready.aligned;
  fresh = fresh-flushed scheme.tool scheme.max p.state.cpu.isa p.state.memory p.ledger ready.fresh;
  mapped = mapped-segments p.state.memory p.ledger (flushed p.ledger) refl ready.mapped;
  units = units-kept scheme.tool scheme.max p.state.cpu.isa p.ledger (flushed p.ledger) refl (shares-only (λ a. not (is_private p.ledger a)) p.ledger) ready.units;
  inert = ready.inert;
  small = ready.small;
  few = ready.few;
}
