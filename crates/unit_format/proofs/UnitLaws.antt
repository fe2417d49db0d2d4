-- A text that is read is the text that was written, and what was written is read again.
use Rattle.std.proofs.Common.{◌≡◌, ℕ, ◌+◌, ◌^◌, ◌<◌, ◌≤◌, true, leb, eqb, ◌&&◌, List, [], ◌∷◌, ◌++◌, length, Some, None, Result, Ok, Err, refl, sym, ap, subst, ◌∙◌, append_assoc, arith, inl, inr}
use Rattle.std.specs.Int.{w32, to_le_bytes}
use Rattle.std.specs.List.{flat_map}
use Rattle.std.proofs.lemmas.Bool.{leb-true, le-leb, eqb-true, and_parts, and_from}
use Rattle.std.proofs.lemmas.List.{append-nil, nil_from_length}
use Rattle.cc_base.specs.Image.{Code, FitsSegment}
use Rattle.rv_decode.specs.declared.ins.Isa.{Isa}
use Rattle.rv_decode.specs.declared.ins.Isa.TheVariants.{I, Im}
use Rattle.unit_set.specs.Raw.{Tied, Raw}
use Rattle.unit_set.specs.Slot.{Slot}
use Rattle.unit_set.specs.Slot.{slot_text, IsSlot, slot_of}
use Rattle.unit_set.proofs.SlotLaws.{slot_is, slot_again}
use Rattle.unit_format.specs.declared.error.TextErr.{TextErr}
use Rattle.unit_format.specs.declared.error.TextErr.TheVariants as errors
use Rattle.unit_format.specs.declared.header.Version.{Version}
use Rattle.unit_format.specs.declared.header.Version.TheVariants.{One, Two}
use Rattle.std.specs.Prelude.{IfOk}
use Rattle.unit_format.specs.Steps.{Gives, rule, known, byte_at, bytes_at, number_at}
use Rattle.unit_format.specs.Text.{magic_text, isa_text, HasTexts, u32_text, name_text, image_text, fragment_text, text, code, AreFragments, IsRaw, Spells}
use Rattle.unit_format.specs.Reading.{version_of, version_at, isa_of, isa_at, same_isa, slot_at, fits_segment, image_at, fragments_at, text_at, unit_of}
use Rattle.unit_format.specs.Laws.{NoneBeginsAnother, TextsAreRead, ReadsWhatIsSpelled}
use Rattle.unit_format.proofs.Fields.{Octets, same_value, Yields, then, gives, weaker, ruled, knows, Cuts, ◌▸◌, cuts_none, byte_takes, byte_again, bytes_takes, bytes_again, wide32, number_takes, number_again}
use Rattle.unit_format.proofs.FragmentLaws.{rule_again, some_if, row_takes, row_again}

-- ---- the header

version_is : (n : ℕ) (v : Version) → version_of n ≡ Some v → to_le_bytes w32 n ≡ magic_text v
version_is n v h = elim (some_if (eqb n 0x31554343) One v _ h) [
  | inl p ↦ subst (λ (x : Version). to_le_bytes w32 n ≡ magic_text x) p.1 (ap (to_le_bytes w32) (eqb-true n 0x31554343 p.0))
  | inr h ↦ elim (some_if (eqb n 0x32554343) Two v None h) [
    | inl p ↦ subst (λ (x : Version). to_le_bytes w32 n ≡ magic_text x) p.1 (ap (to_le_bytes w32) (eqb-true n 0x32554343 p.0))
    | inr h ↦ absurd cc
  ]
]

version_takes : (bytes : List ℕ) → Octets bytes → Yields (version_at bytes) (λ x. Cuts bytes (magic_text x.0) x.1)
unfolding version_at
version_takes bytes fits =
    then (number_at w32 bytes) _ (number_takes wide32 bytes fits) (λ magic t.
    then (known (version_of magic.0) errors.Magic) _ (knows _ _) (λ version is.
    gives (version, magic.1) (subst (λ (text : List ℕ). Cuts bytes text magic.1) (version_is magic.0 version is) t.0)))

version_step : (n : ℕ) (v : Version) (rest : List ℕ) → n < 2 ^ 32 → version_of n ≡ Some v → version_at (to_le_bytes w32 n ++ rest) ≡ Ok (v, rest)
unfolding version_at
version_step n v rest lt is = rw (number_again wide32 n rest lt, is) refl

version_again : (v : Version) (rest : List ℕ) → version_at (magic_text v ++ rest) ≡ Ok (v, rest)
version_again One rest = version_step 0x31554343 One rest (omega arith) refl
version_again Two rest = version_step 0x32554343 Two rest (omega arith) refl

isa_is : (n : ℕ) (isa : Isa) → isa_of n ≡ Some isa → n ∷ [] ≡ isa_text Two isa
isa_is n isa h = elim (some_if (eqb n 0) I isa _ h) [
  | inl p ↦ subst (λ (x : Isa). n ∷ [] ≡ isa_text Two x) p.1 (ap (λ k. k ∷ []) (eqb-true n 0 p.0))
  | inr h ↦ elim (some_if (eqb n 1) Im isa None h) [
    | inl p ↦ subst (λ (x : Isa). n ∷ [] ≡ isa_text Two x) p.1 (ap (λ k. k ∷ []) (eqb-true n 1 p.0))
    | inr h ↦ absurd cc
  ]
]

isa_takes : (v : Version) (bytes : List ℕ) → Octets bytes → Yields (isa_at v bytes) (λ x. Cuts bytes (isa_text v x.0) x.1 × HasTexts v x.0)
unfolding isa_at
isa_takes One bytes fits = gives (I, bytes) (cuts_none bytes fits, refl)
isa_takes Two bytes fits =
    then (byte_at bytes) _ (byte_takes bytes fits) (λ n t.
    then (known (isa_of n.0) errors.Isa) _ (knows _ _) (λ isa is.
    gives (isa, n.1) (subst (λ (text : List ℕ). Cuts bytes text n.1) (isa_is n.0 isa is) t.0, tt)))

isa_again : (v : Version) (isa : Isa) (rest : List ℕ) → HasTexts v isa → isa_at v (isa_text v isa ++ rest) ≡ Ok (isa, rest)
unfolding isa_at
isa_again One isa rest is = rw is refl
isa_again Two I rest is = rw (byte_again 0 rest) refl
isa_again Two Im rest is = rw (byte_again 1 rest) refl

same_is : (a b : Isa) → same_isa a b ≡ true → a ≡ b
same_is I I h = refl
same_is I Im h = absurd cc
same_is Im I h = absurd cc
same_is Im Im h = refl

same_again : (a : Isa) → same_isa a a ≡ true
same_again I = refl
same_again Im = refl

slot_takes : (isa : Isa) (bytes : List ℕ) → Octets bytes → Yields (slot_at isa bytes) (λ x. Cuts bytes (name_text (slot_text x.0)) x.1 × IsSlot x.0 × (x.0.isa ≡ isa))
unfolding slot_at
slot_takes isa bytes fits =
    then (byte_at bytes) _ (byte_takes bytes fits) (λ n t.
    then (bytes_at n.0 n.1) _ (bytes_takes n.0 n.1 t.0.rest_octets) (λ name u.
    then (known (slot_of name.0) errors.Name) _ (knows _ _) (λ slot is.
    then (rule (same_isa slot.isa isa) errors.Name) _ (ruled _ _) (λ _ same.
    let both : Cuts bytes (n.0 ∷ name.0) name.1 = t.0 ▸ u.0 in
    let counted : Cuts bytes (name_text name.0) name.1 = subst (λ (k : ℕ). Cuts bytes (k ∷ name.0) name.1) (sym u.1) both in
    let spelled = slot_is name.0 slot is in
    gives (slot, name.1) (subst (λ (text : List ℕ). Cuts bytes (name_text text) name.1) (sym spelled.0) counted, spelled.1, same_is slot.isa isa same)))))

slot_read_again : (isa : Isa) (s : Slot) (rest : List ℕ) → IsSlot s → s.isa ≡ isa → slot_at isa (name_text (slot_text s) ++ rest) ≡ Ok (s, rest)
unfolding slot_at
slot_read_again isa s rest is same =
    let holds : same_isa s.isa isa ≡ true = subst (λ (x : Isa). same_isa s.isa x ≡ true) same (same_again s.isa) in
    rw (byte_again (length (slot_text s)) (slot_text s ++ rest), bytes_again (slot_text s) rest (length (slot_text s)) refl, slot_again s is, rule_again _ errors.Name holds) refl

fits_from : (start n : ℕ) (bytes : List ℕ) → length bytes ≡ n → fits_segment start n ≡ true → FitsSegment start bytes
fits_from start n bytes e h =
    let a = and_parts (leb 1 n && leb n 1048576) (leb (start + n) 4294967295) h in
    let b = and_parts (leb 1 n) (leb n 1048576) a.0 in
    let some : 1 ≤ n = leb-true _ _ b.0 in
    let most : n ≤ 1048576 = leb-true _ _ b.1 in
    let end : start + n ≤ 4294967295 = leb-true _ _ a.1 in
    (omega arith, omega arith, omega arith)

fits_to : (start : ℕ) (bytes : List ℕ) → FitsSegment start bytes → fits_segment start (length bytes) ≡ true
fits_to start bytes f =
    and_from (leb 1 (length bytes) && leb (length bytes) 1048576) (leb (start + length bytes) 4294967295)
    (and_from (leb 1 (length bytes)) (leb (length bytes) 1048576) (le-leb _ _ f.0) (le-leb _ _ f.1)) (le-leb _ _ f.2)

image_takes : (bytes : List ℕ) → Octets bytes → Yields (image_at bytes) (λ x. Cuts bytes (image_text x.0) x.1 × (x.0.start < 2 ^ 32) × FitsSegment x.0.start x.0.bytes)
unfolding image_at
image_takes bytes fits =
    then (number_at w32 bytes) _ (number_takes wide32 bytes fits) (λ start t.
    then (number_at w32 start.1) _ (number_takes wide32 start.1 t.0.rest_octets) (λ n u.
    then (rule (fits_segment start.0 n.0) errors.Count) _ (ruled _ _) (λ _ fit.
    then (bytes_at n.0 n.1) _ (bytes_takes n.0 n.1 u.0.rest_octets) (λ content w.
    let whole : Cuts bytes (u32_text start.0 ++ (u32_text n.0 ++ content.0)) content.1 = t.0 ▸ (u.0 ▸ w.0) in
    gives (code start.0 content.0, content.1)
    (subst (λ (k : ℕ). Cuts bytes (u32_text start.0 ++ (u32_text k ++ content.0)) content.1) (sym w.1) whole, t.1, fits_from start.0 n.0 content.0 w.1 fit)))))

image_again : (image : Code) (rest : List ℕ) → image.start < 2 ^ 32 → FitsSegment image.start image.bytes → image_at (image_text image ++ rest) ≡ Ok (image, rest)
unfolding image_at
image_again image rest lt fits =
    let grouped : image_text image ++ rest ≡ u32_text image.start ++ (u32_text (length image.bytes) ++ (image.bytes ++ rest)) =
    append_assoc (u32_text image.start) (u32_text (length image.bytes) ++ image.bytes) rest
    ∙ ap (λ (x : List ℕ). u32_text image.start ++ x) (append_assoc (u32_text (length image.bytes)) image.bytes rest) in
    ap image_at grouped
    ∙ rw (
      number_again wide32 image.start (u32_text (length image.bytes) ++ (image.bytes ++ rest)) lt,
      number_again wide32 (length image.bytes) (image.bytes ++ rest) (omega (arith, fits.1)),
      rule_again _ errors.Count (fits_to image.start image.bytes fits),
      bytes_again image.bytes rest (length image.bytes) refl,
    ) refl

-- ---- the fragments

frags_takes : (v : Version) (image : Code) (bytes : List ℕ) → Octets bytes
    → Yields (fragments_at v image bytes) (λ x. Cuts bytes (u32_text (length x.0) ++ flat_map (fragment_text v) x.0) x.1 × (length x.0 ≤ 16384) × AreFragments image 0 x.0)
unfolding fragments_at
frags_takes v image bytes fits =
    then (number_at w32 bytes) _ (number_takes wide32 bytes fits) (λ n t.
    then (rule (leb n.0 16384) errors.Count) _ (ruled _ _) (λ _ few.
    weaker (λ x u.
    let whole : Cuts bytes (u32_text n.0 ++ flat_map (fragment_text v) x.0) x.1 = t.0 ▸ u.0 in
    let n-is : n.0 ≡ length x.0 = sym u.1 in
    let le : n.0 ≤ 16384 = leb-true _ _ few in
    (subst (λ (k : ℕ). Cuts bytes (u32_text k ++ flat_map (fragment_text v) x.0) x.1) n-is whole, omega arith, u.2))
    (row_takes v image n.0 n.1 t.0.rest_octets)))

frags_again : (v : Version) (image : Code) (fs : List Tied) (rest : List ℕ) → length fs ≤ 16384 → AreFragments image 0 fs
    → fragments_at v image ((u32_text (length fs) ++ flat_map (fragment_text v) fs) ++ rest) ≡ Ok (fs, rest)
unfolding fragments_at
frags_again v image fs rest few all =
    ap (fragments_at v image) (append_assoc (u32_text (length fs)) (flat_map (fragment_text v) fs) rest)
    ∙ rw (number_again wide32 (length fs) (flat_map (fragment_text v) fs ++ rest) (omega (arith, few)), rule_again _ errors.Count (le-leb (length fs) 16384 few)) (row_again v image fs rest all)

-- ---- the whole

raw : Slot → Code → List Tied → Raw
raw slot image frags = record { slot = slot; image = image; frags = frags }

pub text_takes : (bytes : List ℕ) → Octets bytes → Yields (text_at bytes) (λ x. Cuts bytes (text x.0.0 x.0.1) x.1 × IsRaw x.0.0 x.0.1)
unfolding text_at raw
text_takes bytes fits =
    then (version_at bytes) _ (version_takes bytes fits) (λ version a.
    then (isa_at version.0 version.1) _ (isa_takes version.0 version.1 a.rest_octets) (λ isa b.
    then (slot_at isa.0 isa.1) _ (slot_takes isa.0 isa.1 b.0.rest_octets) (λ slot c.
    then (image_at slot.1) _ (image_takes slot.1 c.0.rest_octets) (λ image d.
    then (fragments_at version.0 image.0 image.1) _ (frags_takes version.0 image.0 image.1 d.0.rest_octets) (λ frags e.
    let b-is : Cuts version.1 (isa_text version.0 slot.0.isa) isa.1 = subst (λ (x : Isa). Cuts version.1 (isa_text version.0 x) isa.1) (sym c.2) b.0 in
    gives ((version.0, raw slot.0 image.0 frags.0), frags.1) (
      a ▸ (b-is ▸ (c.0 ▸ (d.0 ▸ e.0))),
      record {
        isa = subst (HasTexts version.0) (sym c.2) b.1;
        slot = c.1;
        start = d.1;
        image = d.2;
        count = e.1;
        fragments = e.2;
      },
    ))))))

pub text_again : (v : Version) (u : Raw) (rest : List ℕ) → IsRaw v u → text_at (text v u ++ rest) ≡ Ok ((v, u), rest)
unfolding text_at
text_again v u rest is =
    let a = magic_text v in
    let b = isa_text v u.slot.isa in
    let c = name_text (slot_text u.slot) in
    let d = image_text u.image in
    let e = u32_text (length u.frags) ++ flat_map (fragment_text v) u.frags in
    let grouped : text v u ++ rest ≡ a ++ (b ++ (c ++ (d ++ (e ++ rest)))) =
    append_assoc a (b ++ (c ++ (d ++ e))) rest
    ∙ ap (λ (x : List ℕ). a ++ x) (append_assoc b (c ++ (d ++ e)) rest
    ∙ ap (λ (x : List ℕ). b ++ x) (append_assoc c (d ++ e) rest
    ∙ ap (λ (x : List ℕ). c ++ x) (append_assoc d e rest))) in
    ap text_at grouped
    ∙ rw (
      version_again v (b ++ (c ++ (d ++ (e ++ rest)))),
      isa_again v u.slot.isa (c ++ (d ++ (e ++ rest))) is.isa,
      slot_read_again u.slot.isa u.slot (d ++ (e ++ rest)) is.slot refl,
      image_again u.image (e ++ rest) is.start is.image,
      frags_again v u.image u.frags rest is.count is.fragments,
    ) refl

-- what is read is spelled so
pub unit_takes : (bytes : List ℕ) → Octets bytes → Yields (unit_of bytes) (λ u. (v : Version) × Spells v bytes u)
unfolding unit_of
unit_takes bytes fits =
    then (text_at bytes) _ (text_takes bytes fits) (λ found t.
    then (rule (eqb (length found.1) 0) errors.Trailing) _ (ruled _ _) (λ _ ends.
    let nothing : found.1 ≡ [] = nil_from_length found.1 (eqb-true _ _ ends) in
    let all : bytes ≡ text found.0.0 found.0.1 = t.0.whole ∙ ap (λ (x : List ℕ). text found.0.0 found.0.1 ++ x) nothing ∙ append-nil (text found.0.0 found.0.1) in
    gives found.0.1 (found.0.0, (t.1, all))))

-- what is spelled so is read
pub unit_again : (v : Version) (bytes : List ℕ) (u : Raw) → Spells v bytes u → unit_of bytes ≡ Ok u
unfolding unit_of
unit_again v bytes u spells = ap unit_of (spells.1 ∙ sym (append-nil (text v u))) ∙ rw (text_again v u [] spells.0) refl

done : Version → Raw → List ℕ → Result ((Version × Raw) × List ℕ) TextErr
done v u rest = Ok ((v, u), rest)

same_done : (v w : Version) (a b : Raw) (x y : List ℕ) → done v a x ≡ done w b y → (v ≡ w) × (a ≡ b) × (x ≡ y)
unfolding done
same_done v w a b x y e =
    let p : (Version × Raw) × List ℕ = ((v, a), x) in
    let q : (Version × Raw) × List ℕ = ((w, b), y) in
    let same = same_value p q e in
    (ap (λ (t : (Version × Raw) × List ℕ). t.0.0) same, ap (λ (t : (Version × Raw) × List ℕ). t.0.1) same, ap (λ (t : (Version × Raw) × List ℕ). t.1) same)

pub begins_none : NoneBeginsAnother
unfolding done
begins_none v w a b x y of_a of_b e = same_done v w a b x y (sym (text_again v a x of_a) ∙ ap text_at e ∙ text_again w b y of_b)

pub are_read : TextsAreRead
are_read v u is = unit_again v (text v u) u (is, refl)

pub reads_spelled : ReadsWhatIsSpelled
reads_spelled bytes u fits = (λ e. (unit_takes bytes fits).holds u e, λ s. unit_again s.0 bytes u s.1)

pub spelled_if_read : (bytes : List ℕ) (r : Result Raw TextErr) → Octets bytes → Gives (λ u. u) r (unit_of bytes) → IfOk r (λ u. (v : Version) × Spells v bytes u)
spelled_if_read bytes (Ok u) fits h = (unit_takes bytes fits).holds u h
spelled_if_read bytes (Err e) fits h = tt
