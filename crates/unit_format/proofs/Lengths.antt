-- How long a text can be.
use Rattle.std.proofs.Common.{◌≡◌, ◌⊎◌, ℕ, ◌+◌, ◌*◌, ◌≤◌, List, [], ◌∷◌, ◌++◌, length, true, leb, ◌&&◌, arith, inl, inr}
use Rattle.std.specs.List.{flat_map, list_all}
use Rattle.std.proofs.lemmas.Bool.{leb-true, and_parts}
use Rattle.std.proofs.lemmas.List.{length-append}
use Rattle.cc_base.specs.Image.{Code, FitsSegment}
use Rattle.fragment.specs.declared.Exit.{Exit}
use Rattle.fragment.specs.declared.Exit.TheVariants.{Direct, Indirect, Asks, Stop}
use Rattle.rv_decode.specs.declared.ins.Isa.{Isa}
use Rattle.rv_decode.specs.declared.ins.Isa.TheVariants.{I, Im}
use Rattle.unit_set.specs.Raw.{Tied}
use Rattle.unit_set.specs.Slot.{Slot}
use Rattle.probe_tools.specs.declared.tool.Tool.{Tool}
use Rattle.probe_tools.specs.declared.tool.Tool.TheVariants.{Blocks, Calls, Memory}
use Rattle.unit_set.specs.Slot.{slot_text, tool_text, isa_tail, is_module, is_module_byte, IsSlot}
use Rattle.unit_set.proofs.SlotText.{text_length}
use Rattle.unit_format.specs.declared.header.Version.{Version}
use Rattle.unit_format.specs.declared.header.Version.TheVariants.{One, Two}
use Rattle.unit_format.specs.Text.{magic_text, isa_text, count_text, u32_text, name_text, image_text, probe_text, exit_text, Out, out_text, outs, fragment_text, IsFragment, AreFragments}
use Rattle.unit_format.specs.Laws.{TextsAreShort}

joined : (xs ys : List ℕ) (m n : ℕ) → length xs ≤ m → length ys ≤ n → length (xs ++ ys) ≤ m + n
joined xs ys m n a b = omega (arith, a, b, length-append xs ys)

all_joined : {A : Type 0} (f : A → List ℕ) (xs : List A) (m : ℕ) → ((x : A) → length (f x) ≤ m) → length (flat_map f xs) ≤ length xs * m
all_joined f [] m each = omega arith
all_joined f (x ∷ xs) m each = omega (arith, joined (f x) (flat_map f xs) m (length xs * m) (each x) (all_joined f xs m each))

-- ---- a fragment

count_short : (v : Version) (n : ℕ) → length (count_text v n) ≤ 2
count_short One n = omega arith
count_short Two n = omega arith

exit_short : (e : Exit) → length (exit_text e) ≤ 5
exit_short (Direct target) = omega arith
exit_short Indirect = omega arith
exit_short (Asks target) = omega arith
exit_short Stop = omega arith

out_short : (out : Out) → length (out_text out) ≤ 9
out_short out = joined (exit_text out.0) (u32_text out.1) 5 4 (exit_short out.0) (omega arith)

length_outs : (es : List Exit) (ls : List ℕ) → length (outs es ls) ≤ length es
length_outs [] ls = omega arith
length_outs (e ∷ es) [] = omega arith
length_outs (e ∷ es) (l ∷ ls) = omega (arith, length_outs es ls)

one_or_two : (n : ℕ) → (n ≡ 1) ⊎ (n ≡ 2) → n ≤ 2
one_or_two n (inl a) = omega arith
one_or_two n (inr b) = omega arith

fragment_short : (v : Version) (image : Code) (least : ℕ) (f : Tied) → IsFragment image least f → length (fragment_text v f) ≤ 155
fragment_short v image least f is =
    let a = u32_text f.frag.address in
    let b = count_text v (length f.frag.words) in
    let c = count_text v (length f.frag.probes) in
    let d = flat_map probe_text f.frag.probes in
    let e : List ℕ = length f.frag.exits ∷ flat_map out_text (outs f.frag.exits f.links) in
    let probes : length d ≤ 128 = omega (arith, all_joined probe_text f.frag.probes 2 (λ p. omega arith), is.few_probes) in
    let exits : length e ≤ 19 =
    omega (arith, all_joined out_text (outs f.frag.exits f.links) 9 out_short, length_outs f.frag.exits f.links, one_or_two (length f.frag.exits) is.exits) in
    let counts = joined a b 4 2 (omega arith) (count_short v (length f.frag.words)) in
    let front = joined (a ++ b) (c ++ d) 6 130 counts (joined c d 2 128 (count_short v (length f.frag.probes)) probes) in
    joined ((a ++ b) ++ (c ++ d)) e 136 19 front exits

fragments_short : (v : Version) (image : Code) (least : ℕ) (fs : List Tied) → AreFragments image least fs → length (flat_map (fragment_text v) fs) ≤ length fs * 155
fragments_short v image least [] are = omega arith
fragments_short v image least (f ∷ fs) are =
    omega (arith, joined (fragment_text v f) (flat_map (fragment_text v) fs) 155 (length fs * 155) (fragment_short v image least f are.0) (fragments_short v image (f.frag.address + 1) fs are.1))

-- ---- the whole

magic_short : (v : Version) → length (magic_text v) ≤ 4
magic_short One = omega arith
magic_short Two = omega arith

isa_short : (v : Version) (isa : Isa) → length (isa_text v isa) ≤ 1
isa_short One isa = omega arith
isa_short Two I = omega arith
isa_short Two Im = omega arith

tool_short : (t : Tool) → length (tool_text t) ≤ 6
tool_short Blocks = omega arith
tool_short Calls = omega arith
tool_short Memory = omega arith

tail_short : (isa : Isa) → length (isa_tail isa) ≤ 3
tail_short I = omega arith
tail_short Im = omega arith

module_short : (name : List ℕ) → is_module name ≡ true → length name ≤ 16
module_short name h = leb-true _ _ (and_parts (leb 1 (length name)) (leb (length name) 16) (and_parts (leb 1 (length name) && leb (length name) 16) (list_all is_module_byte name) h).0).1

-- a name has at most 40 characters
pub spelling_short : (s : Slot) → IsSlot s → length (slot_text s) ≤ 40
spelling_short s is = omega (arith, text_length s, tool_short s.tool, tail_short s.isa, module_short s.name is.name)

name_short : (s : Slot) → IsSlot s → length (name_text (slot_text s)) ≤ 41
name_short s is = omega (arith, spelling_short s is)

image_short : (image : Code) → FitsSegment image.start image.bytes → length (image_text image) ≤ 1048584
image_short image fits =
    let n = u32_text (length image.bytes) in
    joined (u32_text image.start) (n ++ image.bytes) 4 1048580 (omega arith) (joined n image.bytes 4 1048576 (omega arith) fits.1)

frags_short : (v : Version) (image : Code) (fs : List Tied) → length fs ≤ 16384 → AreFragments image 0 fs → length (u32_text (length fs) ++ flat_map (fragment_text v) fs) ≤ 2539524
frags_short v image fs few are = joined (u32_text (length fs)) (flat_map (fragment_text v) fs) 4 2539520 (omega arith) (omega (arith, few, fragments_short v image 0 fs are))

pub are_short : TextsAreShort
are_short v u is =
    let a = magic_text v in
    let b = isa_text v u.slot.isa in
    let c = name_text (slot_text u.slot) in
    let d = image_text u.image in
    let e = u32_text (length u.frags) ++ flat_map (fragment_text v) u.frags in
    let behind = joined d e 1048584 2539524 (image_short u.image is.image) (frags_short v u.image u.frags is.count is.fragments) in
    let all = joined a (b ++ (c ++ (d ++ e))) 4 3588150 (magic_short v) (joined b (c ++ (d ++ e)) 1 3588149 (isa_short v u.slot.isa) (joined c (d ++ e) 41 3588108 (name_short u.slot is.slot) behind)) in
    omega (arith, all)
