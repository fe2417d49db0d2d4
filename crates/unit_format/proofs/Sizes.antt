-- How long the text of version 2 is, and what of it the writer has put.
use Rattle.std.proofs.Common.{◌≡◌, ℕ, zero, suc, ◌+◌, ◌*◌, ◌<◌, ◌≤◌, List, [], ◌∷◌, ◌++◌, length, take, get_or, map, refl, sym, ap, ◌∙◌, arith, length-append}
use Rattle.std.specs.List.{flat_map}
use Rattle.std.proofs.lemmas.List.{take_all}
use Rattle.std.proofs.lemmas.List.Folds.{flat_map-map}
use Rattle.fragment.specs.declared.Exit.{Exit}
use Rattle.fragment.specs.declared.Exit.TheVariants.{Direct, Indirect, Asks, Stop}
use Rattle.fragment.specs.declared.Probe.{Probe}
use Rattle.fragment.specs.Parts.{Parts}
use Rattle.rv_decode.specs.declared.ins.Isa.{Isa}
use Rattle.rv_decode.specs.declared.ins.Isa.TheVariants.{I, Im}
use Rattle.unit_set.specs.Held.{Held, addresses, link_at}
use Rattle.unit_set.specs.Slot.{slot_text}
use Rattle.unit_format.specs.declared.header.Version.TheVariants.{Two}
use Rattle.unit_format.specs.Text.{magic_text, isa_text, count_text, u32_text, name_text, image_text, probe_text, exit_text, Out, out_text, outs, fragment_text, text}
use Rattle.unit_format.specs.Units.{link_number, links_in, tied, raw_of}

all_alike : {A : Type 0} (f : A → List ℕ) (m : ℕ) (xs : List A) → ((x : A) → length (f x) ≡ m) → length (flat_map f xs) ≡ m * length xs
all_alike f m [] each = omega arith
all_alike f m (x ∷ xs) each = omega (arith, length-append (f x) (flat_map f xs), each x, all_alike f m xs each)

exit_size : (e : Exit) → length (exit_text e) ≡ 5
exit_size (Direct target) = refl
exit_size Indirect = refl
exit_size (Asks target) = refl
exit_size Stop = refl

out_size : (out : Out) → length (out_text out) ≡ 9
out_size out = omega (arith, length-append (exit_text out.0) (u32_text out.1), exit_size out.0)

outs_size : (link : Exit → ℕ) (es : List Exit) → length (outs es (map link es)) ≡ length es
outs_size link [] = refl
outs_size link (e ∷ es) = ap suc (outs_size link es)

pub outs_text_size : (frags : List Parts) (es : List Exit) → length (flat_map out_text (outs es (links_in frags es))) ≡ 9 * length es
outs_text_size frags es = omega (arith, all_alike out_text 9 (outs es (links_in frags es)) out_size, outs_size (λ e. link_number (link_at (addresses frags) e)) es)

pub probes_text_size : (ps : List Probe) → length (flat_map probe_text ps) ≡ 2 * length ps
probes_text_size ps = all_alike probe_text 2 ps (λ p. refl)

pub fragment_size : (frags : List Parts) (f : Parts) → length (fragment_text Two (tied frags f)) ≡ 9 + 2 * length f.probes + 9 * length f.exits
fragment_size frags f =
    let a = u32_text f.address in
    let b = count_text Two (length f.words) in
    let c = count_text Two (length f.probes) in
    let d = flat_map probe_text f.probes in
    let e : List ℕ = length f.exits ∷ flat_map out_text (outs f.exits (links_in frags f.exits)) in
    omega (arith, length-append ((a ++ b) ++ (c ++ d)) e, length-append (a ++ b) (c ++ d), length-append a b, length-append c d, probes_text_size f.probes, outs_text_size frags f.exits)

isa_size : (isa : Isa) → length (isa_text Two isa) ≡ 1
isa_size I = refl
isa_size Im = refl

pub text_size : (u : Held) → length (text Two (raw_of u)) ≡ 18 + length (slot_text u.slot) + length u.image.bytes + length (flat_map (fragment_text Two) (raw_of u).frags)
text_size u =
    let a = magic_text Two in
    let b = isa_text Two u.slot.isa in
    let c = name_text (slot_text u.slot) in
    let n = u32_text (length u.image.bytes) in
    let d = image_text u.image in
    let frags = flat_map (fragment_text Two) (raw_of u).frags in
    let e = u32_text (length (raw_of u).frags) ++ frags in
    omega (arith, length-append a (b ++ (c ++ (d ++ e))), length-append b (c ++ (d ++ e)), length-append c (d ++ e), length-append d e, isa_size u.slot.isa, length-append (u32_text u.image.start) (n ++ u.image.bytes), length-append n u.image.bytes, length-append (u32_text (length (raw_of u).frags)) frags)

-- ---- the part of a list's text that stands

module _ {A : Type 0} (f : A → List ℕ) where
  next_from : (xs : List A) (i : ℕ) (d : A) → i < length xs → length (flat_map f (take (suc i) xs)) ≡ length (flat_map f (take i xs)) + length (f (get_or xs i d))
  next_from [] i d lt = absurd (omega (arith, lt))
  next_from (x ∷ xs) zero d lt = omega (arith, length-append (f x) [])
  next_from (x ∷ xs) (suc i) d lt = omega (arith, length-append (f x) (flat_map f (take (suc i) xs)), length-append (f x) (flat_map f (take i xs)), next_from xs i d (omega (arith, lt)))

  size_next : (xs : List A) (i : ℕ) (d : A) → i < length xs → length (flat_map f (take (i + 1) xs)) ≡ length (flat_map f (take i xs)) + length (f (get_or xs i d))
  size_next xs i d lt =
      let e : i + 1 ≡ suc i = omega arith in
      rw e (next_from xs i d lt)

  -- what stands and the next have room where all have
  size_within : (xs : List A) (i : ℕ) (d : A) → i < length xs → length (flat_map f (take i xs)) + length (f (get_or xs i d)) ≤ length (flat_map f xs)
  size_within [] i d lt = absurd (omega (arith, lt))
  size_within (x ∷ xs) zero d lt = omega (arith, length-append (f x) (flat_map f xs))
  size_within (x ∷ xs) (suc i) d lt = omega (arith, length-append (f x) (flat_map f (take i xs)), length-append (f x) (flat_map f xs), size_within xs i d (omega (arith, lt)))

abbrev pub one_text : List Parts → Parts → List ℕ
one_text frags f = fragment_text Two (tied frags f)

all_texts : (frags : List Parts) → flat_map (fragment_text Two) (map (tied frags) frags) ≡ flat_map (one_text frags) frags
all_texts frags = flat_map-map (fragment_text Two) (tied frags) frags

module _ (frags shown : List Parts) (i : ℕ) (same : shown ≡ frags) where
  pub all_stand : length shown ≤ i → length (flat_map (one_text frags) (take i shown)) ≡ length (flat_map (fragment_text Two) (map (tied frags) frags))
  all_stand all = ap (λ xs. length (flat_map (one_text frags) xs)) (take_all i shown all ∙ same) ∙ ap length (sym (all_texts frags))

  module _ (f : Parts) (lt : i < length shown) (at : f ≡ get_or shown i f) where
    pub one_more : length (flat_map (one_text frags) (take (i + 1) shown)) ≡ length (flat_map (one_text frags) (take i shown)) + length (one_text frags f)
    one_more = size_next (one_text frags) shown i f lt ∙ ap (λ g. length (flat_map (one_text frags) (take i shown)) + length (one_text frags g)) (sym at)

    pub has_room : length (flat_map (one_text frags) (take i shown)) + length (one_text frags f) ≤ length (flat_map (fragment_text Two) (map (tied frags) frags))
    has_room =
        let e : length (one_text frags f) ≡ length (one_text frags (get_or shown i f)) = ap (λ g. length (one_text frags g)) at in
        let all : length (flat_map (one_text frags) shown) ≡ length (flat_map (fragment_text Two) (map (tied frags) frags)) = ap (λ xs. length (flat_map (one_text frags) xs)) same ∙ ap length (sym (all_texts frags)) in
        omega (arith, size_within (one_text frags) shown i f lt, e, all)
