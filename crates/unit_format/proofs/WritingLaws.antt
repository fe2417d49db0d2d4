-- What was written, as the text of the unit.
use Rattle.std.proofs.Common.{◌≡◌, ℕ, ◌≤◌, List, [], ◌∷◌, ◌++◌, length, take, map, refl, sym, ap, ◌∙◌}
use Rattle.std.specs.List.{flat_map}
use Rattle.std.proofs.lemmas.List.{take_all}
use Rattle.std.proofs.lemmas.List.Folds.{flat_map-map}
use Rattle.fragment.specs.declared.Exit.{Exit}
use Rattle.fragment.specs.Parts.{Parts}
use Rattle.unit_set.specs.Held.{link_in}
use Rattle.unit_format.specs.declared.header.Version.TheVariants.{Two}
use Rattle.unit_format.specs.Text.{out_text, outs, fragment_text}
use Rattle.unit_format.specs.Units.{link_number, links_in, tied}

outs_text : (link : Exit → ℕ) (es : List Exit) → flat_map (λ e. out_text (e, link e)) es ≡ flat_map out_text (outs es (map link es))
outs_text link [] = refl
outs_text link (e ∷ es) = ap (λ (t : List ℕ). out_text (e, link e) ++ t) (outs_text link es)

pub outs_done : (old now : List ℕ) (frags : List Parts) (es : List Exit) (i : ℕ) → length es ≤ i → now ≡ old ++ flat_map (λ e. out_text (e, link_number (link_in frags e))) (take i es) → now ≡ old ++ flat_map out_text (outs es (links_in frags es))
outs_done old now frags es i all h =
    let link : Exit → ℕ = λ e. link_number (link_in frags e) in
    h ∙ ap (λ (xs : List Exit). old ++ flat_map (λ e. out_text (e, link_number (link_in frags e))) xs) (take_all i es all) ∙ ap (λ (t : List ℕ). old ++ t) (outs_text link es)

pub frags_done : (old now : List ℕ) (frags shown : List Parts) (i : ℕ) → shown ≡ frags → length shown ≤ i → now ≡ old ++ flat_map (λ f. fragment_text Two (tied frags f)) (take i shown) → now ≡ old ++ flat_map (fragment_text Two) (map (tied frags) frags)
frags_done old now frags shown i e all h =
    h ∙ ap (λ (xs : List Parts). old ++ flat_map (λ f. fragment_text Two (tied frags f)) xs) (take_all i shown all ∙ e) ∙ ap (λ (t : List ℕ). old ++ t) (sym (flat_map-map (fragment_text Two) (tied frags) frags))
