-- Two lists put together, each in its order.
use Rattle.std.specs.Prelude.{◌≡◌, ◌⊎◌, ℕ, ◌+◌, List, [], ◌∷◌}
use Rattle.std.proofs.Common.{ap, arith, ⊎_elim}
use Rattle.hub_lock.specs.Places.{total}

-- zs has the items of xs and those of ys, and each of the two lists keeps its order
abbrev pub IsMerged : {E : Type 0} → List E → List E → List E → Type 0
IsMerged [] xs ys = (xs ≡ []) × (ys ≡ [])
IsMerged {E} (z ∷ zs) xs ys = ((rest : List E) × (xs ≡ z ∷ rest) × IsMerged zs rest ys) ⊎ ((rest : List E) × (ys ≡ z ∷ rest) × IsMerged zs xs rest)

-- so a rule that compares two sums over the entries holds of two lists merged
pub total-merged : {E : Type 0} (f : E → ℕ) (zs xs ys : List E) → IsMerged zs xs ys → total f zs ≡ total f xs + total f ys
total-merged f [] xs ys m = omega (arith, ap (total f) m.0, ap (total f) m.1)
total-merged {E} f (z ∷ zs) xs ys m = ⊎_elim
    (λ (t : (rest : List E) × (xs ≡ z ∷ rest) × IsMerged zs rest ys). omega (arith, ap (total f) t.1, total-merged f zs t.0 ys t.2))
    (λ (t : (rest : List E) × (ys ≡ z ∷ rest) × IsMerged zs xs rest). omega (arith, ap (total f) t.1, total-merged f zs xs t.0 t.2))
    m
