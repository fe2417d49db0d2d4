-- A refusal is that of the front: it stands whatever follows, and a cut text lacks bytes.
use Rattle.std.proofs.Common.{◌≡◌, ℕ, Bool, true, false, eqb, List, [], ◌∷◌, ◌++◌, length, Result, Ok, Err, refl, sym, ap, ◌∙◌, inl, inr}
use Rattle.std.proofs.lemmas.List.{append-nil}
use Rattle.unit_set.specs.Raw.{Raw}
use Rattle.unit_format.specs.declared.error.TextErr.{TextErr}
use Rattle.unit_format.specs.declared.error.TextErr.TheVariants.{Short, Trailing}
use Rattle.unit_format.specs.declared.header.Version.{Version}
use Rattle.unit_format.specs.Steps.{◌>>=◌, rule}
use Rattle.unit_format.specs.Text.{text}
use Rattle.unit_format.specs.Reading.{text_at, unit_of}
use Rattle.unit_format.specs.Laws.{RefusalsStand, FrontsAreShort}
use Rattle.unit_format.proofs.Following.{Follows, text_follows}
use Rattle.unit_format.proofs.UnitLaws.{text_again}

abbrev Found : Type 0
Found = (Version × Raw) × List ℕ

-- the unit, where nothing is left over
abbrev alone : Result Found TextErr → Result Raw TextErr
alone r = r >>= λ found. rule (eqb (length found.1) 0) Trailing >>= λ _. Ok found.0.1

left_over : (b : Bool) (u : Raw) (e : TextErr) → (rule b Trailing >>= λ _. Ok u) ≡ Err e → e ≡ Trailing
left_over true u e eq = absurd cc
left_over false u e eq = cc

stands : (r later : Result Found TextErr) (more : List ℕ) (e : TextErr) → (e ≡ Short → ⊥) → (e ≡ Trailing → ⊥) → Follows more r later → alone r ≡ Err e → alone later ≡ Err e
stands (Ok x) later more e not_short not_left h eq = absurd (not_left (left_over (eqb (length x.1) 0) x.0.1 e eq))
stands (Err d) later more e not_short not_left h eq = elim (h.err d refl) [
  | inl short ↦ absurd (not_short (cc))
  | inr same ↦ rw same eq
]

pub refusal_stands : RefusalsStand
unfolding unit_of
refusal_stands bytes more e not_short not_left eq = stands (text_at bytes) (text_at (bytes ++ more)) more e not_short not_left (text_follows bytes more) eq

abbrev found : Found → Result Found TextErr
found x = Ok x

same_found : (x y : Found) → found x ≡ found y → x ≡ y
same_found x y eq = cc

nothing_behind : (xs ys : List ℕ) → xs ++ ys ≡ [] → ys ≡ []
nothing_behind [] ys e = e
nothing_behind (x ∷ xs) ys e = absurd cc

cut : (r later : Result Found TextErr) (rest : List ℕ) (u : Version × Raw) → Follows rest r later → later ≡ found (u, []) → (rest ≡ [] → ⊥) → alone r ≡ Err Short
cut (Ok x) later rest u h whole some =
    let same : found (x.0, x.1 ++ rest) ≡ found (u, []) = sym (h.ok x refl) ∙ whole in
    let behind : x.1 ++ rest ≡ [] = ap (λ (y : Found). y.1) (same_found (x.0, x.1 ++ rest) (u, []) same) in
    absurd (some (nothing_behind x.1 rest behind))
cut (Err d) later rest u h whole some = elim (h.err d refl) [
  | inl short ↦ rw short refl
  | inr same ↦ absurd cc
]

pub front_is_short : FrontsAreShort
unfolding unit_of
front_is_short v u front rest is e some =
    let whole : text_at (front ++ rest) ≡ found ((v, u), []) = ap text_at (sym e ∙ sym (append-nil (text v u))) ∙ text_again v u [] is in
    cut (text_at front) (text_at (front ++ rest)) rest (v, u) (text_follows front rest) whole some
