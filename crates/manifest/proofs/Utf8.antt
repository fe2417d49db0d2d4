-- What the reading of bytes as a text tells.
use Rattle.std.proofs.Common.{◌≡◌, sym, refl, List, ℕ, Bool, true, false, Result, Ok, Err}
use Rattle.std.specs.Prelude.{MatchResult}
use Rattle.std.specs.Result.{is_ok}
use Rattle.std.specs.Str.{IsUtf8, is_utf8}
use Rattle.std.proofs.lemmas.Str.{is_utf8-from_IsUtf8, IsUtf8-from_is_utf8}

is_false : (b : Bool) → (b ≡ true → ⊥) → false ≡ b
is_false true h = absurd (h refl)
is_false false h = refl

pub tells : {X E : Type 0} (bs : List ℕ) (r : Result X E) (P : X → Type 0) (Q : E → Type 0) → MatchResult r (λ s. P s × IsUtf8 bs) (λ e. (IsUtf8 bs → ⊥) × Q e) → is_ok r ≡ is_utf8 bs
tells bs (Ok x) P Q h = sym (is_utf8-from_IsUtf8 bs h.1)
tells bs (Err e) P Q h = is_false (is_utf8 bs) (λ t. h.0 (IsUtf8-from_is_utf8 bs t))
