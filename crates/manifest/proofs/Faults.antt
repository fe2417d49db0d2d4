-- The first rule that fails, of rules in parts.
use Rattle.std.proofs.Common.{◌≡◌, refl, List, [], ◌∷◌, ◌++◌, Option, Some, None, ap, ◌∙◌}
use Rattle.manifest.specs.declared.error.ManifestErr.{ManifestErr}
use Rattle.manifest.specs.Keys.{Rule, first_failing, first_of, first_in}

of_more : (a b c : Option ManifestErr) → first_of a (first_of b c) ≡ first_of (first_of a b) c
of_more None b c = refl
of_more (Some e) b c = refl

pub first_in-append : (ps qs : List (List Rule)) → first_in (ps ++ qs) ≡ first_of (first_in ps) (first_in qs)
first_in-append [] qs = refl
first_in-append (p ∷ ps) qs = ap (first_of (first_failing p)) (first_in-append ps qs) ∙ of_more (first_failing p) (first_in ps) (first_in qs)
