-- The list of mapped modules.
use Rattle.std.proofs.Common.{◌≡◌, ℕ, Bool, List, [], ◌∷◌, Some, None, position, refl, sym, ap, ⊎_elim}
use Rattle.std.specs.Prelude.{find, remove}
use Rattle.std.proofs.lemmas.Bool.{cases_Bool}
use Rattle.plain_machine.specs.Memory.{without_first}
use Rattle.guest_mem.proofs.MemoryLemmas.{none_found, taken_at}

not_found : {X : Type 0} (p : X → Bool) (xs : List X) → find p xs ≡ None → without_first p xs ≡ xs
not_found p [] e = refl
not_found p (x ∷ xs) e =
    ⊎_elim
    (λ yes. let c = rw yes at e in absurd (cc))
    (λ no. let rest = rw no at e in rw no (ap (λ ys. x ∷ ys) (not_found p xs rest)))
    (cases_Bool (p x))

-- where none passes, none is taken away
pub without_none : {X : Type 0} (p : X → Bool) (xs : List X) → position p xs ≡ None → xs ≡ without_first p xs
without_none p xs e = sym (not_found p xs (none_found p xs e))

-- the first that passes is taken away
pub without_at : {X : Type 0} (p : X → Bool) (xs : List X) (i : ℕ) (d : X) → position p xs ≡ Some i → remove xs i ≡ without_first p xs
without_at p xs i d e = sym ((taken_at p xs i d e).1)
