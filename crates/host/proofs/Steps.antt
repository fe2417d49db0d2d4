-- Steps one after the other, the first failure of which is the answer.
use Rattle.std.proofs.Common.{◌≡◌, Result, Ok, Err, sym, ◌∙◌, ap, inl, inr, ◌⊎◌}
use Rattle.host_text.specs.declared.cause.Cause.{Cause}
use Rattle.host.specs.Outcome.{◌>>=◌}

pub goes_on : {A B : Type 0} (r : Result A Cause) (f : A → Result B Cause) (x : A) → r ≡ Ok x → (r >>= f) ≡ f x
goes_on r f x is = ap (λ q. q >>= f) is

pub stops : {A B : Type 0} (r : Result A Cause) (f : A → Result B Cause) (cause : Cause) → r ≡ Err cause → (r >>= f) ≡ Err cause
stops r f cause is = ap (λ q. q >>= f) is

abbrev cause_in : {A : Type 0} → Cause → Result A Cause → Cause
cause_in other (Ok x) = other
cause_in other (Err e) = e

-- a failure is one of the step, or comes behind it
pub fails_in : {A B : Type 0} (r : Result A Cause) (f : A → Result B Cause) (cause : Cause) → (r >>= f) ≡ Err cause →
    (r ≡ Err cause) ⊎ ((x : A) × (f x ≡ Err cause))
fails_in (Ok x) f cause is = inr (x, is)
fails_in (Err e) f cause is = inl (ap (λ q. Err (cause_in e q)) is)

-- the same, unless it fails by a cause that is free to come
abbrev pub Same : {A : Type 0} → (Cause → Type 0) → Result A Cause → Result A Cause → Type 0
Same Free a b = ((cause : Cause) × (a ≡ Err cause) × Free cause) ⊎ (a ≡ b)

same_then : {A : Type 0} {Free : Cause → Type 0} {a b c : Result A Cause} → Same Free a b → b ≡ c → Same Free a c
same_then (inl free) next = inl free
same_then (inr is) next = inr (is ∙ next)

pub same_steps : {A B : Type 0} {Free : Cause → Type 0} (r q : Result A Cause) (f g : A → Result B Cause) → Same Free r q → ((x : A) → Same Free (f x) (g x)) → Same Free (r >>= f) (q >>= g)
same_steps r q f g (inl (cause, is, free)) rest = inl (cause, stops r f cause is, free)
same_steps (Ok x) q f g (inr is) rest = same_then (rest x) (sym (goes_on q g x (sym is)))
same_steps (Err e) q f g (inr is) rest = inr (sym (stops q g e (sym is)))
