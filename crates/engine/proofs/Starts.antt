-- A word moves no region.
use Rattle.std.proofs.Common.{◌≡◌, ℕ, ◌%◌, ◌==◌, Bool, true, false, if◌then◌else◌, List, [], ◌∷◌, length, Some, Result, Ok, Err, refl, sym, ◌∙◌, ap, subst, inl, inr}
use Rattle.std.specs.Prelude.{find}
use Rattle.std.proofs.lemmas.Bool.{cases_Bool}
use Rattle.plain_machine.specs.declared.access.Access.{Access}
use Rattle.plain_machine.specs.declared.access.Size.{Size}
use Rattle.plain_machine.specs.declared.cpu.Cpu.{Cpu}
use Rattle.plain_machine.specs.declared.effect.Effect.{Effect}
use Rattle.plain_machine.specs.declared.effect.Effect.TheVariants as effects
use Rattle.plain_machine.specs.Region.{holds}
use Rattle.plain_machine.specs.Memory.{Memory, put, written, region_at, stored, low_bytes, size_of, starts_at}
use Rattle.plain_machine.specs.Step.{Outcome, performed, store}
use Rattle.guest_mem.proofs.MemoryLemmas.{made_is, with_bytes_keeps}
use Rattle.engine.specs.Standing.{shape, SameRegions}

pub starts-put : (addr : ℕ) (bytes : List ℕ) (m : Memory) → SameRegions m (put addr bytes m)
starts-put addr bytes [] s = refl
starts-put addr bytes (q ∷ qs) s = elim (cases_Bool (holds addr (length bytes) q)) [
  | inl held ↦ rw held (elim (cases_Bool (starts_at s q)) [ inl here ↦ (let keeps = with_bytes_keeps addr bytes q held in rw here (ap (λ n. Some (q.flags.execute, n)) keeps.length)) | inr elsewhere ↦ rw elsewhere refl ])
  | inr apart ↦ rw apart (elim (cases_Bool (starts_at s q)) [ inl here ↦ rw here refl | inr elsewhere ↦ rw elsewhere (starts-put addr bytes qs s) ])
]

pub starts-written : (m after : Memory) (addr : ℕ) (bytes : List ℕ) → written m addr bytes ≡ Ok after → SameRegions m after
starts-written m after addr bytes made =
    let is : put addr bytes m ≡ after = made_is m (put addr bytes m) after (region_at m addr (length bytes)) made in
    subst (λ x. SameRegions m x) is (starts-put addr bytes m)

if_starts : (m : Memory) (b : Bool) (x y : Outcome) → SameRegions m x.2 → SameRegions m y.2 → SameRegions m (if b then x else y).2
if_starts m true x y p q = p
if_starts m false x y p q = q

store-starts : (cpu : Cpu) (m : Memory) (addr value : ℕ) (size : Size) (r : Result Memory Access) → stored m addr size value ≡ r → SameRegions m (store cpu m addr (size_of size) r).2
store-starts cpu m addr value size (Ok after) made = starts-written m after addr (low_bytes (size_of size) value) made
store-starts cpu m addr value size (Err a) made = λ s. refl

pub step-starts : (e : Effect) (cpu : Cpu) (m : Memory) → SameRegions m (performed e cpu m).2
step-starts (effects.Set rd value) cpu m = λ s. refl
step-starts (effects.Jump rd target) cpu m = if_starts m (target % 4 == 0) _ _ (λ s. refl) (λ s. refl)
step-starts (effects.Store addr size value) cpu m = store-starts cpu m addr value size (stored m addr size value) refl
step-starts effects.Nothing cpu m = λ s. refl
step-starts effects.Ask cpu m = λ s. refl
step-starts (effects.Fault kind) cpu m = λ s. refl

pub starts-through : (old now after : Memory) (o : Outcome) (cpu : Cpu) (e : Effect) → SameRegions old now → o ≡ performed e cpu now → o.2 ≡ after → SameRegions old after
starts-through old now after o cpu e before did is s =
    ap (λ m. shape (find (starts_at s) m)) (sym is) ∙ ap (λ x. shape (find (starts_at s) x.2)) did ∙ step-starts e cpu now s ∙ before s
