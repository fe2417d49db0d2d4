-- What the last word of a block does to the code in memory.
use Rattle.std.proofs.Common.{◌≡◌, ℕ, zero, suc, ◌%◌, ◌/◌, ◌<◌, ◌==◌, Bool, true, false, if◌then◌else◌, length, Result, Ok, Err, refl, sym, arith, ⊎_elim, subst}
use Rattle.std.proofs.lemmas.Bool.{cases_Bool}
use Rattle.plain_machine.specs.declared.access.Access.{Access}
use Rattle.plain_machine.specs.declared.access.Size.{Size}
use Rattle.plain_machine.specs.declared.access.Size.TheVariants.{Byte, Half, Word}
use Rattle.plain_machine.specs.declared.cpu.Cpu.{Cpu}
use Rattle.plain_machine.specs.declared.cpu.Done.TheVariants as done
use Rattle.plain_machine.specs.declared.effect.Effect.{Effect}
use Rattle.plain_machine.specs.declared.effect.Effect.TheVariants as effects
use Rattle.plain_machine.specs.Memory.{Memory, put, region_at, stored, touches_code, low_bytes, size_of}
use Rattle.plain_machine.specs.Step.{Outcome, performed, store, next}
use Rattle.guest_mem.proofs.MemoryLemmas.{made_is}
use Rattle.engine.specs.Standing.{IsStored}

length-low_bytes : (n value : ℕ) → length (low_bytes n value) ≡ n
length-low_bytes zero value = refl
length-low_bytes (suc n) value = omega (arith, length-low_bytes n (value / 256))

some_bytes : (size : Size) → 0 < size_of size
some_bytes Byte = omega arith
some_bytes Half = omega arith
some_bytes Word = omega arith

-- a transfer and a call keep the memory, a store into code is one at its span
abbrev pub Leaves : Memory → Outcome → Type 0
Leaves m (done.Next, c, after) = Unit {0}
Leaves m (done.Taken, c, after) = after ≡ m
Leaves m (done.Asked, c, after) = after ≡ m
Leaves m (done.Touched span, c, after) = IsStored span m after
Leaves m (done.Fault kind, c, after) = after ≡ m

either : (m : Memory) (b : Bool) (x y : Outcome) → Leaves m x → Leaves m y → Leaves m (if b then x else y)
either m true x y p q = p
either m false x y p q = q

store-leaves : (cpu : Cpu) (m : Memory) (addr value : ℕ) (size : Size) (r : Result Memory Access) → stored m addr size value ≡ r → Leaves m (store cpu m addr (size_of size) r)
store-leaves cpu m addr value size (Ok after) made =
    let bytes = low_bytes (size_of size) value in
    let is : put addr bytes m ≡ after = made_is m (put addr bytes m) after (region_at m addr (length bytes)) made in
    let n : length bytes ≡ size_of size = length-low_bytes (size_of size) value in
    let some : 0 < length bytes = rw n (some_bytes size) in
    let O : Bool → Outcome = λ b. (if b then done.Touched (record { start = addr; len = size_of size }) else done.Next, record cpu { pc = next cpu }, after) in
    ⊎_elim
    (λ met. subst (λ b. Leaves m (O b)) (sym met) (record { before = m; same = λ a. refl; bytes = bytes; some = some; size = n; made = sym is }))
    (λ apart. subst (λ b. Leaves m (O b)) (sym apart) tt)
    (cases_Bool (touches_code after addr (size_of size)))
store-leaves cpu m addr value size (Err a) made = refl

pub leaves-so : (e : Effect) (cpu : Cpu) (m : Memory) → Leaves m (performed e cpu m)
leaves-so (effects.Set rd value) cpu m = tt
leaves-so (effects.Jump rd target) cpu m = either m (target % 4 == 0) _ _ refl refl
leaves-so (effects.Store addr size value) cpu m = store-leaves cpu m addr value size (stored m addr size value) refl
leaves-so effects.Nothing cpu m = tt
leaves-so effects.Ask cpu m = refl
leaves-so (effects.Fault kind) cpu m = refl

if_isa : (b : Bool) (x y : Outcome) (cpu : Cpu) → x.1.isa ≡ cpu.isa → y.1.isa ≡ cpu.isa → (if b then x else y).1.isa ≡ cpu.isa
if_isa true x y cpu p q = p
if_isa false x y cpu p q = q

store-isa : (cpu : Cpu) (m : Memory) (addr n : ℕ) (r : Result Memory Access) → (store cpu m addr n r).1.isa ≡ cpu.isa
store-isa cpu m addr n (Ok after) = refl
store-isa cpu m addr n (Err a) = refl

-- no word changes the instruction set
pub isa-kept : (e : Effect) (cpu : Cpu) (m : Memory) → (performed e cpu m).1.isa ≡ cpu.isa
isa-kept (effects.Set rd value) cpu m = refl
isa-kept (effects.Jump rd target) cpu m = if_isa (target % 4 == 0) _ _ cpu refl refl
isa-kept (effects.Store addr size value) cpu m = store-isa cpu m addr (size_of size) (stored m addr size value)
isa-kept effects.Nothing cpu m = refl
isa-kept effects.Ask cpu m = refl
isa-kept (effects.Fault kind) cpu m = refl
