-- What one word does to the processor and to the code in memory.
use Rattle.std.proofs.Common.{◌≡◌, ℕ, zero, suc, ◌%◌, ◌/◌, ◌<◌, ◌==◌, Bool, true, false, if◌then◌else◌, length, Result, Ok, Err, refl, sym, arith, ⊎_elim, subst}
use Rattle.std.specs.Prelude.{find}
use Rattle.std.proofs.lemmas.Bool.{cases_Bool}
use Rattle.rv_decode.specs.declared.ins.Ins.{Ins}
use Rattle.rv_decode.specs.declared.ins.Ins.TheVariants as ins
use Rattle.plain_machine.specs.declared.access.Access.{Access}
use Rattle.plain_machine.specs.declared.access.Size.{Size}
use Rattle.plain_machine.specs.declared.access.Size.TheVariants.{Byte, Half, Word}
use Rattle.plain_machine.specs.declared.cpu.Cpu.{Cpu}
use Rattle.plain_machine.specs.declared.cpu.Done.TheVariants as done
use Rattle.plain_machine.specs.declared.effect.Effect.{Effect}
use Rattle.plain_machine.specs.declared.effect.Effect.TheVariants as effects
use Rattle.plain_machine.specs.declared.effect.Extension.{Extension}
use Rattle.plain_machine.specs.declared.effect.Extension.TheVariants.{Zero, Sign}
use Rattle.plain_machine.specs.Memory.{Memory, IsMemory, has_code, put, region_at, stored, loaded, touches_code, low_bytes, size_of}
use Rattle.plain_machine.specs.Step.{Outcome, performed, effect_of, store, load, next, offset, reg}
use Rattle.plain_machine.specs.Cut.{ends_block}
use Rattle.guest_mem.proofs.MemoryLemmas.{IsMemory-put, made_is}
use Rattle.engine.proofs.KeptCode.{code-put}

-- ---- a word that does not end its block goes on behind it

-- it does not transfer control or call
abbrev pub GoesOn : Cpu → Outcome → Type 0
GoesOn cpu (done.Next, c, m) = c.pc ≡ next cpu
GoesOn cpu (done.Taken, c, m) = ⊥
GoesOn cpu (done.Asked, c, m) = ⊥
GoesOn cpu (done.Touched span, c, m) = Unit {0}
GoesOn cpu (done.Fault kind, c, m) = Unit {0}

loads-on : (rd : ℕ) (e : Extension) (size : Size) (r : Result ℕ Access) (cpu : Cpu) (m : Memory) → GoesOn cpu (performed (load rd e size r) cpu m)
loads-on rd e size (Ok n) cpu m = refl
loads-on rd e size (Err a) cpu m = tt

stores-on : (cpu : Cpu) (m : Memory) (addr n : ℕ) (r : Result Memory Access) → GoesOn cpu (store cpu m addr n r)
stores-on cpu m addr n (Ok after) =
    let P : Bool → Type 0 = λ b. GoesOn cpu (if b then done.Touched (record { start = addr; len = n }) else done.Next, record cpu { pc = next cpu }, after) in
    elim (touches_code after addr n) as P [ true ↦ tt | false ↦ refl ]
stores-on cpu m addr n (Err a) = tt

pub goes-on : (i : Ins) (cpu : Cpu) (m : Memory) → ends_block i ≡ false → GoesOn cpu (performed (effect_of i cpu m) cpu m)
goes-on (ins.Jal rd imm) cpu m e = cc
goes-on (ins.Jalr rd rs1 imm) cpu m e = cc
goes-on (ins.Beq rs1 rs2 imm) cpu m e = cc
goes-on (ins.Bne rs1 rs2 imm) cpu m e = cc
goes-on (ins.Blt rs1 rs2 imm) cpu m e = cc
goes-on (ins.Bge rs1 rs2 imm) cpu m e = cc
goes-on (ins.Bltu rs1 rs2 imm) cpu m e = cc
goes-on (ins.Bgeu rs1 rs2 imm) cpu m e = cc
goes-on ins.Ecall cpu m e = cc
goes-on ins.Ebreak cpu m e = cc
goes-on ins.None cpu m e = cc
goes-on (ins.Lb rd rs1 imm) cpu m e = loads-on rd Sign Byte (loaded m (offset (reg cpu rs1) imm) Byte) cpu m
goes-on (ins.Lh rd rs1 imm) cpu m e = loads-on rd Sign Half (loaded m (offset (reg cpu rs1) imm) Half) cpu m
goes-on (ins.Lw rd rs1 imm) cpu m e = loads-on rd Sign Word (loaded m (offset (reg cpu rs1) imm) Word) cpu m
goes-on (ins.Lbu rd rs1 imm) cpu m e = loads-on rd Zero Byte (loaded m (offset (reg cpu rs1) imm) Byte) cpu m
goes-on (ins.Lhu rd rs1 imm) cpu m e = loads-on rd Zero Half (loaded m (offset (reg cpu rs1) imm) Half) cpu m
goes-on (ins.Sb rs1 rs2 imm) cpu m e = stores-on cpu m (offset (reg cpu rs1) imm) 1 (stored m (offset (reg cpu rs1) imm) Byte (reg cpu rs2))
goes-on (ins.Sh rs1 rs2 imm) cpu m e = stores-on cpu m (offset (reg cpu rs1) imm) 2 (stored m (offset (reg cpu rs1) imm) Half (reg cpu rs2))
goes-on (ins.Sw rs1 rs2 imm) cpu m e = stores-on cpu m (offset (reg cpu rs1) imm) 4 (stored m (offset (reg cpu rs1) imm) Word (reg cpu rs2))
goes-on ins.Fence cpu m e = refl
goes-on ins.FenceI cpu m e = refl
goes-on _ cpu m e = refl

-- ---- where control goes on behind a word, the code is as it was

pub record Keeps (cpu c : Cpu) (m after : Memory) : Type 0 where
  pub isa : c.isa ≡ cpu.isa
  pub memory : IsMemory m → IsMemory after
  pub code : (a : ℕ) → find (has_code a 1) after ≡ find (has_code a 1) m

abbrev pub KeepsCode : Cpu → Memory → Outcome → Type 0
KeepsCode cpu m (done.Next, c, after) = Keeps cpu c m after
KeepsCode cpu m (done.Taken, c, after) = Unit {0}
KeepsCode cpu m (done.Asked, c, after) = Unit {0}
KeepsCode cpu m (done.Touched span, c, after) = Unit {0}
KeepsCode cpu m (done.Fault kind, c, after) = Unit {0}

length-low_bytes : (n value : ℕ) → length (low_bytes n value) ≡ n
length-low_bytes zero value = refl
length-low_bytes (suc n) value = omega (arith, length-low_bytes n (value / 256))

some_bytes : (size : Size) → 0 < size_of size
some_bytes Byte = omega arith
some_bytes Half = omega arith
some_bytes Word = omega arith

store-keeps : (cpu : Cpu) (m after : Memory) (addr value : ℕ) (size : Size) → stored m addr size value ≡ Ok after → touches_code after addr (size_of size) ≡ false →
    Keeps cpu (record cpu { pc = next cpu }) m after
store-keeps cpu m after addr value size made apart =
    let bytes = low_bytes (size_of size) value in
    let is : put addr bytes m ≡ after = made_is m (put addr bytes m) after (region_at m addr (length bytes)) made in
    let n : length bytes ≡ size_of size = length-low_bytes (size_of size) value in
    let off : touches_code (put addr bytes m) addr (length bytes) ≡ false = rw (is, n) apart in
    let some : 0 < length bytes = rw n (some_bytes size) in
    record {
      isa = refl;
      memory = λ good. subst (λ x. IsMemory x) is (IsMemory-put addr bytes m good);
      code = λ a. subst (λ x. find (has_code a 1) x ≡ find (has_code a 1) m) is (code-put a addr bytes m some off);
    }

stores-keep : (cpu : Cpu) (m : Memory) (addr value : ℕ) (size : Size) (r : Result Memory Access) → stored m addr size value ≡ r → KeepsCode cpu m (store cpu m addr (size_of size) r)
stores-keep cpu m addr value size (Ok after) made =
    let O : Bool → Outcome = λ b. (if b then done.Touched (record { start = addr; len = size_of size }) else done.Next, record cpu { pc = next cpu }, after) in
    ⊎_elim
    (λ yes. subst (λ b. KeepsCode cpu m (O b)) (sym yes) tt)
    (λ no. subst (λ b. KeepsCode cpu m (O b)) (sym no) (store-keeps cpu m after addr value size made no))
    (cases_Bool (touches_code after addr (size_of size)))
stores-keep cpu m addr value size (Err a) made = tt

same : (cpu c : Cpu) (m : Memory) → c.isa ≡ cpu.isa → Keeps cpu c m m
same cpu c m e = record { isa = e; memory = λ good. good; code = λ a. refl }

jumps-keep : (cpu c : Cpu) (m : Memory) (b : Bool) (kind : Outcome) → KeepsCode cpu m kind → KeepsCode cpu m (if b then (done.Taken, c, m) else kind)
jumps-keep cpu c m true kind k = tt
jumps-keep cpu c m false kind k = k

pub keeps-code : (e : Effect) (cpu : Cpu) (m : Memory) → KeepsCode cpu m (performed e cpu m)
keeps-code (effects.Set rd value) cpu m = same cpu _ m refl
keeps-code (effects.Jump rd target) cpu m = jumps-keep cpu _ m (target % 4 == 0) _ tt
keeps-code (effects.Store addr size value) cpu m = stores-keep cpu m addr value size (stored m addr size value) refl
keeps-code effects.Nothing cpu m = same cpu _ m refl
keeps-code effects.Ask cpu m = tt
keeps-code (effects.Fault kind) cpu m = tt
