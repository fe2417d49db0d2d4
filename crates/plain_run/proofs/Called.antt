-- What a call leaves, by what it comes to.
use Rattle.std.proofs.Common.{◌≡◌, ℕ, ◌==◌, ◌||◌, Bool, true, false, if◌then◌else◌, List, length, Option, Some, None, Result, Ok, Err, refl, take, ◌+◌, ◌-◌, inl, inr}
use Rattle.std.proofs.lemmas.Bool.{cases_Bool}
use Rattle.std.specs.Prelude.{nat_lt, nat_le, min}
use Rattle.plain_machine.specs.declared.access.Access.{Access}
use Rattle.plain_machine.specs.declared.access.MemErr.{MemErr}
use Rattle.plain_machine.specs.declared.cpu.Cpu.{Cpu}
use Rattle.plain_machine.specs.declared.io.Asked.TheVariants as asked
use Rattle.plain_machine.specs.declared.io.Heap.{Heap}
use Rattle.plain_machine.specs.Memory.{Memory, written, read}
use Rattle.plain_machine.specs.Step.{reg, next}
use Rattle.plain_machine.specs.Io.{Io}
use Rattle.plain_machine.specs.Calls.{Reply, called, counted, after_read, read_input, read_call, after_write, write_output, write_call, after_brk, brk_at, heap_refusal, is_mapped, map_call, unmap_call, replace_call, if_left}

-- A call that ends the guest changes nothing of its input and output; any other goes on behind itself, and keeps the
-- modules that are mapped. One that is to be unmapped is mapped.
abbrev pub Leaves : Cpu → Io → Reply → Type 0
Leaves cpu io (asked.Back span, c, m, after) = (c.pc ≡ next cpu) × (after.mapped ≡ io.mapped)
Leaves cpu io (asked.Exit status, c, m, after) = after ≡ io
Leaves cpu io (asked.Map k, c, m, after) = (c.pc ≡ next cpu) × (after.mapped ≡ io.mapped)
Leaves cpu io (asked.Unmap k, c, m, after) = (c.pc ≡ next cpu) × (after.mapped ≡ io.mapped) × (is_mapped after k ≡ true)
Leaves cpu io (asked.Replace k f, c, m, after) = (c.pc ≡ next cpu) × (after.mapped ≡ io.mapped)
Leaves cpu io (asked.OutputFull, c, m, after) = after ≡ io

either : (cpu : Cpu) (io : Io) (b : Bool) (x y : Reply) → Leaves cpu io x → Leaves cpu io y → Leaves cpu io (if b then x else y)
either cpu io true x y p q = p
either cpu io false x y p q = q

reads : (cpu : Cpu) (m : Memory) (io : Io) (buf n : ℕ) (r : Result Memory Access) → Leaves cpu io (after_read cpu m io buf n r)
reads cpu m io buf n (Ok after) = (refl, refl)
reads cpu m io buf n (Err e) = (refl, refl)

writes : (cpu : Cpu) (m : Memory) (io : Io) (len : ℕ) (r : Result (List ℕ) Access) → Leaves cpu io (after_write cpu m io len r)
writes cpu m io len (Ok bytes) = either cpu io (nat_lt 1048576 (length io.output + len)) _ _ refl (refl, refl)
writes cpu m io len (Err e) = (refl, refl)

brks : (cpu : Cpu) (m : Memory) (io : Io) (heap : Heap) (a : ℕ) (r : Option MemErr) → Leaves cpu io (after_brk cpu m io heap a r)
brks cpu m io heap a None = (refl, refl)
brks cpu m io heap a (Some e) = (refl, refl)

brks-at : (cpu : Cpu) (m : Memory) (io : Io) (heap : Option Heap) (a : ℕ) → Leaves cpu io (brk_at cpu m io heap a)
brks-at cpu m io None a = (refl, refl)
brks-at cpu m io (Some heap) a = either cpu io (nat_lt a heap.start) _ _ (refl, refl) (brks cpu m io heap a (heap_refusal m heap (a - heap.start)))

reads-input : (cpu : Cpu) (m : Memory) (io : Io) (buf n : ℕ) → Leaves cpu io (read_input cpu m io buf n)
reads-input cpu m io buf n = either cpu io (n == 0) _ _ (refl, refl) (reads cpu m io buf n (written m buf (take n io.input)))

writes-output : (cpu : Cpu) (m : Memory) (io : Io) (buf len : ℕ) → Leaves cpu io (write_output cpu m io buf len)
writes-output cpu m io buf len = either cpu io (len == 0) _ _ (refl, refl) (writes cpu m io len (read m buf len))

-- ---- each call
read-leaves : (cpu : Cpu) (m : Memory) (io : Io) → Leaves cpu io (read_call cpu m io)
read-leaves cpu m io = either cpu io (reg cpu 10 == 0) _ _ (reads-input cpu m io (reg cpu 11) (min (reg cpu 12) (length io.input))) (refl, refl)

write-leaves : (cpu : Cpu) (m : Memory) (io : Io) → Leaves cpu io (write_call cpu m io)
write-leaves cpu m io = either cpu io ((reg cpu 10 == 1) || (reg cpu 10 == 2)) _ _ (writes-output cpu m io (reg cpu 11) (reg cpu 12)) (refl, refl)

map-leaves : (cpu : Cpu) (m : Memory) (io : Io) (k : ℕ) → Leaves cpu io (map_call cpu m (counted io) k)
map-leaves cpu m io k = either cpu io (is_mapped (counted io) k) _ _ (refl, refl) (refl, refl)

unmap-leaves : (cpu : Cpu) (m : Memory) (io : Io) (k : ℕ) → Leaves cpu io (unmap_call cpu m (counted io) k)
unmap-leaves cpu m io k = elim (cases_Bool (is_mapped (counted io) k)) [
  | inl mapped ↦ rw mapped (refl, refl, mapped)
  | inr unmapped ↦ rw unmapped (refl, refl)
]

left-leaves : (cpu : Cpu) (m : Memory) (io : Io) (r : Reply) → Leaves cpu io r → Leaves cpu io (if_left cpu m io r)
left-leaves cpu m io r p = either cpu io (nat_le 128 io.map_calls) _ _ (refl, refl) p

pub called-leaves : (cpu : Cpu) (m : Memory) (io : Io) → Leaves cpu io (called cpu m io)
called-leaves cpu m io =
    either cpu io (reg cpu 17 == 63) _ _ (read-leaves cpu m io)
    (either cpu io (reg cpu 17 == 64) _ _ (write-leaves cpu m io)
    (either cpu io ((reg cpu 17 == 93) || (reg cpu 17 == 94)) _ _ refl
    (either cpu io (reg cpu 17 == 214) _ _ (brks-at cpu m io io.heap (reg cpu 10))
    (either cpu io (reg cpu 17 == 1000) _ _ (left-leaves cpu m io _ (map-leaves cpu m io (reg cpu 10)))
    (either cpu io (reg cpu 17 == 1001) _ _ (left-leaves cpu m io _ (unmap-leaves cpu m io (reg cpu 10)))
    (either cpu io (reg cpu 17 == 1002) _ _ (left-leaves cpu m io (replace_call cpu m (counted io) (reg cpu 10) (reg cpu 11)) (refl, refl)) (refl, refl)))))))
