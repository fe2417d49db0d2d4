-- The system calls of the plain machine.
use Rattle.std.specs.Prelude.{ℕ, ◌-◌, ◌%◌, ◌^◌, ◌==◌, ◌||◌, Bool, nat_lt, nat_le, ◌+◌, min, if◌then◌else◌, List, ◌++◌, length, take, drop, Option, Some, None, Result, Ok, Err}
use Rattle.std.specs.List.{list_any}
use Rattle.plain_machine.specs.declared.access.Access.{Access}
use Rattle.plain_machine.specs.declared.access.MemErr.{MemErr}
use Rattle.plain_machine.specs.Region.{Area}
use Rattle.plain_machine.specs.Memory.{Memory, written, read, touches_code, refusal, region_from, others, lengthened}
use Rattle.plain_machine.specs.declared.cpu.Cpu.{Cpu}
use Rattle.plain_machine.specs.Registers.{with_register}
use Rattle.plain_machine.specs.Step.{reg, next}
use Rattle.plain_machine.specs.declared.io.Heap.{Heap}
use Rattle.plain_machine.specs.declared.io.Mapping.{Mapping}
use Rattle.plain_machine.specs.declared.io.Asked.{Asked}
use Rattle.plain_machine.specs.declared.io.Asked.TheVariants.{Back, Exit, Map, Unmap, Replace, OutputFull}
use Rattle.plain_machine.specs.Io.{Io}

-- what a call answers, and what there is after it
abbrev pub Reply : Type 0
Reply = Asked × Cpu × Memory × Io

-- the processor behind the call, with its result
abbrev pub given : Cpu → ℕ → Cpu
given cpu value = record cpu { pc = next cpu; regs = with_register cpu.regs 10 value }

-- a negative result
abbrev pub minus : ℕ → ℕ
minus n = 2 ^ 32 - n

-- nothing but the result changes
abbrev pub back : Cpu → Memory → Io → ℕ → Reply
back cpu m io value = (Back None, given cpu value, m, io)

-- ---- read(fd, buf, len)

abbrev pub after_read : Cpu → Memory → Io → ℕ → ℕ → Result Memory Access → Reply
after_read cpu m io buf n (Err _) = back cpu m io (minus 14)
after_read cpu m io buf n (Ok after) = (Back (if touches_code after buf n then Some (record { start = buf; len = n }) else None), given cpu n, after, record io { input = drop n io.input })

abbrev pub read_input : Cpu → Memory → Io → ℕ → ℕ → Reply
read_input cpu m io buf n = if n == 0 then back cpu m io 0 else after_read cpu m io buf n (written m buf (take n io.input))

abbrev pub read_call : Cpu → Memory → Io → Reply
read_call cpu m io = if reg cpu 10 == 0 then read_input cpu m io (reg cpu 11) (min (reg cpu 12) (length io.input)) else back cpu m io (minus 9)

-- ---- write(fd, buf, len)

abbrev pub after_write : Cpu → Memory → Io → ℕ → Result (List ℕ) Access → Reply
after_write cpu m io len (Err _) = back cpu m io (minus 14)
after_write cpu m io len (Ok bytes) = if nat_lt 1048576 (length io.output + len) then (OutputFull, cpu, m, io) else (Back None, given cpu len, m, record io { output = io.output ++ bytes })

abbrev pub write_output : Cpu → Memory → Io → ℕ → ℕ → Reply
write_output cpu m io buf len = if len == 0 then back cpu m io 0 else after_write cpu m io len (read m buf len)

abbrev pub write_call : Cpu → Memory → Io → Reply
write_call cpu m io = if (reg cpu 10 == 1) || (reg cpu 10 == 2) then write_output cpu m io (reg cpu 11) (reg cpu 12) else back cpu m io (minus 9)

-- ---- exit(status)

abbrev pub exit_call : Cpu → Memory → Io → Reply
exit_call cpu m io = (Exit (reg cpu 10 % 256), cpu, m, io)

-- ---- brk(a)

abbrev pub is_empty : Heap → Bool
is_empty heap = heap.start == heap.end

-- An empty heap has no region, and another region may start where it does.
abbrev pub heap_region : Memory → Heap → Option Area
heap_region m heap = if is_empty heap then None else region_from m heap.start

abbrev pub without_heap : Memory → Heap → Memory
without_heap m heap = if is_empty heap then m else others m heap.start

-- why the heap may not be that long
abbrev pub heap_refusal : Memory → Heap → ℕ → Option MemErr
heap_refusal m heap len = refusal (without_heap m heap) heap.start len

-- the memory with the heap that long
abbrev pub with_heap : Memory → Heap → ℕ → Memory
with_heap m heap len = if len == 0 then without_heap m heap else lengthened (heap_region m heap) m heap.start len

abbrev pub after_brk : Cpu → Memory → Io → Heap → ℕ → Option MemErr → Reply
after_brk cpu m io heap a None = (Back None, given cpu a, with_heap m heap (a - heap.start), record io { heap = Some (record heap { end = a }) })
after_brk cpu m io heap a (Some _) = back cpu m io heap.end

abbrev pub brk_at : Cpu → Memory → Io → Option Heap → ℕ → Reply
brk_at cpu m io None a = back cpu m io (minus 12)
brk_at cpu m io (Some heap) a = if nat_lt a heap.start then back cpu m io heap.end else after_brk cpu m io heap a (heap_refusal m heap (a - heap.start))

abbrev pub brk_call : Cpu → Memory → Io → Reply
brk_call cpu m io = brk_at cpu m io io.heap (reg cpu 10)

-- ---- map, unmap and replace

-- the entry of this module
abbrev pub is_module : ℕ → Mapping → Bool
is_module k mapping = mapping.module == k

abbrev pub is_mapped : Io → ℕ → Bool
is_mapped io k = list_any (is_module k) io.mapped

-- one more map call
abbrev pub counted : Io → Io
counted io = record io { map_calls = io.map_calls + 1 }

-- control is behind the call, and its result is still to come
abbrev pub behind : Cpu → Cpu
behind cpu = record cpu { pc = next cpu }

abbrev pub asks : Asked → Cpu → Memory → Io → Reply
asks asked cpu m io = (asked, behind cpu, m, io)

abbrev pub map_call : Cpu → Memory → Io → ℕ → Reply
map_call cpu m io k = if is_mapped io k then back cpu m io (minus 17) else asks (Map k) cpu m io

abbrev pub unmap_call : Cpu → Memory → Io → ℕ → Reply
unmap_call cpu m io k = if is_mapped io k then asks (Unmap k) cpu m io else back cpu m io (minus 22)

abbrev pub replace_call : Cpu → Memory → Io → ℕ → ℕ → Reply
replace_call cpu m io k f = asks (Replace k f) cpu m io

-- where 128 map calls were made, nothing but the result changes
abbrev pub if_left : Cpu → Memory → Io → Reply → Reply
if_left cpu m io reply = if nat_le 128 io.map_calls then back cpu m io (minus 12) else reply

-- ---- any call

abbrev pub called : Cpu → Memory → Io → Reply
called cpu m io =
    if reg cpu 17 == 63 then read_call cpu m io
    else if reg cpu 17 == 64 then write_call cpu m io
    else if (reg cpu 17 == 93) || (reg cpu 17 == 94) then exit_call cpu m io
    else if reg cpu 17 == 214 then brk_call cpu m io
    else if reg cpu 17 == 1000 then if_left cpu m io (map_call cpu m (counted io) (reg cpu 10))
    else if reg cpu 17 == 1001 then if_left cpu m io (unmap_call cpu m (counted io) (reg cpu 10))
    else if reg cpu 17 == 1002 then if_left cpu m io (replace_call cpu m (counted io) (reg cpu 10) (reg cpu 11))
    else back cpu m io (minus 38)
