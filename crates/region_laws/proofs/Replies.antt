-- What a system call leaves.
use Rattle.std.proofs.Common.{◌≡◌, ℕ, ◌+◌, ◌-◌, ◌%◌, ◌<◌, ◌≤◌, ◌==◌, ◌||◌, Bool, true, false, if◌then◌else◌, List, length, take, Option, Some, None, Result, Ok, Err, refl, sym, ◌∙◌, ap, subst, arith, inl, inr}
use Rattle.std.specs.Prelude.{find, nat_lt, nat_le, min}
use Rattle.std.proofs.lemmas.Bool.{cases_Bool}
use Rattle.std.proofs.lemmas.Bool.Decides.{nat_tests}
use Rattle.std.proofs.lemmas.List.{length-take}
use Rattle.plain_machine.specs.declared.access.Access.{Access}
use Rattle.plain_machine.specs.declared.access.MemErr.{MemErr}
use Rattle.plain_machine.specs.declared.cpu.Cpu.{Cpu}
use Rattle.plain_machine.specs.declared.io.Heap.{Heap}
use Rattle.plain_machine.specs.declared.io.Asked.TheVariants.{Back, Exit, Map, Unmap}
use Rattle.plain_machine.specs.Memory.{Memory, IsMemory, has_code, put, written, read, region_at, touches_code}
use Rattle.plain_machine.specs.Step.{reg, next}
use Rattle.plain_machine.specs.Io.{Io}
use Rattle.plain_machine.specs.Calls.{Reply, called, back, minus, after_read, read_input, read_call, after_write, write_output, write_call, heap_refusal, after_brk, brk_at, counted, asks, map_call, unmap_call, replace_call, if_left, is_mapped}
use Rattle.guest_mem.proofs.MemoryLemmas.{made_is}
use Rattle.engine.proofs.KeptCode.{code-put}
use Rattle.engine.proofs.Starts.{starts-put}
use Rattle.engine.specs.Standing.{SameCode, IsStored, SameRegions}
use Rattle.region_laws.specs.Heap.{HeapIsData}
use Rattle.region_laws.specs.Calls.{CodeBehind, Leaves}
use Rattle.region_laws.specs.Laws.{CallsLeave}
use Rattle.region_laws.proofs.HeapMoves.{code-moved, heap-kept, heap-moved, stand-same, stand-moved}

module _ (cpu : Cpu) (m : Memory) (io : Io) (good : IsMemory m) (inert : HeapIsData io.heap m) (even : cpu.pc % 4 ≡ 0) where
  next_even : next cpu % 4 ≡ 0
  next_even = omega (arith, even)

  either : (b : Bool) (x y : Reply) → Leaves cpu m io x → Leaves cpu m io y → Leaves cpu m io (if b then x else y)
  either true x y p q = p
  either false x y p q = q

  -- nothing but the result, or the counter, changes
  backs : (value : ℕ) → Leaves cpu m io (back cpu m io value)
  backs value = record { code = λ a. refl; inert = inert; isa = refl; aligned = next_even; mapped = refl; stand = λ x kind s. s; asks = tt; output = tt }

  counts : (value : ℕ) → Leaves cpu m io (back cpu m (counted io) value)
  counts value = record { code = λ a. refl; inert = inert; isa = refl; aligned = next_even; mapped = refl; stand = λ x kind s. s; asks = tt; output = tt }

  exits : (status : ℕ) → Leaves cpu m io (Exit status, cpu, m, io)
  exits status = record { code = λ a. refl; inert = inert; isa = refl; aligned = even; mapped = refl; stand = λ x kind s. s; asks = tt; output = refl }

  -- ---- read

  code_by : (after : Memory) (buf n : ℕ) (b : Bool) → touches_code after buf n ≡ b → IsStored (record { start = buf; len = n }) m after → (b ≡ false → SameCode m after) →
      CodeBehind (Back (if b then Some (record { start = buf; len = n }) else None)) m after
  code_by after buf n true e stored same = stored
  code_by after buf n false e stored same = same refl

  reads-some : (buf n : ℕ) (r : Result Memory Access) → 0 < n → length (take n io.input) ≡ n → written m buf (take n io.input) ≡ r → Leaves cpu m io (after_read cpu m io buf n r)
  reads-some buf n (Err e) some long made = backs (minus 14)
  reads-some buf n (Ok after) some long made =
      let bytes : List ℕ = take n io.input in
      let is : put buf bytes m ≡ after = made_is m (put buf bytes m) after (region_at m buf (length bytes)) made in
      let some_bytes : 0 < length bytes = omega arith in
      let same : SameRegions m after = subst (SameRegions m) is (starts-put buf bytes m) in
      record {
        code = code_by after buf n (touches_code after buf n) refl (record { before = m; same = λ a. refl; bytes = bytes; some = some_bytes; size = long; made = sym is }) (λ apart a.
            let off : touches_code (put buf bytes m) buf (length bytes) ≡ false = ap (λ k. touches_code (put buf bytes m) buf k) long ∙ ap (λ x. touches_code x buf n) is ∙ apart in
            ap (λ x. find (has_code a 1) x) (sym is) ∙ code-put a buf bytes m some_bytes off);
        inert = heap-kept m after io.heap same inert;
        isa = refl;
        aligned = next_even;
        mapped = refl;
        stand = stand-same m after io.heap same;
        asks = tt;
        output = tt;
      }

  reads : Leaves cpu m io (read_call cpu m io)
  reads =
      let n : ℕ = min (reg cpu 12) (length io.input) in
      either (reg cpu 10 == 0) (read_input cpu m io (reg cpu 11) n) (back cpu m io (minus 9))
      (elim (cases_Bool (n == 0)) [
        | inl none ↦ rw none (backs 0)
        | inr some ↦
            let long : length (take n io.input) ≡ n = omega (arith, length-take {A = ℕ} n io.input) in
            let more : 0 < n = grind (arith, nat_tests) in
            rw some (reads-some (reg cpu 11) n (written m (reg cpu 11) (take n io.input)) more long refl)
      ])
      (backs (minus 9))

  -- ---- write

  writes-some : (len : ℕ) (r : Result (List ℕ) Access) → Leaves cpu m io (after_write cpu m io len r)
  writes-some len (Err e) = backs (minus 14)
  writes-some len (Ok bytes) = either (nat_lt 1048576 (length io.output + len)) _ _
      (record { code = λ a. refl; inert = inert; isa = refl; aligned = even; mapped = refl; stand = λ x kind s. s; asks = tt; output = refl })
      (record { code = λ a. refl; inert = inert; isa = refl; aligned = next_even; mapped = refl; stand = λ x kind s. s; asks = tt; output = tt })

  writes : Leaves cpu m io (write_call cpu m io)
  writes =
      either ((reg cpu 10 == 1) || (reg cpu 10 == 2)) (write_output cpu m io (reg cpu 11) (reg cpu 12)) (back cpu m io (minus 9))
      (either (reg cpu 12 == 0) (back cpu m io 0) (after_write cpu m io (reg cpu 12) (read m (reg cpu 11) (reg cpu 12))) (backs 0) (writes-some (reg cpu 12) (read m (reg cpu 11) (reg cpu 12))))
      (backs (minus 9))

  -- ---- brk

  moves : (heap : Heap) (a : ℕ) (r : Option MemErr) → io.heap ≡ Some heap → heap.start ≤ a → heap_refusal m heap (a - heap.start) ≡ r → Leaves cpu m io (after_brk cpu m io heap a r)
  moves heap a (Some e) is low free = backs heap.end
  moves heap a None is low free =
      let there : HeapIsData (Some heap) m = subst (λ o. HeapIsData o m) is inert in
      record {
        code = code-moved m heap (a - heap.start) there;
        inert = heap-moved m heap a good low free there;
        isa = refl;
        aligned = next_even;
        mapped = refl;
        stand = rw is (stand-moved m heap a good low free);
        asks = tt;
        output = tt;
      }

  brks : (o : Option Heap) (a : ℕ) → io.heap ≡ o → Leaves cpu m io (brk_at cpu m io o a)
  brks None a is = backs (minus 12)
  brks (Some heap) a is = elim (cases_Bool (nat_lt a heap.start)) [
    | inl below ↦ rw below (backs heap.end)
    | inr above ↦ let low : heap.start ≤ a = grind (arith, nat_tests) in rw above (moves heap a (heap_refusal m heap (a - heap.start)) is low refl)
  ]

  -- ---- map, unmap and replace

  if-left : (reply : Reply) → Leaves cpu m io reply → Leaves cpu m io (if_left cpu m io reply)
  if-left reply kept = either (nat_le 128 io.map_calls) (back cpu m io (minus 12)) reply (backs (minus 12)) kept

  maps : (k : ℕ) (b : Bool) → is_mapped io k ≡ b → Leaves cpu m io (if b then back cpu m (counted io) (minus 17) else asks (Map k) cpu m (counted io))
  maps k true is = counts (minus 17)
  maps k false is = record { code = λ a. refl; inert = inert; isa = refl; aligned = next_even; mapped = refl; stand = λ x kind s. s; asks = is; output = refl }

  unmaps : (k : ℕ) (b : Bool) → is_mapped io k ≡ b → Leaves cpu m io (if b then asks (Unmap k) cpu m (counted io) else back cpu m (counted io) (minus 22))
  unmaps k true is = record { code = λ a. refl; inert = inert; isa = refl; aligned = next_even; mapped = refl; stand = λ x kind s. s; asks = is; output = refl }
  unmaps k false is = counts (minus 22)

  replaces : (k f : ℕ) → Leaves cpu m io (replace_call cpu m (counted io) k f)
  replaces k f = record { code = λ a. refl; inert = inert; isa = refl; aligned = next_even; mapped = refl; stand = λ x kind s. s; asks = tt; output = refl }

  pub call-leaves : Leaves cpu m io (called cpu m io)
  call-leaves =
      either (reg cpu 17 == 63) _ _ reads
      (either (reg cpu 17 == 64) _ _ writes
      (either ((reg cpu 17 == 93) || (reg cpu 17 == 94)) _ _ (exits (reg cpu 10 % 256))
      (either (reg cpu 17 == 214) _ _ (brks io.heap (reg cpu 10) refl)
      (either (reg cpu 17 == 1000) _ _ (if-left (map_call cpu m (counted io) (reg cpu 10)) (maps (reg cpu 10) (is_mapped io (reg cpu 10)) refl))
      (either (reg cpu 17 == 1001) _ _ (if-left (unmap_call cpu m (counted io) (reg cpu 10)) (unmaps (reg cpu 10) (is_mapped io (reg cpu 10)) refl))
      (either (reg cpu 17 == 1002) _ _ (if-left (replace_call cpu m (counted io) (reg cpu 10) (reg cpu 11)) (replaces (reg cpu 10) (reg cpu 11)))
      (backs (minus 38))))))))

pub calls-leave : CallsLeave
calls-leave cpu m io good inert even = call-leaves cpu m io good inert even
