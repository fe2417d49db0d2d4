-- Whole runs, worked out, and the blocks of the small runs as they are built.
use Rattle.std.proofs.Common.{◌≡◌, ℕ, true, false, Bool, List, [], ◌∷◌, Option, Some, None, refl, ◌∙◌, ap, replicate}
use Rattle.std.specs.FinMap as fin
use Rattle.rv_decode.specs.declared.ins.Isa.TheVariants as isa
use Rattle.rv_decode.specs.Table.{row_of}
use Rattle.rv_decode.specs.Word.{field, twos_complement}
use Rattle.probe_tools.specs.declared.tool.Tool.{Tool}
use Rattle.probe_tools.specs.declared.tool.Tool.TheVariants as tools
use Rattle.plain_machine.specs.Memory.{Memory}
use Rattle.plain_machine.specs.Run.{run}
use Rattle.plain_machine.specs.Cut.{cut}
use Rattle.plain_machine.specs.Machine.{State, Setting}
use Rattle.fragment.specs.Parts.{Parts}
use Rattle.fragment.specs.Probing.{probes_before}
use Rattle.fragment.specs.Build.{built, size_at}
use Rattle.block_ledger.specs.Ledger.{Ledger, left_by, written, new_ledger}
use Rattle.block_ledger.specs.Traced.{Scheme, traced, first_trace, with_block}
use Rattle.block_ledger.proofs.Gets.{answers}
use Rattle.block_ledger.proofs.Rows.{counts, plain, store, over-2, over-4, call_links, c0, c1, c2, o0, o1, o2, k0, k1, k2}

abbrev setting : Setting
setting = record { bases = 0 ∷ []; files = [] }

abbrev scheme : Tool → Scheme
scheme tool = record { tool = tool; max = 16; pool = 4096 }

-- this code alone, which may be written or not
abbrev area : Bool → List ℕ → Memory
area writable bytes = record { start = 0x10000; flags = record { read = true; write = writable; execute = true }; bytes = bytes } ∷ []

abbrev from : Bool → List ℕ → State
from writable bytes = record {
  cpu = record { pc = 0x10000; isa = isa.I; regs = replicate 32 0 };
  memory = area writable bytes;
  io = record { input = []; output = []; heap = None; map_calls = 0; mapped = [] };
}

abbrev ledger_from : Tool → Bool → List ℕ → Ledger
ledger_from tool writable bytes = (traced setting (scheme tool) (cut 16 0 None (run setting 100000 [] (from writable bytes)).states) (first_trace [] [])).ledger

-- 05D00893 00000073
abbrev two_instructions : List ℕ
two_instructions = 0x93 ∷ 0x08 ∷ 0xD0 ∷ 0x05 ∷ 0x73 ∷ 0x00 ∷ 0x00 ∷ 0x00 ∷ []

first-publication : (ledger_from tools.Blocks false two_instructions).counts ≡ counts 1 0 1 0
unfolding row_of field twos_complement run built size_at probes_before
first-publication = simp answers

-- half a word at the end of the code
half-word : (ledger_from tools.Blocks false (0x13 ∷ 0 ∷ 0 ∷ 0 ∷ 0x73 ∷ 0 ∷ [])).counts ≡ counts 1 0 1 0
unfolding row_of field twos_complement run built size_at probes_before
half-word = simp answers

-- ---- the blocks of the small runs

abbrev block_in : Tool → List ℕ → ℕ → Option Parts
block_in tool bytes a = built (record { start = 0x10000; bytes = bytes }) a isa.I tool 16

-- 3E800293 FFF28293 FE029EE3 05D00893 00000073
abbrev countdown : List ℕ
countdown = 0x93 ∷ 0x02 ∷ 0x80 ∷ 0x3E ∷ 0x93 ∷ 0x82 ∷ 0xF2 ∷ 0xFF ∷ 0xE3 ∷ 0x9E ∷ 0x02 ∷ 0xFE ∷ 0x93 ∷ 0x08 ∷ 0xD0 ∷ 0x05 ∷ 0x73 ∷ 0x00 ∷ 0x00 ∷ 0x00 ∷ []

countdown-0 : block_in tools.Blocks countdown 0x10000 ≡ Some c0
unfolding row_of field twos_complement built size_at probes_before
countdown-0 = refl

countdown-1 : block_in tools.Blocks countdown 0x10004 ≡ Some c1
unfolding row_of field twos_complement built size_at probes_before
countdown-1 = refl

countdown-2 : block_in tools.Blocks countdown 0x1000C ≡ Some c2
unfolding row_of field twos_complement built size_at probes_before
countdown-2 = refl

-- 00C000EF 05D00893 00000073 00008067
abbrev call : List ℕ
call = 0xEF ∷ 0x00 ∷ 0xC0 ∷ 0x00 ∷ 0x93 ∷ 0x08 ∷ 0xD0 ∷ 0x05 ∷ 0x73 ∷ 0x00 ∷ 0x00 ∷ 0x00 ∷ 0x67 ∷ 0x80 ∷ 0x00 ∷ 0x00 ∷ []

call-0 : block_in tools.Calls call 0x10000 ≡ Some k0
unfolding row_of field twos_complement built size_at probes_before
call-0 = refl

call-1 : block_in tools.Calls call 0x10004 ≡ Some k1
unfolding row_of field twos_complement built size_at probes_before
call-1 = refl

call-2 : block_in tools.Calls call 0x1000C ≡ Some k2
unfolding row_of field twos_complement built size_at probes_before
call-2 = refl

-- 000102B7 0102A303 0002A823 0062A823 05D00893 00000073
abbrev overwriting : List ℕ
overwriting = 0xB7 ∷ 0x02 ∷ 0x01 ∷ 0x00 ∷ 0x03 ∷ 0xA3 ∷ 0x02 ∷ 0x01 ∷ 0x23 ∷ 0xA8 ∷ 0x02 ∷ 0x00 ∷ 0x23 ∷ 0xA8 ∷ 0x62 ∷ 0x00 ∷ 0x93 ∷ 0x08 ∷ 0xD0 ∷ 0x05 ∷ 0x73 ∷ 0x00 ∷ 0x00 ∷ 0x00 ∷ []

abbrev by_blocks : Option Parts → Ledger → Ledger
by_blocks f led = with_block (scheme tools.Blocks) f led

abbrev after-1 : Ledger
after-1 = plain (fin.insert fin.empty 0x10000 o0) fin.empty 0x10000 None (counts 1 0 1 0)

abbrev after-2 : Ledger
after-2 = plain (fin.insert fin.empty 0x1000C o1) fin.empty 0x1000C None (counts 2 0 2 0)

-- what happens: three instructions, of which the last stores into its own block; one that does so; and two
abbrev overwrites : (Ledger → Ledger) → (Ledger → Ledger) → (Ledger → Ledger) → Ledger
overwrites first second third =
    left_by None (left_by (Some 0) (third (written store (left_by None (second (written store (left_by None (left_by (Some 0) (left_by (Some 0) (first new_ledger))))))))))

overwrite-run : ledger_from tools.Blocks true overwriting ≡ overwrites (by_blocks (Some o0)) (by_blocks (Some o1)) (by_blocks (Some o2))
unfolding row_of field twos_complement run built size_at probes_before
overwrite-run = refl

begun-1 : by_blocks (Some o0) new_ledger ≡ after-1
begun-1 = simp answers

begun-2 : by_blocks (Some o1) (plain fin.empty fin.empty 0x10000 None (counts 1 0 1 0)) ≡ after-2
begun-2 = simp answers

begun-3 : (by_blocks (Some o2) (plain fin.empty fin.empty 0x1000C None (counts 2 0 2 0))).counts ≡ counts 3 0 3 0
begun-3 = simp answers

self-overwrite : (ledger_from tools.Blocks true overwriting).counts ≡ counts 3 0 3 0
self-overwrite =
    ap (λ led. led.counts) overwrite-run
    ∙ ap (λ led. (by_blocks (Some o2) (written store (left_by None (by_blocks (Some o1) (written store (left_by None (left_by (Some 0) (left_by (Some 0) led)))))))).counts) begun-1
    ∙ ap (λ led. (by_blocks (Some o2) (written store (left_by None (by_blocks (Some o1) led)))).counts) over-2
    ∙ ap (λ led. (by_blocks (Some o2) (written store (left_by None led))).counts) begun-2
    ∙ ap (λ led. (by_blocks (Some o2) led).counts) over-4
    ∙ begun-3

-- ---- calls-tool: a call, the function, and the block behind the call

abbrev by_calls : Option Parts → Ledger → Ledger
by_calls f led = with_block (scheme tools.Calls) f led

abbrev calls : (Ledger → Ledger) → (Ledger → Ledger) → (Ledger → Ledger) → Ledger
calls first second third = left_by None (left_by (Some 0) (third (left_by None (second (left_by (Some 0) (first new_ledger))))))

calls-run : ledger_from tools.Calls false call ≡ calls (by_calls (Some k0)) (by_calls (Some k2)) (by_calls (Some k1))
unfolding row_of field twos_complement run built size_at probes_before
calls-run = refl

called-1 : by_calls (Some k0) new_ledger ≡ plain (fin.insert fin.empty 0x10000 k0) fin.empty 0x10000 None (counts 1 0 1 0)
called-1 = simp answers

called-2 : by_calls (Some k2) (left_by (Some 0) (plain (fin.insert fin.empty 0x10000 k0) fin.empty 0x10000 None (counts 1 0 1 0))) ≡ plain (fin.insert (fin.insert fin.empty 0x10000 k0) 0x1000C k2) call_links 0x1000C None (counts 2 0 2 0)
called-2 = simp answers

called-3 : (by_calls (Some k1) (left_by None (plain (fin.insert (fin.insert fin.empty 0x10000 k0) 0x1000C k2) call_links 0x1000C None (counts 2 0 2 0)))).counts ≡ counts 3 0 3 0
called-3 = simp answers

calls-tool : (ledger_from tools.Calls false call).counts ≡ counts 3 0 3 0
calls-tool =
    ap (λ led. led.counts) calls-run
    ∙ ap (λ led. (by_calls (Some k1) (left_by None (by_calls (Some k2) (left_by (Some 0) led)))).counts) called-1
    ∙ ap (λ led. (by_calls (Some k1) (left_by None led)).counts) called-2
    ∙ called-3
