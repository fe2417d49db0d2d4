-- Where the executable segments of a program lie.
use Rattle.std.proofs.Common.{◌≡◌, ℕ, zero, suc, ◌+◌, ◌<◌, Bool, true, false, List, [], ◌∷◌, length, map, Option, Some, None, refl, sym, ◌∙◌, ap, subst, arith, inl, inr}
use Rattle.std.specs.Prelude.{filter, slice_get, option_map}
use Rattle.std.proofs.lemmas.Bool.{cases_Bool}
use Rattle.std.proofs.lemmas.Option.{same_Some, slice_get-map}
use Rattle.cc_base.specs.Image.{Code, Text, start_of}
use Rattle.cc_base.specs.Span.{Range}
use Rattle.plain_machine.specs.Memory.{Memory, code_at}
use Rattle.plain_machine.specs.Program.{Program, Segment, area_of, base_of}
use Rattle.elf_map.specs.Program.{executes, span_at, spans_of, text_of, texts_of}
use Rattle.elf_map.proofs.SpanLemmas.{text-start}
use Rattle.block_book.specs.Clauses.{region_of}
use Rattle.block_ledger.specs.Ledger.{Ledger}
use Rattle.block_ledger.specs.Traced.{codes_at, codes_of}
use Rattle.region_laws.specs.Standing.{AreThere}
use Rattle.guest_proc.specs.Maps.{AreClear, IsVacant}

-- the code of a text, with its module at this base
abbrev pub code_for : ℕ → Text → Code
code_for base text = record { start = start_of text base; bytes = text.bytes }

codes-by : (program : Program) (base : ℕ) (ss : List Segment) → codes_at (base_of program base) ss ≡ map (code_for base) (map (text_of program.fixed) (filter executes ss))
codes-by program base [] = refl
codes-by program base (s ∷ ss) = elim (cases_Bool s.flags.execute) [
  | inl runs ↦ rw runs (ap (λ (x : ℕ). record { start = x; bytes = (area_of 0 s).bytes } ∷ codes_at (base_of program base) ss) (sym (text-start program base s)) ∙ ap (λ cs. code_for base (text_of program.fixed s) ∷ cs) (codes-by program base ss))
  | inr off ↦ rw off (codes-by program base ss)
]

-- the codes of a program are its texts, where they stand
pub codes-are : (program : Program) (base : ℕ) → codes_of program base ≡ map (code_for base) (texts_of program)
codes-are program base = codes-by program base program.segments

spans-by : (base : ℕ) (texts : List Text) → map (span_at base) texts ≡ map region_of (map (code_for base) texts)
spans-by base [] = refl
spans-by base (t ∷ ts) = ap (λ rs. span_at base t ∷ rs) (spans-by base ts)

pub spans-are : (program : Program) (base : ℕ) → spans_of program base ≡ map region_of (codes_of program base)
spans-are program base = spans-by base (texts_of program) ∙ ap (map region_of) (sym (codes-are program base))

-- ---- each of them

pub there-at : (m : Memory) (codes : List Code) (i : ℕ) (code : Code) → AreThere codes m → slice_get codes i ≡ Some code → (0 < length code.bytes) × (code_at m code.start ≡ Some code)
there-at m [] i code are is = absurd (cc)
there-at m (c ∷ codes) zero code are is = let same = same_Some c code is in (subst (λ (x : Code). 0 < length x.bytes) same are.0, subst (λ (x : Code). code_at m x.start ≡ Some x) same are.1)
there-at m (c ∷ codes) (suc i) code are is = there-at m codes i code are.2 is

pub clear-at : (led : Ledger) (codes : List Code) (i : ℕ) (code : Code) → AreClear codes led → slice_get codes i ≡ Some code → IsVacant code led
clear-at led [] i code are is = absurd (cc)
clear-at led (c ∷ codes) zero code are is = subst (λ (x : Code). IsVacant x led) (same_Some c code is) are.0
clear-at led (c ∷ codes) (suc i) code are is = clear-at led codes i code are.1 is

-- the code of an executable segment
pub code-at : (program : Program) (base i : ℕ) (text : Text) → slice_get (texts_of program) i ≡ Some text → slice_get (codes_of program base) i ≡ Some (code_for base text)
code-at program base i text is = ap (λ cs. slice_get cs i) (codes-are program base) ∙ slice_get-map (code_for base) (texts_of program) i ∙ ap (option_map (code_for base)) is
