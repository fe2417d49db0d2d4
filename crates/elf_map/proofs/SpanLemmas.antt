-- Where executable segments lie.
use Rattle.std.proofs.Common.{◌≡◌, ℕ, ◌+◌, List, length, map, Option, Some, refl, ap, ◌∙◌, sym, inl, inr, arith}
use Rattle.std.specs.Prelude.{filter, slice_get, option_map}
use Rattle.std.proofs.lemmas.Bool.{cases_Bool}
use Rattle.std.proofs.lemmas.Option.{slice_get-map}
use Rattle.cc_base.specs.Image.{start_of}
use Rattle.cc_base.specs.Span.{Range}
use Rattle.plain_machine.specs.Program.{Program, Segment, area_of, base_of}
use Rattle.elf_map.specs.Program.{executes, span_at, spans_of, text_of, texts_of}

-- where a text stands is where its segment does
pub text-start : (program : Program) (base : ℕ) (s : Segment) → start_of (text_of program.fixed s) base ≡ base_of program base + s.vaddr
text-start program base s = elim (cases_Bool program.fixed) [ inl fixed ↦ rw fixed (omega arith) | inr free ↦ rw free refl ]

abbrev pub range : ℕ → ℕ → Range
range start len = record { start = start; len = len }

pub span-there : (program : Program) (base : ℕ) (s : Segment) (i : ℕ) (r : Range) → slice_get (filter executes program.segments) i ≡ Some s → length (area_of 0 s).bytes ≡ s.size →
    r ≡ record { start = base_of program base + s.vaddr; len = s.size } → slice_get (spans_of program base) i ≡ Some r
span-there program base s i r there size is =
    slice_get-map (span_at base) (texts_of program) i
    ∙ ap (option_map (span_at base)) (slice_get-map (text_of program.fixed) (filter executes program.segments) i ∙ ap (option_map (text_of program.fixed)) there)
    ∙ ap Some (ap (λ x. range x (length (area_of 0 s).bytes)) (text-start program base s) ∙ ap (range (base_of program base + s.vaddr)) size ∙ sym is)
