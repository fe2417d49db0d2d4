-- The executable segments of a program, and what a program keeps.
use Rattle.std.specs.Prelude.{◌≡◌, ℕ, ◌+◌, ◌<◌, ◌≤◌, Bool, true, if◌then◌else◌, List, length, take, drop, map, filter}
use Rattle.cc_base.specs.Image.{Text, start_of}
use Rattle.cc_base.specs.Span.{Range}
use Rattle.plain_machine.specs.Program.{Program, Segment, area_of}

abbrev pub executes : Segment → Bool
executes s = s.flags.execute

-- an executable segment, with the zeros behind the bytes of the file
abbrev pub text_of : Bool → Segment → Text
text_of fixed s = record { vaddr = s.vaddr; fixed = fixed; bytes = (area_of 0 s).bytes }

-- the executable segments, numbered from 0 in their order
abbrev pub texts_of : Program → List Text
texts_of program = map (text_of program.fixed) (filter executes program.segments)

-- where an executable segment lies, with the module at this base
abbrev pub span_at : ℕ → Text → Range
span_at base text = record { start = start_of text base; len = length text.bytes }

-- where they all do
abbrev pub spans_of : Program → ℕ → List Range
spans_of program base = map (span_at base) (texts_of program)

-- the most bytes of a segment
abbrev pub size_limit : Bool → ℕ
size_limit execute = if execute then 1048576 else 8388608

-- not empty, its content not longer than it is, and not past the last address
pub record IsSegment (s : Segment) : Type 0 where
  pub some : 0 < s.size
  pub content : length s.content ≤ s.size
  pub end : s.vaddr + s.size ≤ 4294967295
  pub limited : s.size ≤ size_limit s.flags.execute

-- n of the bytes, from that place on
abbrev pub bytes_from : ℕ → ℕ → List ℕ → List ℕ
bytes_from at n bytes = take n (drop at bytes)

-- What is kept of a segment: bytes, of which the `filled` from `offset` on are those of the file. Of one that may be
-- executed they are all its bytes, the zeros behind those of the file too.
pub record Keeps (offset filled : ℕ) (bytes : List ℕ) (s : Segment) : Type 0 where
  pub within : offset + filled ≤ length bytes
  pub whole : executes s ≡ true → bytes ≡ (area_of 0 s).bytes
  pub segment : IsSegment s
