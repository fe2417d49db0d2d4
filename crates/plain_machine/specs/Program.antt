-- What a file puts into memory.
use Rattle.std.specs.Prelude.{ℕ, ◌+◌, ◌%◌, ◌==◌, ◌&&◌, nat_lt, max, Bool, if◌then◌else◌, List, [], ◌∷◌, ◌++◌, Option, Some, None, Result, Ok, Err}
use Rattle.std.specs.List.{list_any}
use Rattle.plain_machine.specs.declared.access.Flags.{Flags}
use Rattle.plain_machine.specs.declared.access.MemErr.{MemErr}
use Rattle.plain_machine.specs.Region.{Area, holds, region_of}
use Rattle.plain_machine.specs.Memory.{Memory, refusal, others}

-- `content`, and zeros behind it up to `size`
pub record Segment : Type 0 where
  pub vaddr : ℕ
  pub size : ℕ
  pub flags : Flags
  pub content : List ℕ

pub record Program : Type 0 where
  -- its addresses are those of memory, wherever its module is to stand
  pub fixed : Bool
  pub entry : ℕ
  pub segments : List Segment

abbrev pub base_of : Program → ℕ → ℕ
base_of program base = if program.fixed then 0 else base

-- the region of a segment
abbrev pub area_of : ℕ → Segment → Area
area_of base s = region_of (base + s.vaddr) s.flags s.content s.size

-- ---- placing

abbrev pub unless : {A : Type 0} → Option MemErr → Result A MemErr → Result A MemErr
unless None made = made
unless (Some e) made = Err e

-- the memory with all segments, in order, or why the first of those that do not fit was refused
abbrev pub with_segments : Memory → ℕ → List Segment → Result Memory MemErr
with_segments m base [] = Ok m
with_segments m base (s ∷ ss) = unless (refusal m (base + s.vaddr) s.size) (with_segments (m ++ area_of base s ∷ []) base ss)

abbrev pub placed : Program → ℕ → Memory → Result Memory MemErr
placed program base m = with_segments m (base_of program base) program.segments

-- the memory without the regions of these segments
abbrev pub without_segments : Memory → ℕ → List Segment → Memory
without_segments m base [] = m
without_segments m base (s ∷ ss) = without_segments (others m (base + s.vaddr)) base ss

abbrev pub unplaced : Program → ℕ → Memory → Memory
unplaced program base m = without_segments m (base_of program base) program.segments

-- ---- the entry, and the end

-- the word at x is wholly in this segment, which may be executed
abbrev pub runs_at : ℕ → ℕ → Segment → Bool
runs_at base x s = s.flags.execute && holds x 4 (area_of base s)

-- an address that is a multiple of four, and whose word is wholly in an executable segment
abbrev pub can_enter : ℕ → List Segment → ℕ → Bool
can_enter base segments x = (x % 4 == 0) && list_any (runs_at base x) segments

abbrev pub entry_of : Program → ℕ → Option ℕ
entry_of program base =
    let x = base_of program base + program.entry in
    if nat_lt 4294967295 x then None else if can_enter (base_of program base) program.segments x then Some x else None

-- the greatest end of the segments, 0 where there is none
abbrev pub greatest_end : ℕ → List Segment → ℕ
greatest_end base [] = 0
greatest_end base (s ∷ ss) = max (base + s.vaddr + s.size) (greatest_end base ss)

abbrev pub top_of : Program → ℕ → ℕ
top_of program base = greatest_end (base_of program base) program.segments
