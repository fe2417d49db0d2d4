-- Memories: regions of which no two have a byte in common.
use Rattle.std.specs.Prelude.{◌≡◌, ℕ, zero, suc, ◌+◌, ◌-◌, ◌*◌, ◌/◌, ◌%◌, ◌<◌, ◌≤◌, Bool, true, false, ◌&&◌, ◌==◌, nat_lt, if◌then◌else◌, List, [], ◌∷◌, ◌++◌, length, take, replicate, Option, Some, None, find, Result, Ok, Err}
use Rattle.std.specs.List.{list_any}
use Rattle.cc_base.specs.Image.{Code}
use Rattle.plain_machine.specs.declared.access.MemErr.{MemErr}
use Rattle.plain_machine.specs.declared.access.MemErr.TheVariants as errors
use Rattle.plain_machine.specs.declared.access.Access.{Access}
use Rattle.plain_machine.specs.declared.access.Access.TheVariants.{NotMapped, NotAllowed}
use Rattle.plain_machine.specs.declared.access.Flags.{Flags}
use Rattle.plain_machine.specs.declared.access.Size.{Size}
use Rattle.plain_machine.specs.declared.access.Size.TheVariants.{Byte, Half, Word}
use Rattle.plain_machine.specs.Region.{Area, end_of, holds, meets, bytes_at, with_bytes, region_of}

abbrev pub Memory : Type 0
Memory = List Area

-- ---- what every memory keeps

abbrev pub byte_count : Memory → ℕ
byte_count [] = 0
byte_count (r ∷ rs) = length r.bytes + byte_count rs

-- no two regions have a byte in common
abbrev pub AreDisjoint : Memory → Type 0
AreDisjoint [] = Unit {0}
AreDisjoint (r ∷ rs) = (list_any (meets r.start (length r.bytes)) rs ≡ false) × AreDisjoint rs

-- none is empty, and none goes past the last address
abbrev pub AreInRange : Memory → Type 0
AreInRange [] = Unit {0}
AreInRange (r ∷ rs) = (0 < length r.bytes) × (end_of r ≤ 4294967295) × AreInRange rs

pub record IsMemory (m : Memory) : Type 0 where
  pub disjoint : AreDisjoint m
  pub in_range : AreInRange m
  pub limited : byte_count m ≤ 8388608

-- ---- adding a region

-- why a region of len bytes may not stand at start
abbrev pub refusal : Memory → ℕ → ℕ → Option MemErr
refusal m start len =
    if nat_lt 4294967295 (start + len) then Some errors.PastEnd
    else if list_any (meets start len) m then Some errors.Overlap
    else if nat_lt 8388608 (byte_count m + len) then Some errors.OverLimit
    else None

-- ---- reading and writing

abbrev pub size_of : Size → ℕ
size_of Byte = 1
size_of Half = 2
size_of Word = 4

-- the number that bytes spell, the lowest byte first
abbrev pub number_of : List ℕ → ℕ
number_of [] = 0
number_of (b ∷ bytes) = b + 256 * number_of bytes

-- what is done with the region that has the bytes, if it allows it
abbrev pub reach : {A : Type 0} → (Area → Bool) → (Area → A) → Option Area → Result A Access
reach allowed act None = Err NotMapped
reach allowed act (Some r) = if allowed r then Ok (act r) else Err NotAllowed

-- the region that has all n bytes from addr on
abbrev pub region_at : Memory → ℕ → ℕ → Option Area
region_at m addr n = find (holds addr n) m

-- the n bytes from addr on, where they may be read
abbrev pub read : Memory → ℕ → ℕ → Result (List ℕ) Access
read m addr n = reach (λ r. r.flags.read) (bytes_at addr n) (region_at m addr n)

-- the number that a load reads
abbrev pub loaded : Memory → ℕ → Size → Result ℕ Access
loaded m addr size = reach (λ r. r.flags.read) (λ r. number_of (bytes_at addr (size_of size) r)) (region_at m addr (size_of size))

-- the word to be executed
abbrev pub fetched : Memory → ℕ → Result ℕ Access
fetched m addr = reach (λ r. r.flags.execute) (λ r. number_of (bytes_at addr 4 r)) (region_at m addr 4)

-- the list with f done to its first element that passes the test
abbrev pub with_first : {X : Type 0} → (X → Bool) → (X → X) → List X → List X
with_first test f [] = []
with_first test f (x ∷ xs) = if test x then f x ∷ xs else x ∷ with_first test f xs

-- the memory with these bytes from addr on, in the region that has them all
abbrev pub put : ℕ → List ℕ → Memory → Memory
put addr bytes m = with_first (holds addr (length bytes)) (with_bytes addr bytes) m

abbrev pub written : Memory → ℕ → List ℕ → Result Memory Access
written m addr bytes = reach (λ r. r.flags.write) (λ r. put addr bytes m) (region_at m addr (length bytes))

-- the lowest n bytes of a number, the lowest first
abbrev pub low_bytes : ℕ → ℕ → List ℕ
low_bytes zero value = []
low_bytes (suc n) value = value % 256 ∷ low_bytes n (value / 256)

-- the memory after a store
abbrev pub stored : Memory → ℕ → Size → ℕ → Result Memory Access
stored m addr size value = written m addr (low_bytes (size_of size) value)

-- ---- code

abbrev pub has_code : ℕ → ℕ → Area → Bool
has_code addr n r = r.flags.execute && meets addr n r

-- some of the n bytes from addr on may be executed
abbrev pub touches_code : Memory → ℕ → ℕ → Bool
touches_code m addr n = list_any (has_code addr n) m

abbrev pub code_of : Area → Code
code_of r = record { start = r.start; bytes = r.bytes }

abbrev pub as_code : Option Area → Option Code
as_code None = None
as_code (Some r) = Some (code_of r)

-- the executable region that has the byte at addr
abbrev pub code_at : Memory → ℕ → Option Code
code_at m addr = as_code (find (has_code addr 1) m)

-- ---- taking a region away

abbrev pub starts_at : ℕ → Area → Bool
starts_at start r = r.start == start

-- the region that starts there
abbrev pub region_from : Memory → ℕ → Option Area
region_from m start = find (starts_at start) m

-- the list without its first element that passes the test
abbrev pub without_first : {X : Type 0} → (X → Bool) → List X → List X
without_first test [] = []
without_first test (x ∷ xs) = if test x then xs else x ∷ without_first test xs

-- the other regions
abbrev pub others : Memory → ℕ → Memory
others m start = without_first (starts_at start) m

-- ---- making a region longer or shorter

-- the region with its bytes cut, or followed by zeros, to this length
abbrev pub with_length : ℕ → Area → Area
with_length len r = record r { bytes = take len r.bytes ++ replicate (len - length r.bytes) 0 }

-- a region to be read and written
abbrev pub data_flags : Flags
data_flags = record { read = true; write = true; execute = false }

abbrev pub lengthened : Option Area → Memory → ℕ → ℕ → Memory
lengthened None m start len = m ++ region_of start data_flags [] len ∷ []
lengthened (Some _) m start len = with_first (starts_at start) (with_length len) m

-- the memory with the region at start that long, and without it at length 0
abbrev pub resized : Memory → ℕ → ℕ → Memory
resized m start len = if len == 0 then others m start else lengthened (region_from m start) m start len
