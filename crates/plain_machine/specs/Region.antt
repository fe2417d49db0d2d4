-- Regions of memory, as clauses see them.
use Rattle.std.specs.Prelude.{ℕ, ◌+◌, ◌-◌, Bool, ◌&&◌, nat_lt, nat_le, min, max, List, ◌++◌, length, take, drop, replicate}
use Rattle.plain_machine.specs.declared.access.Flags.{Flags}

-- bytes in a row from start on
pub record Area : Type 0 where
  pub start : ℕ
  pub flags : Flags
  pub bytes : List ℕ

abbrev pub end_of : Area → ℕ
end_of r = r.start + length r.bytes

-- the region has all n bytes from addr on
abbrev pub holds : ℕ → ℕ → Area → Bool
holds addr n r = nat_le r.start addr && nat_le (addr + n) (end_of r)

-- the region has some of the n bytes from addr on
abbrev pub meets : ℕ → ℕ → Area → Bool
meets addr n r = nat_lt (max r.start addr) (min (end_of r) (addr + n))

-- the n bytes from addr on, of a region that has them
abbrev pub bytes_at : ℕ → ℕ → Area → List ℕ
bytes_at addr n r = take n (drop (addr - r.start) r.bytes)

-- the region with these bytes from addr on
abbrev pub with_bytes : ℕ → List ℕ → Area → Area
with_bytes addr bytes r = record r { bytes = take (addr - r.start) r.bytes ++ bytes ++ drop (addr - r.start + length bytes) r.bytes }

-- a region of len bytes: those given, and zeros behind them
abbrev pub region_of : ℕ → Flags → List ℕ → ℕ → Area
region_of start flags first len = record { start = start; flags = flags; bytes = first ++ replicate (len - length first) 0 }
