-- The printed rows.
use Rattle.std.specs.Prelude.{ℕ, ◌-◌, ◌%◌, ◌==◌, Bool, List, ◌++◌, length, replicate, codes, true, decimal, if◌then◌else◌}
use Rattle.std.specs.List.{flat_map}
use Rattle.std.specs.Fmt.{digits}
use Rattle.std.specs.FinMap as fin
use Rattle.probe_tools.specs.declared.tool.Tool.{Tool}
use Rattle.probe_tools.specs.declared.tool.Tool.TheVariants as tools
use Rattle.report.specs.Rows.{Rows}

-- an address: eight upper-case hexadecimal digits
abbrev pub hex : ℕ → List ℕ
hex n = replicate (8 - length (digits 16 true n)) 48 ++ digits 16 true n

abbrev pub kind_text : Bool → List ℕ
kind_text store = if store then codes " store" else codes " load"

-- what stands before the count of a key: an address; of an access its line and kind, where a line is a multiple of 64
-- and the key is one more for a store
unfoldable pub key_text : Tool → ℕ → List ℕ
key_text tools.Blocks key = hex key
key_text tools.Calls key = hex key
key_text tools.Memory key = hex (key - key % 2) ++ kind_text (key % 2 == 1)

-- a key and its count, as a line
unfoldable pub row_text : Tool → ℕ × ℕ → List ℕ
row_text tool row = key_text tool row.0 ++ codes " " ++ decimal row.1 ++ codes "\n"

-- all rows, rising by key
abbrev pub report_text : Rows → List ℕ
report_text r = flat_map (row_text r.tool) (fin.entries r.counts)
