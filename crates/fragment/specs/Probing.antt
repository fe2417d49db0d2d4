-- Where a block has probes.
use Rattle.std.specs.Prelude.{ℕ, ◌+◌, ◌==◌, List, [], ◌∷◌, length, slice_index, Option, Some, None}
use Rattle.std.specs.List.{flat_map, range_with_len}
use Rattle.rv_decode.specs.declared.ins.Isa.{Isa}
use Rattle.rv_decode.specs.Table.{instruction}
use Rattle.probe_tools.specs.declared.tool.Tool.{Tool}
use Rattle.probe_tools.specs.declared.probe.ProbeKind.{ProbeKind}
use Rattle.probe_tools.specs.Probes.{probe_of}
use Rattle.fragment.specs.Classes.{class_of}
use Rattle.fragment.specs.declared.Probe.{Probe}

-- the probe before the word at place i of these words, if there is one
abbrev pub probe_at : Tool → Isa → List ℕ → ℕ → Option ProbeKind
probe_at tool isa words i = probe_of tool (class_of (instruction isa (slice_index words i))) i (i + 1 == length words)

abbrev pub placed : ℕ → Option ProbeKind → List Probe
placed i None = []
placed i (Some kind) = record { place = i; kind = kind } ∷ []

-- those before the first n words, by rising place
unfoldable pub probes_before : Tool → Isa → List ℕ → ℕ → List Probe
probes_before tool isa words n = flat_map (λ i. placed i (probe_at tool isa words i)) (range_with_len 0 n)

-- all probes of a block of these words
abbrev pub probes_of : Tool → Isa → List ℕ → List Probe
probes_of tool isa words = probes_before tool isa words (length words)
