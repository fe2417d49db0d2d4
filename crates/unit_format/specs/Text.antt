-- The text of a unit, by cases per version and field, and what has one.
use Rattle.std.specs.Prelude.{◌≡◌, ◌⊎◌, ℕ, ◌+◌, ◌*◌, ◌%◌, ◌^◌, ◌<◌, ◌≤◌, List, [], ◌∷◌, ◌++◌, length}
use Rattle.std.specs.List.{flat_map, AllByRecursion}
use Rattle.std.specs.Int.{w16, w32, to_le_bytes}
use Rattle.cc_base.specs.Image.{Code, FitsSegment}
use Rattle.fragment.specs.declared.Exit.{Exit}
use Rattle.fragment.specs.declared.Exit.TheVariants.{Direct, Indirect, Asks, Stop}
use Rattle.fragment.specs.declared.Probe.{Probe}
use Rattle.probe_tools.specs.declared.probe.ProbeKind.{ProbeKind}
use Rattle.probe_tools.specs.declared.probe.ProbeKind.TheVariants.{Block, Call, Load, Store}
use Rattle.rv_decode.specs.declared.ins.Isa.{Isa}
use Rattle.rv_decode.specs.declared.ins.Isa.TheVariants.{I, Im}
use Rattle.unit_set.specs.Raw.{Tied, Raw}
use Rattle.fragment.specs.Build.{words_at}
use Rattle.unit_set.specs.Slot.{slot_text, IsSlot}
use Rattle.unit_format.specs.declared.header.Version.{Version}
use Rattle.unit_format.specs.declared.header.Version.TheVariants.{One, Two}

-- ---- the fields in which the versions differ

-- CCU1 or CCU2
abbrev pub magic_text : Version → List ℕ
magic_text One = 67 ∷ 67 ∷ 85 ∷ 49 ∷ []
magic_text Two = 67 ∷ 67 ∷ 85 ∷ 50 ∷ []

-- the instruction set
abbrev pub isa_text : Version → Isa → List ℕ
isa_text One isa = []
isa_text Two I = 0 ∷ []
isa_text Two Im = 1 ∷ []

-- a number of words or probes
abbrev pub count_text : Version → ℕ → List ℕ
count_text One n = n ∷ []
count_text Two n = to_le_bytes w16 n

-- the instruction sets of which a version has texts
abbrev pub HasTexts : Version → Isa → Type 0
HasTexts One isa = isa ≡ I
HasTexts Two isa = Unit {0}

-- ---- what they share

abbrev pub u32_text : ℕ → List ℕ
u32_text n = to_le_bytes w32 n

abbrev pub name_text : List ℕ → List ℕ
name_text name = length name ∷ name

-- an image, by its start and its bytes
abbrev pub code : ℕ → List ℕ → Code
code start bytes = record { start = start; bytes = bytes }

abbrev pub image_text : Code → List ℕ
image_text image = u32_text image.start ++ (u32_text (length image.bytes) ++ image.bytes)

abbrev pub kind_code : ProbeKind → ℕ
kind_code Block = 0
kind_code Call = 1
kind_code Load = 2
kind_code Store = 3

abbrev pub probe_text : Probe → List ℕ
probe_text p = p.place ∷ kind_code p.kind ∷ []

abbrev pub exit_text : Exit → List ℕ
exit_text (Direct target) = 0 ∷ u32_text target
exit_text Indirect = 1 ∷ u32_text 0
exit_text (Asks target) = 2 ∷ u32_text target
exit_text Stop = 3 ∷ u32_text 0

-- an exit with its link
abbrev pub Out : Type 0
Out = Exit × ℕ

abbrev pub out_text : Out → List ℕ
out_text out = exit_text out.0 ++ u32_text out.1

abbrev pub outs : List Exit → List ℕ → List Out
outs [] links = []
outs (e ∷ es) [] = []
outs (e ∷ es) (l ∷ ls) = (e, l) ∷ outs es ls

abbrev pub fragment_text : Version → Tied → List ℕ
fragment_text v f =
    u32_text f.frag.address ++ count_text v (length f.frag.words)
    ++ (count_text v (length f.frag.probes) ++ flat_map probe_text f.frag.probes)
    ++ (length f.frag.exits ∷ flat_map out_text (outs f.frag.exits f.links))

abbrev pub text : Version → Raw → List ℕ
text v u =
    magic_text v ++ (isa_text v u.slot.isa ++ (name_text (slot_text u.slot) ++ (image_text u.image
    ++ (u32_text (length u.frags) ++ flat_map (fragment_text v) u.frags))))

-- ---- what has a text

-- n words from x on are wholly in the image
pub record HoldsWords (image : Code) (x n : ℕ) : Type 0 where
  pub some : 1 ≤ n
  pub at_most : n ≤ 64
  pub from : image.start ≤ x
  pub to : x + 4 * n ≤ image.start + length image.bytes

abbrev pub IsProbe : ℕ → Probe → Type 0
IsProbe words p = p.place < words

abbrev pub IsExit : Exit → Type 0
IsExit (Direct target) = target < 2 ^ 32
IsExit Indirect = Unit {0}
IsExit (Asks target) = target < 2 ^ 32
IsExit Stop = Unit {0}

abbrev pub IsOut : Out → Type 0
IsOut out = IsExit out.0 × (out.1 < 2 ^ 32)

-- a fragment that may stand behind one below `least`
pub record IsFragment (image : Code) (least : ℕ) (f : Tied) : Type 0 where
  pub rises : least ≤ f.frag.address
  pub address : f.frag.address < 2 ^ 32
  pub aligned : f.frag.address % 4 ≡ 0
  pub within : HoldsWords image f.frag.address (length f.frag.words)
  pub words : f.frag.words ≡ words_at image f.frag.address (length f.frag.words)
  pub few_probes : length f.frag.probes ≤ 64
  pub probes : AllByRecursion (IsProbe (length f.frag.words)) f.frag.probes
  pub exits : (length f.frag.exits ≡ 1) ⊎ (length f.frag.exits ≡ 2)
  pub links : length f.links ≡ length f.frag.exits
  pub all_outs : AllByRecursion IsOut (outs f.frag.exits f.links)

-- they rise by address
abbrev pub AreFragments : Code → ℕ → List Tied → Type 0
AreFragments image least [] = Unit {0}
AreFragments image least (f ∷ fs) = IsFragment image least f × AreFragments image (f.frag.address + 1) fs

pub record IsRaw (v : Version) (u : Raw) : Type 0 where
  pub isa : HasTexts v u.slot.isa
  pub slot : IsSlot u.slot
  pub start : u.image.start < 2 ^ 32
  pub image : FitsSegment u.image.start u.image.bytes
  pub count : length u.frags ≤ 16384
  pub fragments : AreFragments u.image 0 u.frags

-- the grammar: these bytes are this unit's text of the version
abbrev pub Spells : Version → List ℕ → Raw → Type 0
Spells v bytes u = IsRaw v u × (bytes ≡ text v u)
