-- Exit statuses, and the lines that tell why nothing was run.
use Rattle.std.specs.Prelude.{ℕ, List, [], ◌++◌, codes, decimal}
use Rattle.manifest.specs.declared.error.ManifestErr.{ManifestErr}
use Rattle.manifest.specs.declared.error.ManifestErr.TheVariants as rules
use Rattle.elf_map.specs.declared.error.ElfErr.{ElfErr}
use Rattle.elf_map.specs.declared.error.ElfErr.TheVariants as elf
use Rattle.host_text.specs.declared.cause.Cause.{Cause}
use Rattle.host_text.specs.declared.cause.Cause.TheVariants as causes

-- the exit status
abbrev pub status_of : Cause → ℕ
status_of causes.Done = 0
status_of causes.GuestEnded = 1
status_of causes.Words = 2
status_of (causes.Manifest e) = 3
status_of (causes.Unread name) = 4
status_of (causes.Long name) = 4
status_of (causes.Elf name e) = 5
status_of causes.Memory = 6
status_of causes.Sink = 7
status_of (causes.Slots count) = 5
status_of (causes.Shelf slot) = 8

-- which rule of a manifest fails
abbrev pub manifest_word : ManifestErr → List ℕ
manifest_word rules.Text = codes "text"
manifest_word (rules.Unknown key) = codes "unknown "
manifest_word (rules.Missing key) = codes "missing "
manifest_word (rules.Kind key) = codes "kind "
manifest_word (rules.TooMany key) = codes "many "
manifest_word (rules.BadName key) = codes "name "
manifest_word (rules.Range key) = codes "range "
manifest_word (rules.Repeated key) = codes "repeated "
manifest_word rules.Memory = codes "memory"

-- the path of its key
abbrev pub manifest_key : ManifestErr → List ℕ
manifest_key rules.Text = []
manifest_key (rules.Unknown key) = key
manifest_key (rules.Missing key) = key
manifest_key (rules.Kind key) = key
manifest_key (rules.TooMany key) = key
manifest_key (rules.BadName key) = key
manifest_key (rules.Range key) = key
manifest_key (rules.Repeated key) = key
manifest_key rules.Memory = []

abbrev pub manifest_line : ManifestErr → List ℕ
manifest_line e = codes "error manifest " ++ manifest_word e ++ manifest_key e ++ codes "\n"

-- which rule of an ELF file fails
abbrev pub elf_word : ElfErr → List ℕ
elf_word elf.Short = codes " short"
elf_word elf.Magic = codes " magic"
elf_word elf.Class = codes " class"
elf_word elf.Order = codes " order"
elf_word elf.Version = codes " version"
elf_word elf.FileKind = codes " filekind"
elf_word elf.Machine = codes " machine"
elf_word elf.Compressed = codes " compressed"
elf_word elf.HeaderSize = codes " headersize"
elf_word elf.TooManyHeaders = codes " toomanyheaders"
elf_word elf.Table = codes " table"
elf_word elf.Interp = codes " interp"
elf_word elf.Dynamic = codes " dynamic"
elf_word elf.Tls = codes " tls"
elf_word (elf.Segment i) = codes " segment "
elf_word elf.TooManyCode = codes " toomanycode"
elf_word elf.Memory = codes " memory"

-- the number of the segment
abbrev pub elf_number : ElfErr → List ℕ
elf_number (elf.Segment i) = decimal i
elf_number _ = []

abbrev pub elf_line : List ℕ → ElfErr → List ℕ
elf_line name e = codes "error elf " ++ name ++ elf_word e ++ elf_number e ++ codes "\n"

abbrev pub slots_line : ℕ → List ℕ
slots_line count = codes "error slots " ++ decimal count ++ codes "\n"

-- the line that tells why nothing was run
abbrev pub refusal_text : Cause → List ℕ
refusal_text causes.Words = codes "error words\n"
refusal_text (causes.Manifest e) = manifest_line e
refusal_text (causes.Unread name) = codes "error file " ++ name ++ codes " unread\n"
refusal_text (causes.Long name) = codes "error file " ++ name ++ codes " long\n"
refusal_text (causes.Elf name e) = elf_line name e
refusal_text (causes.Slots count) = slots_line count
refusal_text causes.Memory = []
refusal_text causes.Done = []
refusal_text causes.GuestEnded = []
refusal_text causes.Sink = []
refusal_text (causes.Shelf slot) = []
