-- ELF files of 32 bits for RISC-V: which of them are taken, and what they are (System V ABI, "Object Files" and
-- "Program Loading"; RISC-V ELF psABI, "File Header").
use Rattle.std.specs.Prelude.{ℕ, zero, suc, ◌+◌, ◌*◌, ◌/◌, ◌%◌, ◌==◌, Bool, not, ◌&&◌, ◌||◌, nat_lt, nat_le, if◌then◌else◌, List, [], ◌∷◌, ◌++◌, length, map, filter, Option, Some, None, Result, Ok, Err, slice_index}
use Rattle.std.specs.List.{flat_map}
use Rattle.plain_machine.specs.declared.access.Flags.{Flags}
use Rattle.plain_machine.specs.Program.{Program, Segment}
use Rattle.elf_map.specs.declared.error.ElfErr.{ElfErr}
use Rattle.elf_map.specs.declared.error.ElfErr.TheVariants as errors
use Rattle.elf_map.specs.declared.header.ProgramHeader.{ProgramHeader}
use Rattle.elf_map.specs.Number.{number_at}
use Rattle.elf_map.specs.Program.{texts_of, size_limit, bytes_from}

-- ---- the file's header

abbrev pub class : List ℕ → ℕ
class f = slice_index f 4

abbrev pub order : List ℕ → ℕ
order f = slice_index f 5

abbrev pub file_version : List ℕ → ℕ
file_version f = slice_index f 6

abbrev pub e_type : List ℕ → ℕ
e_type f = number_at 2 f 16

abbrev pub e_machine : List ℕ → ℕ
e_machine f = number_at 2 f 18

abbrev pub e_version : List ℕ → ℕ
e_version f = number_at 4 f 20

abbrev pub e_entry : List ℕ → ℕ
e_entry f = number_at 4 f 24

abbrev pub e_phoff : List ℕ → ℕ
e_phoff f = number_at 4 f 28

abbrev pub e_flags : List ℕ → ℕ
e_flags f = number_at 4 f 36

abbrev pub e_ehsize : List ℕ → ℕ
e_ehsize f = number_at 2 f 40

abbrev pub e_phentsize : List ℕ → ℕ
e_phentsize f = number_at 2 f 42

abbrev pub e_phnum : List ℕ → ℕ
e_phnum f = number_at 2 f 44

-- ---- program headers

-- the program header that begins there
abbrev pub header_of : List ℕ → ℕ → ProgramHeader
header_of f at = record {
  kind = number_at 4 f at;
  offset = number_at 4 f (at + 4);
  vaddr = number_at 4 f (at + 8);
  file_size = number_at 4 f (at + 16);
  memory_size = number_at 4 f (at + 20);
  flags = number_at 4 f (at + 24);
}

-- n program headers of 32 bytes each, from there on
unfoldable pub headers_from : List ℕ → ℕ → ℕ → List ProgramHeader
headers_from f at zero = []
headers_from f at (suc n) = header_of f at ∷ headers_from f (at + 32) n

abbrev pub headers : List ℕ → List ProgramHeader
headers f = headers_from f (e_phoff f) (e_phnum f)

-- PF_X, PF_W and PF_R are the bits 0, 1 and 2
abbrev pub flags_of : ℕ → Flags
flags_of flags = record { read = flags / 4 % 2 == 1; write = flags / 2 % 2 == 1; execute = flags % 2 == 1 }

-- ---- what a file is

-- it is PT_LOAD, and has bytes in memory
abbrev pub is_mapped : ProgramHeader → Bool
is_mapped h = (h.kind == 1) && nat_lt 0 h.memory_size

abbrev pub segment_of : List ℕ → ProgramHeader → Segment
segment_of f h = record { vaddr = h.vaddr; size = h.memory_size; flags = flags_of h.flags; content = bytes_from h.offset h.file_size f }

abbrev pub segments_of : List ℕ → List ProgramHeader → List Segment
segments_of f hs = map (segment_of f) (filter is_mapped hs)

-- the program of a file. ET_EXEC, number 2, has fixed addresses
abbrev pub program_in : List ℕ → Program
program_in f = record { fixed = e_type f == 2; entry = e_entry f; segments = segments_of f (headers f) }

-- ---- which files are taken

-- a rule, and the answer where it fails
abbrev pub Rule : Type 0
Rule = Bool × ElfErr

-- the answer of the first rule that fails
abbrev pub first_failing : List Rule → Option ElfErr
first_failing [] = None
first_failing (rule ∷ rules) = if rule.0 then first_failing rules else Some rule.1

-- the rules on the file's header
abbrev pub header_rules : List ℕ → List Rule
header_rules f =
    (nat_le 52 (length f), errors.Short) ∷
    (number_at 4 f 0 == 0x464c457f, errors.Magic) ∷
    (class f == 1, errors.Class) ∷
    (order f == 1, errors.Order) ∷
    ((file_version f == 1) && (e_version f == 1), errors.Version) ∷
    ((e_type f == 2) || (e_type f == 3), errors.FileKind) ∷
    (e_machine f == 243, errors.Machine) ∷
    (e_flags f % 2 == 0, errors.Compressed) ∷
    ((e_ehsize f == 52) && ((e_phnum f == 0) || (e_phentsize f == 32)), errors.HeaderSize) ∷
    (nat_le (e_phnum f) 64, errors.TooManyHeaders) ∷
    ((e_phnum f == 0) || nat_le (e_phoff f + 32 * e_phnum f) (length f), errors.Table) ∷
    []

-- the rules on the kind of a program header: neither PT_INTERP nor PT_DYNAMIC nor PT_TLS
abbrev pub kind_rules : ProgramHeader → List Rule
kind_rules h = (not (h.kind == 3), errors.Interp) ∷ (not (h.kind == 2), errors.Dynamic) ∷ (not (h.kind == 7), errors.Tls) ∷ []

-- the sizes and places of a segment are within the file, the addresses and the limits
abbrev pub fits : ℕ → ProgramHeader → Bool
fits file_length h =
    nat_le h.file_size h.memory_size &&
    nat_le (h.offset + h.file_size) file_length &&
    nat_le (h.vaddr + h.memory_size) 4294967295 &&
    nat_le h.memory_size (size_limit (flags_of h.flags).execute)

-- if it is PT_LOAD, it fits
abbrev pub is_sound : ℕ → ProgramHeader → Bool
is_sound file_length h = not (h.kind == 1) || fits file_length h

-- the rules on the segments of these headers, the first of which has number i
abbrev pub segment_rules : ℕ → ℕ → List ProgramHeader → List Rule
segment_rules file_length i [] = []
segment_rules file_length i (h ∷ hs) = (is_sound file_length h, errors.Segment i) ∷ segment_rules file_length (i + 1) hs

-- at most four segments may be executed
abbrev pub count_rule : Program → Rule
count_rule program = (nat_le (length (texts_of program)) 4, errors.TooManyCode)

-- all rules, in order
abbrev pub file_rules : List ℕ → List Rule
file_rules f = header_rules f ++ (flat_map kind_rules (headers f) ++ (segment_rules (length f) 0 (headers f) ++ count_rule (program_in f) ∷ []))

abbrev pub answered : Option ElfErr → Program → Result Program ElfErr
answered None program = Ok program
answered (Some e) program = Err e

-- the program of a file, or the answer of the first rule that fails
abbrev pub elf_of : List ℕ → Result Program ElfErr
elf_of f = answered (first_failing (file_rules f)) (program_in f)
