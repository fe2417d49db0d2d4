-- What a call of the host comes to, by what its reads answer.
use Rattle.std.specs.Prelude.{◌≡◌, ◌≢◌, ℕ, suc, ◌<◌, ◌≤◌, nat_le, List, [], ◌∷◌, length, if◌then◌else◌, Option, Some, None, Result, Ok, Err, String}
use Rattle.std.specs.List.{filter_map}
use Rattle.std.specs.declared.alloc.Global.{Global}
use Rattle.fault_counts.specs.Counts.{Rose}
use Rattle.outside.specs.Told.{Told, Untold, Absent, Holds, ForContent}
use Rattle.plain_machine.specs.Program.{Program}
use Rattle.manifest.specs.declared.error.ManifestErr.{ManifestErr}
use Rattle.manifest.specs.Entries.{Listing, GuestEntry}
use Rattle.manifest.specs.Manifest.{manifest_of}
use Rattle.elf_map.specs.declared.error.ElfErr.{ElfErr}
use Rattle.elf_map.specs.Elf.{elf_of}
use Rattle.unit_set.specs.Slot.{Slot}
use Rattle.slot_list.specs.Slots.{slots_of}
use Rattle.host_text.specs.declared.cause.Cause.{Cause}
use Rattle.host_text.specs.declared.cause.Cause.TheVariants as causes
use Rattle.host.specs.Words.{Order, order_of}

-- ---- reads

-- what a read is for: the manifest, the file of this number, or of the inputs that guests have the one of this number
pub data Place : Type 0 where
  Manifest : Place
  File : ℕ → Place
  Input : ℕ → Place

-- the most bytes that are taken
abbrev pub limit_of : Place → ℕ
limit_of Manifest = 1048576
limit_of (File i) = 4194304
limit_of (Input i) = 1048576

-- the answer to a read of a name: its bytes, or why there are none
abbrev pub Answer : Type 0
Answer = Result (List ℕ) Cause

-- What the files tell: the contents, and how often reads of each name failed before the call and after it.
pub record Source : Type 0 where
  pub content : List ℕ → Told
  pub before : List ℕ → ℕ
  pub after : List ℕ → ℕ

-- an answer that agrees with what the files tell: the bytes are the content; a name is unread only where reads of it
-- failed in this call; it is long where the content is. Memory may run out
abbrev pub Agrees : Source → ℕ → List ℕ → Answer → Type 0
Agrees s limit name (Ok bytes) = ForContent (s.content name) (λ content. bytes ≡ content) × (length bytes ≤ limit)
Agrees s limit name (Err (causes.Unread n)) = (n ≡ name) × Rose (s.before name) (s.after name)
Agrees s limit name (Err (causes.Long n)) = (n ≡ name) × ForContent (s.content name) (λ content. limit < length content)
Agrees s limit name (Err causes.Memory) = Unit {0}
Agrees s limit name (Err causes.Done) = ⊥
Agrees s limit name (Err causes.GuestEnded) = ⊥
Agrees s limit name (Err causes.Words) = ⊥
Agrees s limit name (Err (causes.Manifest e)) = ⊥
Agrees s limit name (Err (causes.Elf n e)) = ⊥
Agrees s limit name (Err (causes.Slots count)) = ⊥
Agrees s limit name (Err causes.Sink) = ⊥
Agrees s limit name (Err (causes.Shelf slot)) = ⊥

-- the answers to all reads
abbrev pub Answers : Type 0
Answers = Place → List ℕ → Answer

-- they all agree with what the files tell
abbrev pub AllAgree : Source → Answers → Type 0
AllAgree s answers = (place : Place) (name : List ℕ) → Agrees s (limit_of place) name (answers place name)

-- ---- the work

infixl 10 ◌>>=◌
abbrev pub ◌>>=◌ : {A B : Type 0} → Result A Cause → (A → Result B Cause) → Result B Cause
(Ok x) >>= f = f x
(Err cause) >>= f = Err cause

abbrev pub ordered : Option Order → Result Order Cause
ordered None = Err causes.Words
ordered (Some order) = Ok order

abbrev pub listed : Result Listing ManifestErr → Result Listing Cause
listed (Ok listing) = Ok listing
listed (Err e) = Err (causes.Manifest e)

-- what is read of these names, in order
unfoldable pub each : (ℕ → List ℕ → Answer) → List (List ℕ) → Result (List (List ℕ)) Cause
each answers [] = Ok []
each answers (name ∷ names) = do
  bytes ← answers 0 name
  rest ← each (λ i. answers (suc i)) names
  Ok (bytes ∷ rest)

abbrev pub taken : List ℕ → Result Program ElfErr → Result Program Cause
taken name (Ok program) = Ok program
taken name (Err e) = Err (causes.Elf name e)

-- the programs of these files, by their names and bytes
unfoldable pub programs_of : List (List ℕ) → List (List ℕ) → Result (List Program) Cause
programs_of [] files = Ok []
programs_of (name ∷ names) [] = Ok []
programs_of (name ∷ names) (bytes ∷ files) = do
  program ← taken name (elf_of bytes)
  rest ← programs_of names files
  Ok (program ∷ rest)

-- the names of the inputs that guests have, in order
abbrev pub input_names : List GuestEntry → List (List ℕ)
input_names guests = filter_map (λ g. g.input) guests

abbrev pub input_or : Option (List ℕ) → List (List ℕ) → List ℕ
input_or None read = []
input_or (Some name) [] = []
input_or (Some name) (bytes ∷ read) = bytes

abbrev pub behind_input : Option (List ℕ) → List (List ℕ) → List (List ℕ)
behind_input None read = read
behind_input (Some name) [] = []
behind_input (Some name) (bytes ∷ read) = read

-- for each guest what was read of its input, where these were read one after the other; one without an input has none
abbrev pub given : List GuestEntry → List (List ℕ) → List (List ℕ)
given [] read = []
given (g ∷ guests) read = input_or g.input read ∷ given guests (behind_input g.input read)

-- 64 slots at most
abbrev pub limited : List Slot → Result (List Slot) Cause
limited slots = if nat_le (length slots) 64 then Ok slots else Err (causes.Slots (length slots))

-- What is to be run: what the words ask, a manifest, the programs of its files, and what was read of each guest's input.
pub record Plan : Type 0 where
  pub order : Order
  pub listing : Listing
  pub programs : List Program
  pub inputs : List (List ℕ)

-- The work in its order. The first failure is what it comes to.
abbrev pub outcome : List (String Global) → Answers → Result Plan Cause
outcome words answers = do
  order ← ordered (order_of words)
  text ← answers Manifest order.file
  listing ← listed (manifest_of text)
  files ← each (λ i. answers (File i)) listing.files
  inputs ← each (λ i. answers (Input i)) (input_names listing.guests)
  programs ← programs_of listing.files files
  slots ← limited (slots_of listing.modules listing.guests programs)
  Ok (record { order = order; listing = listing; programs = programs; inputs = given listing.guests inputs })

-- ---- files that tell all

abbrev pub answer_of : ℕ → List ℕ → Told → Answer
answer_of limit name Untold = Err causes.Memory
answer_of limit name Absent = Err (causes.Unread name)
answer_of limit name (Holds bytes) = if nat_le (length bytes) limit then Ok bytes else Err (causes.Long name)

-- the answers where the files tell all contents and no read of a content fails
abbrev pub answers_of : (List ℕ → Told) → Answers
answers_of content place name = answer_of (limit_of place) name (content name)

-- All contents are told, and a name that the call says was not read is absent. No count is compared, since one number may be
-- the count of every name.
pub record IsSteady (content : List ℕ → Told) (cause : Cause) : Type 0 where
  pub told : (name : List ℕ) → content name ≢ Untold
  pub absent : (name : List ℕ) → cause ≡ causes.Unread name → content name ≡ Absent
