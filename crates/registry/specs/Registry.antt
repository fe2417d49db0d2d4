-- The registry: what each entry changes, and what each call answers.
use Rattle.std.specs.Prelude.{◌≡◌, ℕ, ◌+◌, ◌-◌, nat_lt, Bool, true, false, if◌then◌else◌, List, [], ◌∷◌, ◌++◌, length, position, slice_get, slice_set, Option, Some, None, unwrap_or}
use Rattle.cc_base.specs.Image.{Code}
use Rattle.registry.specs.declared.entry.Entry.{Entry}
use Rattle.registry.specs.declared.entry.Entry.TheVariants.{Map, Replace, Attach, Merge, Detach, Due, Acked, Failed, Finish}
use Rattle.registry.specs.declared.entry.Merged.{Merged}
use Rattle.registry.specs.declared.entry.Merged.TheVariants.{Version, UnitFull}
use Rattle.registry.specs.declared.entry.Replaced.{Replaced}
use Rattle.registry.specs.declared.entry.Replaced.TheVariants.{Yes, NoSuchModule, NoSuchFile}
use Rattle.registry.specs.Content.{Content, most_addrs, union, same_code}
use Rattle.registry.specs.Opening.{Opening, no_slot, empty_at}
use Rattle.registry.specs.State.{State, SlotState, Generation, with_at, with_slot, due_slot}
use Rattle.registry.specs.declared.entry.Stamp.{Stamp}

-- ---- at the start

-- a unit that was found is generation 0, current, and published
abbrev pub slot_opened : Option Content → Bool → SlotState
slot_opened None shut = record { generations = []; current = None; published = None; shut = shut }
slot_opened (Some unit) shut = record {
  generations = record { unit = unit; version = 0; attached = 0 } ∷ [];
  current = Some 0;
  published = Some (record { age = 0; version = 0 });
  shut = shut;
}

abbrev pub slots_opened : List (Option Content) → List Bool → List SlotState
slots_opened [] shut = []
slots_opened (unit ∷ found) [] = []
slots_opened (unit ∷ found) (b ∷ shut) = slot_opened unit b ∷ slots_opened found shut

abbrev pub opened : Opening → State
opened o = record { files = o.modules; slots = slots_opened o.found o.shut; unanswered = 0; finished = false }

-- ---- attaching

abbrev pub no_unit : Content
no_unit = record { slot = no_slot; image = record { start = 0; bytes = [] }; addrs = [] }

abbrev pub no_generation : Generation
no_generation = record { unit = no_unit; version = 0; attached = 0 }

abbrev pub generation_in : List Generation → ℕ → Generation
generation_in gs age = unwrap_or (slice_get gs age) no_generation

abbrev pub one_more : Generation → Generation
one_more g = record g { attached = g.attached + 1 }

abbrev pub one_less : Generation → Generation
one_less g = record g { attached = g.attached - 1 }

-- a first guest holds the unit
abbrev pub new_generation : Content → Generation
new_generation unit = record { unit = unit; version = 0; attached = 1 }

abbrev pub has_image : Code → Generation → Bool
has_image image g = same_code g.unit.image image

-- the place of the generation with this image
abbrev pub age_of : Code → List Generation → Option ℕ
age_of image gs = position (has_image image) gs

abbrev pub attach_age : Option ℕ → List Generation → ℕ
attach_age None gs = length gs
attach_age (Some age) gs = age

abbrev pub held_at : Content → List Generation → Option ℕ → List Generation
held_at unit gs None = gs ++ new_generation unit ∷ []
held_at unit gs (Some age) = with_at one_more age gs

-- the generation with the image of this unit has one guest more; where there is none it is this unit's
abbrev pub held : Content → List Generation → List Generation
held unit gs = held_at unit gs (age_of unit.image gs)

abbrev pub attached : Content → SlotState → SlotState
attached unit s = record s { generations = held unit s.generations; current = Some (attach_age (age_of unit.image s.generations) s.generations) }

-- ---- merging

abbrev pub is_over : List ℕ → Bool
is_over addrs = nat_lt most_addrs (length addrs)

abbrev pub version_after : Generation → List ℕ → ℕ
version_after g addrs = if nat_lt (length g.unit.addrs) (length addrs) then g.version + 1 else g.version

abbrev pub merged_with : Generation → List ℕ → Generation
merged_with g addrs =
    if is_over addrs then g
    else record g { unit = record g.unit { addrs = addrs }; version = version_after g addrs }

abbrev pub merged : List ℕ → Generation → Generation
merged more g = merged_with g (union g.unit.addrs more)

abbrev pub merge_reply_with : Generation → List ℕ → Merged
merge_reply_with g addrs = if is_over addrs then UnitFull (length addrs) else Version (version_after g addrs)

abbrev pub merge_reply : List ℕ → Generation → Merged
merge_reply more g = merge_reply_with g (union g.unit.addrs more)

-- ---- what an entry changes. Its reply is not looked at

abbrev pub replaced_by : List ℕ → ℕ → ℕ → ℕ → Replaced
replaced_by files count k file = if nat_lt k (length files) then (if nat_lt file count then Yes else NoSuchFile) else NoSuchModule

abbrev pub replace_reply : Opening → State → ℕ → ℕ → Replaced
replace_reply o s k file = replaced_by s.files (length o.codes) k file

abbrev pub files_after : Replaced → List ℕ → ℕ → ℕ → List ℕ
files_after Yes files k file = slice_set files k file
files_after NoSuchModule files k file = files
files_after NoSuchFile files k file = files

abbrev pub with_generation : ℕ → (Generation → Generation) → SlotState → SlotState
with_generation age f s = record s { generations = with_at f age s.generations }

abbrev pub published_as : ℕ → ℕ → SlotState → SlotState
published_as age version s = record s { published = Some (record { age = age; version = version }) }

abbrev pub shut_now : SlotState → SlotState
shut_now s = record s { shut = true }

abbrev pub answered : State → State
answered s = record s { unanswered = s.unanswered - 1 }

abbrev pub after : Opening → State → Entry → State
after o s (Map guest k file) = s
after o s (Replace guest k file reply) = record s { files = files_after (replace_reply o s k file) s.files k file }
after o s (Attach guest slot file age version) = with_slot s slot (attached (empty_at o slot file))
after o s (Merge guest slot age addrs reply) = with_slot s slot (with_generation age (merged addrs))
after o s (Detach guest slot age) = with_slot s slot (with_generation age one_less)
after o s (Due slot age version) = record s { unanswered = s.unanswered + 1 }
after o s (Acked slot age version) = answered (with_slot s slot (published_as age version))
after o s (Failed slot) = answered (with_slot s slot shut_now)
after o s Finish = record s { finished = true }

-- the state behind entries
abbrev pub after_all : Opening → State → List Entry → State
after_all o s [] = s
after_all o s (e ∷ es) = after_all o (after o s e) es

-- the state behind a journal
abbrev pub reg : Opening → List Entry → State
reg o journal = after_all o (opened o) journal

-- ---- what a call answers

pub data Ask : Type 0 where
  AsksMap : (guest k : ℕ) → Ask
  AsksReplace : (guest k file : ℕ) → Ask
  AsksAttach : (guest slot file : ℕ) → Ask
  AsksMerge : (guest slot age : ℕ) (addrs : List ℕ) → Ask
  AsksDetach : (guest slot age : ℕ) → Ask
  AsksDue : Ask
  AsksAcked : (slot age version : ℕ) → Ask
  AsksFailed : (slot : ℕ) → Ask
  AsksFinish : Ask

abbrev pub ask_of : Entry → Ask
ask_of (Map guest k file) = AsksMap guest k
ask_of (Replace guest k file reply) = AsksReplace guest k file
ask_of (Attach guest slot file age version) = AsksAttach guest slot file
ask_of (Merge guest slot age addrs reply) = AsksMerge guest slot age addrs
ask_of (Detach guest slot age) = AsksDetach guest slot age
ask_of (Due slot age version) = AsksDue
ask_of (Acked slot age version) = AsksAcked slot age version
ask_of (Failed slot) = AsksFailed slot
ask_of Finish = AsksFinish

abbrev pub no_state : SlotState
no_state = record { generations = []; current = None; published = None; shut = false }

abbrev pub slot_in : List SlotState → ℕ → SlotState
slot_in ss slot = unwrap_or (slice_get ss slot) no_state

abbrev pub slot_of : State → ℕ → SlotState
slot_of s slot = slot_in s.slots slot

abbrev pub generation_of : State → ℕ → ℕ → Generation
generation_of s slot age = generation_in (slot_of s slot).generations age

-- the generation that an attach answers
abbrev pub attach_generation : Content → List Generation → Option ℕ → Generation
attach_generation unit gs None = new_generation unit
attach_generation unit gs (Some age) = generation_in gs age

abbrev pub attaches_age : Opening → State → ℕ → ℕ → ℕ
attaches_age o s slot file =
    attach_age (age_of (empty_at o slot file).image (slot_of s slot).generations) (slot_of s slot).generations

abbrev pub attaches_generation : Opening → State → ℕ → ℕ → Generation
attaches_generation o s slot file =
    attach_generation (empty_at o slot file) (slot_of s slot).generations (age_of (empty_at o slot file).image (slot_of s slot).generations)

abbrev pub due_entry : Option (ℕ × Stamp) → Option Entry
due_entry None = None
due_entry (Some d) = Some (Due d.0 d.1.age d.1.version)

-- the entry of the next call; none where it makes none
abbrev pub entry_for : Opening → State → Ask → Option Entry
entry_for o s (AsksMap guest k) = Some (Map guest k (slice_get s.files k))
entry_for o s (AsksReplace guest k file) = Some (Replace guest k file (replace_reply o s k file))
entry_for o s (AsksAttach guest slot file) = Some (Attach guest slot file (attaches_age o s slot file) (attaches_generation o s slot file).version)
entry_for o s (AsksMerge guest slot age addrs) =
    Some (Merge guest slot age addrs (merge_reply addrs (generation_of s slot age)))
entry_for o s (AsksDetach guest slot age) = Some (Detach guest slot age)
entry_for o s AsksDue = due_entry (due_slot s)
entry_for o s (AsksAcked slot age version) = Some (Acked slot age version)
entry_for o s (AsksFailed slot) = Some (Failed slot)
entry_for o s AsksFinish = if s.finished then None else Some Finish

-- the unit that an entry hands its caller: an attach that of its generation, a due that which is to be published
abbrev pub unit_for : Opening → State → Entry → Content
unit_for o s (Attach guest slot file age version) = (attaches_generation o s slot file).unit
unit_for o s (Due slot age version) = (generation_of s slot age).unit
unit_for o s (Map guest k file) = no_unit
unit_for o s (Replace guest k file reply) = no_unit
unit_for o s (Merge guest slot age addrs reply) = no_unit
unit_for o s (Detach guest slot age) = no_unit
unit_for o s (Acked slot age version) = no_unit
unit_for o s (Failed slot) = no_unit
unit_for o s Finish = no_unit

-- ---- a whole journal

-- the entry is the one that its call makes here
abbrev pub IsReplied : Opening → State → Entry → Type 0
IsReplied o s e = entry_for o s (ask_of e) ≡ Some e

-- each entry is the one that its call makes at its place
abbrev pub AreReplied : Opening → State → List Entry → Type 0
AreReplied o s [] = Unit {0}
AreReplied o s (e ∷ es) = IsReplied o s e × AreReplied o (after o s e) es

-- an entry, and the unit that it hands its caller
pub record Told : Type 0 where
  pub entry : Entry
  pub unit : Content

abbrev pub told : Opening → State → Entry → Told
told o s e = record { entry = e; unit = unit_for o s e }

-- each entry with what it hands its caller at its place
abbrev pub told_all : Opening → State → List Entry → List Told
told_all o s [] = []
told_all o s (e ∷ es) = told o s e ∷ told_all o (after o s e) es
