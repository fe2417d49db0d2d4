-- What each answer of the host says.
use Rattle.std.specs.Prelude.{◌≡◌, ◌≢◌, ◌⊎◌, ℕ, Bool, true, false, if◌then◌else◌, List, [], ◌++◌, map, take, Option, Some, None, Result, Ok, Err, String}
use Rattle.std.specs.declared.alloc.Global.{Global}
use Rattle.std.specs.List.{flat_map, list_all}
use Rattle.plain_machine.specs.declared.ends.End.{End}
use Rattle.plain_machine.specs.declared.ends.End.TheVariants as ends
use Rattle.fault_counts.specs.Counts.{Rose}
use Rattle.outside.specs.Told.{Absent, Untold}
use Rattle.outside.specs.Sink.{with_bytes}
use Rattle.shelf_model.specs.Shelf.{Told as ShelfTold, TellsSame}
use Rattle.unit_set.specs.Slot.{Slot, slot_text}
use Rattle.publish.specs.declared.outcome.Loaded.{Loaded}
use Rattle.publish.specs.declared.outcome.Pub.{Pub}
use Rattle.registry.specs.declared.entry.Entry.{Entry}
use Rattle.publisher.specs.Loads.{name_at}
use Rattle.journal_text.specs.Journal.{journal_lines}
use Rattle.journal_text.specs.Shut.{first_fault, shelf_failed, shut_lines}
use Rattle.guest_loop.specs.Ended.{GuestEnd}
use Rattle.whole_run.specs.Job.{Job, job_of, slots_in_job}
use Rattle.whole_run.specs.Shelf.{ChangesOnly, Seen as ShelfSeen}
use Rattle.whole_run.specs.Whole.{IsWhole, Whole}
use Rattle.host_text.specs.Refusals.{refusal_text}
use Rattle.host_text.specs.Text.{text_in}
use Rattle.host_text.specs.declared.cause.Cause.{Cause}
use Rattle.host_text.specs.declared.cause.Cause.TheVariants as causes
use Rattle.host.specs.Outcome.{Source, Answers, AllAgree, Plan, outcome, answers_of}

-- What a call sees of the outside: its files, its shelf, and the bytes written and the faults of its sink, before and after.
pub record Seen : Type 0 where
  pub source : Source
  pub shelf : ShelfSeen
  pub written_before : Option (List ℕ)
  pub written_after : Option (List ℕ)
  pub sink_before : ℕ
  pub sink_after : ℕ

-- What a call tells of a run: how its slots were loaded, how its guests ended, the journal, and the publications.
pub record Lists : Type 0 where
  pub loads : List Loaded
  pub guests : List GuestEnd
  pub journal : List Entry
  pub served : List Pub

-- nothing was run
abbrev pub no_lists : Lists
no_lists = record { loads = []; guests = []; journal = []; served = [] }

-- ---- the run

abbrev pub job_in : Plan → Job
job_in plan = job_of plan.listing plan.programs plan.inputs

abbrev pub lists_of : Whole → Lists
lists_of w = record { loads = w.loads; guests = map (λ ran. ran.end) w.rans; journal = w.journal; served = w.served }

-- the journal, where it is asked for
abbrev pub journal_part : Bool → List (List ℕ) → List Slot → List Entry → List ℕ
journal_part asked guests slots journal = if asked then journal_lines guests slots journal else []

-- the guests in order, the journal, and the slots that are shut
abbrev pub run_text : Bool → Bool → List (List ℕ) → List Slot → Whole → List ℕ
run_text counts journal guests slots w = flat_map (text_in counts) w.rans ++ journal_part journal guests slots w.journal ++ shut_lines slots w.loads w.served

abbrev pub whole_text : Plan → Whole → List ℕ
whole_text plan w = run_text plan.order.counts plan.order.journal (map (λ g. g.name) plan.listing.guests) (slots_in_job (job_in plan)) w

-- Some answers to the reads, which all agree with what the files tell, give this plan.
pub record Comes (words : List (String Global)) (s : Source) (plan : Plan) : Type 0 where
  pub answers : Answers
  pub agree : AllAgree s answers
  pub comes : outcome words answers ≡ Ok plan

-- A plan comes whose run tells these lists and this text.
pub record Runs (words : List (String Global)) (s : Source) (shelf : ShelfSeen) (lists : Lists) (text : List ℕ) : Type 0 where
  pub plan : Plan
  pub comes : Comes words s plan
  pub whole : Whole
  pub runs : IsWhole (job_in plan) shelf whole
  pub lists_are : lists ≡ lists_of whole
  pub printed : text ≡ whole_text plan whole
  -- where the shelf failed on a slot, the count of its name rose
  pub caused : (slot : ℕ) → shelf_failed lists.loads lists.served slot ≡ true →
      Rose (shelf.faults_before (slot_text (name_at (slots_in_job (job_in plan)) slot))) (shelf.faults_after (slot_text (name_at (slots_in_job (job_in plan)) slot)))

-- A plan comes, and the areas of the shelf change by publications of its slots alone.
pub record ChangesIts (words : List (String Global)) (s : Source) (before after : ShelfTold) : Type 0 where
  pub plan : Plan
  pub comes : Comes words s plan
  pub changes : ChangesOnly (slots_in_job (job_in plan)) before after

-- so, or what it tells stays
abbrev pub Changes : List (String Global) → Source → ShelfTold → ShelfTold → Type 0
Changes words s before after = TellsSame before after ⊎ ChangesIts words s before after

-- Some answers to the reads, which all agree with what the files tell, give this cause.
pub record Refuses (words : List (String Global)) (s : Source) (cause : Cause) : Type 0 where
  pub answers : Answers
  pub agree : AllAgree s answers
  pub comes : outcome words answers ≡ Err cause

-- ---- the answers

abbrev pub is_exit : End → Bool
is_exit (ends.Exit status) = true
is_exit (ends.Fault kind pc) = false
is_exit ends.Fuel = false
is_exit ends.Unplaced = false

-- every guest exited
abbrev pub all_exit : List GuestEnd → Bool
all_exit guests = list_all (λ g. is_exit g.end) guests

abbrev pub cause_by : Option ℕ → Bool → Cause
cause_by (Some slot) exits = causes.Shelf slot
cause_by None exits = if exits then causes.Done else causes.GuestEnded

-- the cause of a run whose text is written whole: the first slot that the shelf failed on, and else how its guests ended
abbrev pub cause_of : Lists → Cause
cause_of lists = cause_by (first_fault lists.loads lists.served) (all_exit lists.guests)

-- The text is written whole.
pub record Prints (words : List (String Global)) (seen : Seen) (cause : Cause) (lists : Lists) : Type 0 where
  pub text : List ℕ
  pub runs : Runs words seen.source seen.shelf lists text
  pub how : cause_of lists ≡ cause
  pub whole : seen.written_after ≡ with_bytes seen.written_before text

-- The sink failed, and a front of the text is written.
pub record PrintsFront (words : List (String Global)) (seen : Seen) (lists : Lists) : Type 0 where
  pub text : List ℕ
  pub runs : Runs words seen.source seen.shelf lists text
  pub count : ℕ
  pub front : seen.written_after ≡ with_bytes seen.written_before (take count text)
  pub failed : Rose seen.sink_before seen.sink_after

-- a line is written, or the sink failed and a front of it is
abbrev pub TellsLine : Seen → List ℕ → Type 0
TellsLine seen line = (seen.written_after ≡ with_bytes seen.written_before line)
    ⊎ (Rose seen.sink_before seen.sink_after × ((count : ℕ) × (seen.written_after ≡ with_bytes seen.written_before (take count line))))

-- Nothing was run, for this reason, and its line is told.
pub record TellsRefusal (words : List (String Global)) (seen : Seen) (cause : Cause) (lists : Lists) : Type 0 where
  pub why : Refuses words seen.source cause
  pub none : lists ≡ no_lists
  pub line : TellsLine seen (refusal_text cause)

-- what an answer says of the words and the outside
abbrev pub Tells : List (String Global) → Seen → Cause → Lists → Type 0
Tells words seen causes.Done lists = Prints words seen causes.Done lists
Tells words seen causes.GuestEnded lists = Prints words seen causes.GuestEnded lists
Tells words seen (causes.Shelf slot) lists = Prints words seen (causes.Shelf slot) lists
Tells words seen causes.Sink lists = PrintsFront words seen lists
Tells words seen causes.Memory lists = (seen.written_after ≡ seen.written_before) × (lists ≡ no_lists)
Tells words seen causes.Words lists = TellsRefusal words seen causes.Words lists
Tells words seen (causes.Manifest e) lists = TellsRefusal words seen (causes.Manifest e) lists
Tells words seen (causes.Unread name) lists = TellsRefusal words seen (causes.Unread name) lists
Tells words seen (causes.Long name) lists = TellsRefusal words seen (causes.Long name) lists
Tells words seen (causes.Elf name e) lists = TellsRefusal words seen (causes.Elf name e) lists
Tells words seen (causes.Slots count) lists = TellsRefusal words seen (causes.Slots count) lists

-- ---- what is decided

-- nothing was run, and memory did not run out
abbrev pub is_refusal : Cause → Bool
is_refusal causes.Done = false
is_refusal causes.GuestEnded = false
is_refusal causes.Sink = false
is_refusal (causes.Shelf slot) = false
is_refusal causes.Memory = false
is_refusal causes.Words = true
is_refusal (causes.Manifest e) = true
is_refusal (causes.Unread name) = true
is_refusal (causes.Long name) = true
is_refusal (causes.Elf name e) = true
is_refusal (causes.Slots count) = true

abbrev pub is_of_run : Cause → Bool
is_of_run causes.Done = true
is_of_run causes.GuestEnded = true
is_of_run causes.Sink = true
is_of_run (causes.Shelf slot) = true
is_of_run causes.Memory = false
is_of_run causes.Words = false
is_of_run (causes.Manifest e) = false
is_of_run (causes.Unread name) = false
is_of_run (causes.Long name) = false
is_of_run (causes.Elf name e) = false
is_of_run (causes.Slots count) = false

-- the cause that an outcome makes, unless memory ran out
abbrev pub Decides : Result Plan Cause → Cause → Type 0
Decides (Ok plan) cause = (cause ≡ causes.Memory) ⊎ (is_of_run cause ≡ true)
Decides (Err why) cause = (cause ≡ causes.Memory) ⊎ (cause ≡ why)

-- The files tell all, the words, the manifest and the files are taken, and no count of faults rose, but those of absent names.
pub record IsFair (words : List (String Global)) (seen : Seen) : Type 0 where
  pub told : (name : List ℕ) → seen.source.content name ≢ Untold
  pub read : (name : List ℕ) → Rose (seen.source.before name) (seen.source.after name) → seen.source.content name ≡ Absent
  pub plan : Plan
  pub taken : outcome words (answers_of seen.source.content) ≡ Ok plan
  pub written : Rose seen.sink_before seen.sink_after → ⊥
  pub kept : (name : List ℕ) → Rose (seen.shelf.faults_before name) (seen.shelf.faults_after name) → ⊥

-- the guests were run and the text is written, unless memory ran out
abbrev pub RanOrMemory : ℕ → Type 0
RanOrMemory status = (status ≡ 0) ⊎ (status ≡ 1) ⊎ (status ≡ 6)
