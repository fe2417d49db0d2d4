-- What a whole run tells, and what holds of it.
use Rattle.std.specs.Prelude.{◌≡◌, ℕ, ◌<◌, true, List, [], ◌∷◌, ◌++◌, length, map, slice_index_or, None}
use Rattle.std.specs.List.{AllByRecursion}
use Rattle.elf_map.specs.Program.{texts_of}
use Rattle.publish.specs.declared.outcome.Loaded.{Loaded}
use Rattle.publish.specs.declared.outcome.Loaded.TheVariants.{Unread}
use Rattle.publish.specs.declared.outcome.Pub.{Pub}
use Rattle.publish.specs.Crash.{ForBoth}
use Rattle.publish.specs.Verdict.{held}
use Rattle.registry.specs.declared.entry.Entry.{Entry}
use Rattle.registry.specs.declared.entry.Entry.TheVariants.{Finish}
use Rattle.registry.specs.Opening.{Opening, slot_at}
use Rattle.registry.specs.State.{due_slot}
use Rattle.registry.specs.History.{IsOpening}
use Rattle.registry.specs.Registry.{AreReplied, opened, reg, told_all}
use Rattle.guest_rounds.specs.Calls.{AreOfGuests}
use Rattle.guest_rounds.specs.Rounds.{AreFree, AreInOrder, AreTold}
use Rattle.publisher.specs.Folder.{HoldsBehind, HoldsNow, IsSound, KeepsOthers}
use Rattle.publisher.specs.Serving.{AreCaused, Publishes}
use Rattle.guest_loop.specs.declared.guest.Ran.{Ran}
use Rattle.whole_run.specs.Job.{Job, rounds_of, slots_in_job, tells}
use Rattle.whole_run.specs.Shelf.{IsOpened, Opened, Seen, seq_loaded}

pub record Whole : Type 0 where
  -- how each slot was loaded
  pub loads : List Loaded
  -- the guests
  pub rans : List Ran
  pub journal : List Entry
  -- the publications
  pub served : List Pub

-- how the slot of this number was loaded
abbrev pub opened_at : Opening → List Loaded → ℕ → Opened
opened_at o loads k = record { loaded = slice_index_or loads k Unread; found = slice_index_or o.found k None; shut = slice_index_or o.shut k true }

-- What the registry is made from: the slots of the job, each as it was loaded, and its modules and files.
pub record Opens (j : Job) (s : Seen) (loads : List Loaded) (o : Opening) : Type 0 where
  pub slots : o.slots ≡ slots_in_job j
  pub modules : o.modules ≡ map (λ m. m.file) j.listing.modules
  pub codes : o.codes ≡ map texts_of j.programs
  pub each : length loads ≡ length o.slots
  -- of each slot it is said which unit was found, and whether it is shut
  pub is : IsOpening o
  pub opened : (k : ℕ) → k < length o.slots → IsOpened s (slot_at o k) (opened_at o loads k)

-- Each reply is the registry's at its place in the journal; in the end no slot is due, and no unit is held.
pub record Replays (o : Opening) (journal : List Entry) : Type 0 where
  pub replied : AreReplied o (opened o) journal
  pub none_due : due_slot (reg o journal) ≡ None
  pub free : AreFree (reg o journal)

-- The guests made their entries in rounds, then the host one, and then the publisher its own; each guest is told by its own.
pub record Calls (j : Job) (o : Opening) (s : Seen) (of_guests of_publisher : List Entry) (w : Whole) : Type 0 where
  pub split : w.journal ≡ of_guests ++ Finish ∷ of_publisher
  pub theirs : AreOfGuests (length j.listing.guests) of_guests
  pub in_order : AreInOrder (rounds_of j) of_guests
  pub one_each : length w.rans ≡ length j.listing.guests
  pub told : AreTold (tells j) (told_all o (opened o) w.journal) w.rans
  pub publishes : Publishes (map seq_loaded w.loads) of_publisher w.served
  pub caused : AreCaused o s.faults_before s.faults_after w.served

-- Each slot of which no publication met a fault of the shelf holds the unit that was last acknowledged, or what it held; and
-- areas of every other name keep their bytes.
pub record Folder (o : Opening) (s : Seen) (of_guests of_publisher : List Entry) (served : List Pub) : Type 0 where
  pub holds : (k : ℕ) → k < length o.slots → AllByRecursion (IsSound k) served →
      ForBoth s.told_before (slot_at o k) (λ a b. HoldsNow s.told_after (slot_at o k) (HoldsBehind o (reg o (of_guests ++ Finish ∷ [])) k of_publisher (held (slot_at o k) a b)))
  pub others : KeepsOthers o of_publisher s.told_before s.told_after

-- by one opening and one journal
pub record IsWhole (j : Job) (s : Seen) (w : Whole) : Type 0 where
  pub opening : Opening
  pub of_guests : List Entry
  pub of_publisher : List Entry
  pub opens : Opens j s w.loads opening
  pub replays : Replays opening w.journal
  pub calls : Calls j opening s of_guests of_publisher w
  pub folder : Folder opening s of_guests of_publisher w.served
