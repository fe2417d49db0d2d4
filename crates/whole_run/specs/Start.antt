-- A run of which no guest ran yet.
use Rattle.std.specs.Prelude.{◌≡◌, ℕ, ◌<◌, true, false, List, [], length, map, slice_index_or}
use Rattle.shelf_model.specs.Shelf.{Images}
use Rattle.publish.specs.declared.area.Standing.{Standing}
use Rattle.publish.specs.declared.outcome.Loaded.{Loaded}
use Rattle.publish.specs.Crash.{Fits}
use Rattle.registry.specs.Opening.{slot_at}
use Rattle.registry.specs.History.{History}
use Rattle.publisher.specs.Serving.{AreDistinct, seqs_of, standing_at}
use Rattle.whole_run.specs.Job.{Job}
use Rattle.whole_run.specs.Shelf.{Seen, seq_loaded}
use Rattle.whole_run.specs.Whole.{Opens}

-- The registry has no entry yet, and was made from the slots as they were loaded, of which no two have one spelling. Of each that
-- was read its standing is known, by what the shelf tells now, and by what a crash may leave of it.
pub record IsStart (j : Job) (s : Seen) (now : ℕ) (images : Images) (loads : List Loaded) (standings : List Standing) (h : History) : Type 0 where
  pub empty : h.journal ≡ []
  pub opens : Opens j s loads h.opening
  pub apart : AreDistinct h.opening
  pub each : length standings ≡ length h.opening.slots
  pub seqs : seqs_of standings ≡ map seq_loaded loads
  pub fits : (k : ℕ) → k < length h.opening.slots → slice_index_or h.opening.shut k true ≡ false → Fits s.told_after images now (slot_at h.opening k) (standing_at standings k)
