-- What a publication makes of the areas, however long they are.
use Rattle.std.specs.Prelude.{◌≡◌, ◌+◌, None, Result, Ok, Err}
use Rattle.shelf_model.specs.Shelf.{Told, TellsOthers, WhereTold}
use Rattle.unit_set.specs.Slot.{slot_text}
use Rattle.unit_set.specs.Held.{Held}
use Rattle.publish.specs.declared.area.Standing.{Standing}
use Rattle.publish.specs.declared.area.Door.{Door}
use Rattle.publish.specs.declared.gates.PubErr.{PubErr}
use Rattle.publish.specs.Area.{body_of, free, side}
use Rattle.publish.specs.Gates.{Ends}
use Rattle.publish.specs.Crash.{advanced, text_of}

-- how the gate of the area stands that is not held
abbrev pub free_door : Standing → Door
free_door s = side (free s.held) s.a s.b

-- The area that is not held is as the stages of this unit left it, under the seq above the held one. Every other area keeps its bytes.
pub record Rewrites {T : Type 0} (before after : Told) (unit : Held) (s : Standing) (result : Result T PubErr) : Type 0 where
  pub others : TellsOthers before after (slot_text unit.slot) (free s.held)
  pub silent : before (slot_text unit.slot) (free s.held) ≡ None → after (slot_text unit.slot) (free s.held) ≡ None
  pub this : WhereTold (before (slot_text unit.slot) (free s.held)) (Ends result (after (slot_text unit.slot) (free s.held)) (free_door s) (body_of (s.seq + 1) (text_of unit)))

-- the standing behind a publication
abbrev pub standing_by : {T : Type 0} → Result T PubErr → Standing → Standing
standing_by (Ok stages) s = advanced (free s.held) (s.seq + 1) s
standing_by (Err e) s = s
