-- Entries and requests behind others.
use Rattle.std.specs.Prelude.{◌≡◌, ℕ, List, ◌++◌}
use Rattle.block_ledger.specs.Requests.{Asking}
use Rattle.registry.specs.Registry.{Told}
use Rattle.guest_script.specs.Script.{Ages, AreMade, Caller, last_ages}
use Rattle.guest_script.specs.Told.{files_told, units_told}
use Rattle.guest_script.specs.Legs.{blocks_at, legs_from}

abbrev pub MadeGoesOn : Type 0
MadeGoesOn = (c : Caller) (ages : Ages) (rs more : List Asking) (ts others : List Told) → AreMade c ages rs ts → AreMade c (last_ages ages rs ts) more others → AreMade c ages (rs ++ more) (ts ++ others)

abbrev pub AgesGoOn : Type 0
AgesGoOn = (c : Caller) (ages : Ages) (rs more : List Asking) (ts others : List Told) → AreMade c ages rs ts → last_ages ages (rs ++ more) (ts ++ others) ≡ last_ages (last_ages ages rs ts) more others

-- what entries tell
pub record AreTold (ts others : List Told) : Type 0 where
  pub files : files_told (ts ++ others) ≡ files_told ts ++ files_told others
  pub units : units_told (ts ++ others) ≡ units_told ts ++ units_told others

abbrev pub ToldGoesOn : Type 0
ToldGoesOn = (ts others : List Told) → AreTold ts others

-- how many blocks began
pub record AreCounted (before : ℕ) (rs more : List Asking) : Type 0 where
  pub legs : legs_from before (rs ++ more) ≡ legs_from before rs ++ legs_from (blocks_at before rs) more
  pub blocks : blocks_at before (rs ++ more) ≡ blocks_at (blocks_at before rs) more

abbrev pub LegsGoOn : Type 0
LegsGoOn = (before : ℕ) (rs more : List Asking) → AreCounted before rs more
