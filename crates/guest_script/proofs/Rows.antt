-- Worked rows.
use Rattle.std.proofs.Common.{[], ◌∷◌, refl, sym, ◌∙◌, ap}
use Rattle.std.specs.FinMap as fin
use Rattle.registry.specs.Registry.{AsksDetach, AsksMerge}
use Rattle.slot_list.specs.Slots.{slot_for}
use Rattle.guest_script.specs.Script.{Ages, IsSlotOf}
use Rattle.guest_script.specs.Rows.{FirstPublication, MappedLibrary, caller_of, lib_row, main_row, sixteen}
use Rattle.guest_script.proofs.Ages.{age-else, age-new, age-stays}

abbrev one_attached : Ages
one_attached = fin.insert fin.empty 0 0

abbrev both_attached : Ages
both_attached = fin.insert one_attached 4 0

main_alone : IsSlotOf (caller_of (main_row ∷ []) (slot_for main_row 0 sixteen ∷ [])) 0 0
main_alone = record { row = main_row; known = refl; there = refl }

pub first-publication : FirstPublication
first-publication = (
  (
    refl,
    (
      (0, main_alone, refl),
      ((0, main_alone, ap (λ a. AsksMerge 0 0 a (0x10000 ∷ [])) (sym (age-new fin.empty 0 0 0 refl))), ((0, main_alone, ap (AsksDetach 0 0) (sym (age-new fin.empty 0 0 0 refl))), tt)),
    ),
  ),
  refl,
  refl,
  refl,
)

main_slot : IsSlotOf (caller_of (main_row ∷ lib_row ∷ []) (slot_for main_row 0 sixteen ∷ slot_for lib_row 0 sixteen ∷ [])) 0 0
main_slot = record { row = main_row; known = refl; there = refl }

lib_slot : IsSlotOf (caller_of (main_row ∷ lib_row ∷ []) (slot_for main_row 0 sixteen ∷ slot_for lib_row 0 sixteen ∷ [])) 4 1
lib_slot = record { row = lib_row; known = refl; there = refl }

pub mapped-library : MappedLibrary
mapped-library = (
  (
    refl,
    (
      (0, main_slot, refl),
      (
        refl,
        (
          (1, lib_slot, refl),
          (
            (0, main_slot, ap (AsksDetach 0 0) (sym (age-else one_attached 4 0 0 refl ∙ age-new fin.empty 0 0 0 refl))),
            ((1, lib_slot, ap (AsksDetach 0 1) (sym (age-stays both_attached 0 4 refl ∙ age-new one_attached 4 4 0 refl))), tt),
          ),
        ),
      ),
    ),
  ),
  refl,
  refl,
)
