-- What a run that may begin keeps.
use Rattle.std.proofs.Common.{◌≡◌, ℕ, ◌+◌, ◌≤◌, List, [], ◌∷◌, length, if◌then◌else◌, true, false, Ok, Err, Result, refl, sym, ◌∙◌, ap, subst, ⊎_elim, arith}
use Rattle.std.specs.Prelude.{nat_le}
use Rattle.std.proofs.lemmas.Bool.{cases_Bool}
use Rattle.std.proofs.lemmas.Bool.Decides.{leb_tells}
use Rattle.manifest.specs.declared.error.ManifestErr.{ManifestErr}
use Rattle.manifest.specs.Entries.{GuestEntry, Listing}
use Rattle.unit_set.specs.Slot.{Slot}
use Rattle.host_text.specs.declared.cause.Cause.{Cause}
use Rattle.host_text.specs.declared.cause.Cause.TheVariants as causes
use Rattle.host.specs.Outcome.{behind_input, given, limited, listed}

pub listing_is : (r : Result Listing ManifestErr) (listing : Listing) → listed r ≡ Ok listing → r ≡ Ok listing
listing_is (Ok l) listing is = ap (λ x. Ok (listing_in l x)) is
  where
    listing_in : Listing → Result Listing Cause → Listing
    listing_in other (Ok x) = x
    listing_in other (Err cause) = other
listing_is (Err e) listing is = cc

abbrev slots_in : List Slot → Result (List Slot) Cause → List Slot
slots_in other (Ok slots) = slots
slots_in other (Err cause) = other

-- there are 64 at most, where they are listed
pub few_slots : (slots listed : List Slot) → limited slots ≡ Ok listed → (listed ≡ slots) × (length slots ≤ 64)
few_slots slots listed is =
    ⊎_elim (λ yes. (sym (ap (slots_in slots) (sym (ap (λ b. if b then Ok slots else Err (causes.Slots (length slots))) yes.0) ∙ is)), yes.1))
    (λ no. let h : Err (causes.Slots (length slots)) ≡ Ok listed = sym (ap (λ b. if b then Ok slots else Err (causes.Slots (length slots))) no.0) ∙ is in absurd (cc))
    (leb_tells (length slots) 64)

-- each guest has what it may read
pub given_count : (guests : List GuestEntry) (read : List (List ℕ)) → length (given guests read) ≡ length guests
given_count [] read = refl
given_count (g ∷ guests) read = let more = given_count guests (behind_input g.input read) in omega (arith, more)
