-- What the work comes to, from its steps.
use Rattle.std.proofs.Common.{◌≡◌, ℕ, List, Some, None, Ok, Err, Result, ◌∙◌, ap, inl, inr}
use Rattle.std.specs.Prelude.{String}
use Rattle.std.specs.declared.alloc.Global.{Global}
use Rattle.plain_machine.specs.Program.{Program}
use Rattle.manifest.specs.Entries.{Listing}
use Rattle.manifest.specs.Manifest.{manifest_of}
use Rattle.unit_set.specs.Slot.{Slot}
use Rattle.slot_list.specs.Slots.{slots_of}
use Rattle.host_text.specs.declared.cause.Cause.{Cause}
use Rattle.host_text.specs.declared.cause.Cause.TheVariants as causes
use Rattle.host.specs.Outcome.{◌>>=◌, Answer, Source, Agrees, AllAgree, Plan, ordered, listed, each, programs_of, input_names, given, limited, outcome}
use Rattle.host.specs.Words.{Order, order_of}
use Rattle.host.specs.Answer.{Comes, Refuses}
use Rattle.host.specs.Reading.{AreRead, Fails, ReadsBoth, ReadsFail}
use Rattle.host.proofs.Steps.{goes_on, stops}
use Rattle.host.proofs.Oracles.{answer_at, at_itself, agrees_at, nothing, agrees_nothing, known_all, known_failure, answers_by, all_agree}

agree_with : (s : Source) (name : List ℕ) (answer : Answer) (files inputs : ℕ → List ℕ → Answer) → Agrees s 1048576 name answer →
    ((i : ℕ) (asked : List ℕ) → Agrees s 4194304 asked (files i asked)) → ((i : ℕ) (asked : List ℕ) → Agrees s 1048576 asked (inputs i asked)) →
    AllAgree s (answers_by (answer_at name answer) files inputs)
agree_with s name answer files inputs text a b = all_agree s (answer_at name answer) files inputs (agrees_at s 1048576 name answer text) a b

pub refuses_words : (words : List (String Global)) (s : Source) → order_of words ≡ None → Refuses words s causes.Words
refuses_words words s none = record {
  answers = answers_by (nothing 0) nothing nothing;
  agree = all_agree s (nothing 0) nothing nothing (agrees_nothing s 1048576 0) (agrees_nothing s 4194304) (agrees_nothing s 1048576);
  comes = stops (ordered (order_of words)) _ causes.Words (ap ordered none);
}

pub refuses_text : (words : List (String Global)) (s : Source) (order : Order) (cause : Cause) → order_of words ≡ Some order → Agrees s 1048576 order.file (Err cause) → Refuses words s cause
refuses_text words s order cause some agrees = record {
  answers = answers_by (answer_at order.file (Err cause)) nothing nothing;
  agree = agree_with s order.file (Err cause) nothing nothing agrees (agrees_nothing s 4194304) (agrees_nothing s 1048576);
  comes = goes_on (ordered (order_of words)) _ order (ap ordered some) ∙ stops (answer_at order.file (Err cause) order.file) _ cause (at_itself order.file (Err cause));
}

-- The text that the words name is read.
pub record HasText (words : List (String Global)) (s : Source) (text : List ℕ) : Type 0 where
  pub order : Order
  pub some : order_of words ≡ Some order
  pub agrees : Agrees s 1048576 order.file (Ok text)

pub refuses_listing : (words : List (String Global)) (s : Source) (text : List ℕ) (cause : Cause) → HasText words s text → listed (manifest_of text) ≡ Err cause → Refuses words s cause
refuses_listing words s text cause has is = record {
  answers = answers_by (answer_at has.order.file (Ok text)) nothing nothing;
  agree = agree_with s has.order.file (Ok text) nothing nothing has.agrees (agrees_nothing s 4194304) (agrees_nothing s 1048576);
  comes = goes_on (ordered (order_of words)) _ has.order (ap ordered has.some) ∙ goes_on (answer_at has.order.file (Ok text) has.order.file) _ text (at_itself has.order.file (Ok text))
      ∙ stops (listed (manifest_of text)) _ cause is;
}

-- The text that the words name is read, and is this manifest.
pub record HasListing (words : List (String Global)) (s : Source) (listing : Listing) : Type 0 where
  pub text : List ℕ
  pub has : HasText words s text
  pub is : listed (manifest_of text) ≡ Ok listing

-- the plan of these programs and these inputs, which were read one after the other
abbrev pub plan_of : Order → Listing → List Program → List (List ℕ) → Plan
plan_of order listing programs read = record { order = order; listing = listing; programs = programs; inputs = given listing.guests read }

-- what the work comes to behind its first steps
comes_to : (words : List (String Global)) (s : Source) (listing : Listing) (files inputs : ℕ → List ℕ → Answer) (h : HasListing words s listing) →
    (result : Result Plan Cause) → (do
      all ← each files listing.files
      read ← each inputs (input_names listing.guests)
      programs ← programs_of listing.files all
      slots ← limited (slots_of listing.modules listing.guests programs)
      Ok (plan_of h.has.order listing programs read)) ≡ result →
    outcome words (answers_by (answer_at h.has.order.file (Ok h.text)) files inputs) ≡ result
comes_to words s listing files inputs h result rest =
    goes_on (ordered (order_of words)) _ h.has.order (ap ordered h.has.some) ∙ goes_on (answer_at h.has.order.file (Ok h.text) h.has.order.file) _ h.text (at_itself h.has.order.file (Ok h.text))
    ∙ goes_on (listed (manifest_of h.text)) _ listing h.is ∙ rest

pub refuses_reads : (words : List (String Global)) (s : Source) (listing : Listing) (cause : Cause) → HasListing words s listing →
    ReadsFail s listing.files (input_names listing.guests) cause → Refuses words s cause
refuses_reads words s listing cause h (inl fails) =
    let files = known_failure s 4194304 listing.files cause fails in
    record {
      answers = answers_by (answer_at h.has.order.file (Ok h.text)) files.answers nothing;
      agree = agree_with s h.has.order.file (Ok h.text) files.answers nothing h.has.agrees files.agree (agrees_nothing s 1048576);
      comes = comes_to words s listing files.answers nothing h (Err cause) (stops (each files.answers listing.files) _ cause files.gives);
    }
refuses_reads words s listing cause h (inr (all, read, fails)) =
    let files = known_all s 4194304 listing.files all read in
    let inputs = known_failure s 1048576 (input_names listing.guests) cause fails in
    record {
      answers = answers_by (answer_at h.has.order.file (Ok h.text)) files.answers inputs.answers;
      agree = agree_with s h.has.order.file (Ok h.text) files.answers inputs.answers h.has.agrees files.agree inputs.agree;
      comes = comes_to words s listing files.answers inputs.answers h (Err cause)
          (goes_on (each files.answers listing.files) _ all files.gives ∙ stops (each inputs.answers (input_names listing.guests)) _ cause inputs.gives);
    }

pub refuses_elf : (words : List (String Global)) (s : Source) (listing : Listing) (all read : List (List ℕ)) (cause : Cause) → HasListing words s listing →
    ReadsBoth s listing.files (input_names listing.guests) all read → programs_of listing.files all ≡ Err cause → Refuses words s cause
refuses_elf words s listing all read cause h both is =
    let files = known_all s 4194304 listing.files all both.files_read in
    let inputs = known_all s 1048576 (input_names listing.guests) read both.inputs_read in
    record {
      answers = answers_by (answer_at h.has.order.file (Ok h.text)) files.answers inputs.answers;
      agree = agree_with s h.has.order.file (Ok h.text) files.answers inputs.answers h.has.agrees files.agree inputs.agree;
      comes = comes_to words s listing files.answers inputs.answers h (Err cause)
          (goes_on (each files.answers listing.files) _ all files.gives ∙ goes_on (each inputs.answers (input_names listing.guests)) _ read inputs.gives
          ∙ stops (programs_of listing.files all) _ cause is);
    }

pub refuses_slots : (words : List (String Global)) (s : Source) (listing : Listing) (all read : List (List ℕ)) (programs : List Program) (cause : Cause) → HasListing words s listing →
    ReadsBoth s listing.files (input_names listing.guests) all read → programs_of listing.files all ≡ Ok programs →
    limited (slots_of listing.modules listing.guests programs) ≡ Err cause → Refuses words s cause
refuses_slots words s listing all read programs cause h both is many =
    let files = known_all s 4194304 listing.files all both.files_read in
    let inputs = known_all s 1048576 (input_names listing.guests) read both.inputs_read in
    record {
      answers = answers_by (answer_at h.has.order.file (Ok h.text)) files.answers inputs.answers;
      agree = agree_with s h.has.order.file (Ok h.text) files.answers inputs.answers h.has.agrees files.agree inputs.agree;
      comes = comes_to words s listing files.answers inputs.answers h (Err cause)
          (goes_on (each files.answers listing.files) _ all files.gives ∙ goes_on (each inputs.answers (input_names listing.guests)) _ read inputs.gives
          ∙ goes_on (programs_of listing.files all) _ programs is ∙ stops (limited (slots_of listing.modules listing.guests programs)) _ cause many);
    }

pub plan_comes : (words : List (String Global)) (s : Source) (listing : Listing) (all read : List (List ℕ)) (programs : List Program) (slots : List Slot) → (h : HasListing words s listing) →
    ReadsBoth s listing.files (input_names listing.guests) all read → programs_of listing.files all ≡ Ok programs →
    limited (slots_of listing.modules listing.guests programs) ≡ Ok slots → Comes words s (plan_of h.has.order listing programs read)
plan_comes words s listing all read programs slots h both is few =
    let files = known_all s 4194304 listing.files all both.files_read in
    let inputs = known_all s 1048576 (input_names listing.guests) read both.inputs_read in
    record {
      answers = answers_by (answer_at h.has.order.file (Ok h.text)) files.answers inputs.answers;
      agree = agree_with s h.has.order.file (Ok h.text) files.answers inputs.answers h.has.agrees files.agree inputs.agree;
      comes = comes_to words s listing files.answers inputs.answers h (Ok (plan_of h.has.order listing programs read))
          (goes_on (each files.answers listing.files) _ all files.gives ∙ goes_on (each inputs.answers (input_names listing.guests)) _ read inputs.gives
          ∙ goes_on (programs_of listing.files all) _ programs is ∙ goes_on (limited (slots_of listing.modules listing.guests programs)) _ slots few);
    }
