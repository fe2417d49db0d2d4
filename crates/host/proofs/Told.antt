-- What files that tell all answer.
use Rattle.std.proofs.Common.{◌≡◌, ◌≢◌, ℕ, suc, ◌<◌, ◌≤◌, List, [], ◌∷◌, length, if◌then◌else◌, Option, Some, None, Ok, Err, Result, refl, sym, ◌∙◌, ap, subst, inl, inr, ⊎_elim, ◌⊎◌, arith}
use Rattle.std.specs.Prelude.{String}
use Rattle.std.specs.declared.alloc.Global.{Global}
use Rattle.std.specs.Prelude.{nat_le}
use Rattle.std.proofs.lemmas.Bool.{cases_Bool}
use Rattle.std.proofs.lemmas.Bool.Decides.{leb_tells}
use Rattle.fault_counts.specs.Counts.{Rose}
use Rattle.outside.specs.Told.{Told, Untold, Absent, Holds, ForContent}
use Rattle.plain_machine.specs.Program.{Program}
use Rattle.manifest.specs.declared.error.ManifestErr.{ManifestErr}
use Rattle.manifest.specs.Entries.{Listing}
use Rattle.manifest.specs.Manifest.{manifest_of}
use Rattle.elf_map.specs.declared.error.ElfErr.{ElfErr}
use Rattle.elf_map.specs.Elf.{elf_of}
use Rattle.unit_set.specs.Slot.{Slot}
use Rattle.slot_list.specs.Slots.{slots_of}
use Rattle.host_text.specs.declared.cause.Cause.{Cause}
use Rattle.host_text.specs.declared.cause.Cause.TheVariants as causes
use Rattle.host.specs.Outcome.{Place, Manifest, File, Input, limit_of, Answer, Source, Agrees, Answers, AllAgree, ordered, listed, each, taken, programs_of, input_names, limited, outcome, answer_of, answers_of}
use Rattle.host.specs.Words.{Order, order_of}
use Rattle.host.proofs.Steps.{Same, same_steps, fails_in}

abbrev the_err : (A : Type 0) → Cause → Result A Cause
the_err A cause = Err cause

abbrev the_ok : (A : Type 0) → A → Result A Cause
the_ok A x = Ok x

abbrev cause_in : {A : Type 0} → Cause → Result A Cause → Cause
cause_in other (Ok x) = other
cause_in other (Err cause) = cause

-- ---- one read

short : (limit : ℕ) (name bytes : List ℕ) → length bytes ≤ limit → Ok bytes ≡ answer_of limit name (Holds bytes)
short limit name bytes fits =
    ⊎_elim (λ yes. sym (ap (λ b. if b then Ok bytes else Err (causes.Long name)) yes.0)) (λ no. absurd (omega (arith, fits, no.1)))
    (leb_tells (length bytes) limit)

long : (limit : ℕ) (name bytes : List ℕ) → limit < length bytes → Err (causes.Long name) ≡ answer_of limit name (Holds bytes)
long limit name bytes over =
    ⊎_elim (λ yes. absurd (omega (arith, over, yes.1))) (λ no. sym (ap (λ b. if b then Ok bytes else Err (causes.Long name)) no.0))
    (leb_tells (length bytes) limit)

same_bytes : (told : Told) (limit : ℕ) (name bytes : List ℕ) → told ≢ Untold → ForContent told (λ content. bytes ≡ content) → length bytes ≤ limit →
    Ok bytes ≡ answer_of limit name told
same_bytes Untold limit name bytes tells same fits = absurd (tells refl)
same_bytes Absent limit name bytes tells same fits = absurd same
same_bytes (Holds content) limit name bytes tells same fits = subst (λ c. Ok bytes ≡ answer_of limit name (Holds c)) same (short limit name bytes fits)

same_long : (told : Told) (limit : ℕ) (name n : List ℕ) → told ≢ Untold → n ≡ name → ForContent told (λ content. limit < length content) →
    Err (causes.Long n) ≡ answer_of limit name told
same_long Untold limit name n tells same over = absurd (tells refl)
same_long Absent limit name n tells same over = absurd over
same_long (Holds content) limit name n tells same over = ap (λ m. Err (causes.Long m)) same ∙ long limit name content over

-- the causes that are free to come, whatever the files hold: memory runs out, or a name was not read that is not absent
pub record IsFree (s : Source) (Free : Cause → Type 0) : Type 0 where
  pub told : (name : List ℕ) → s.content name ≢ Untold
  pub memory : Free causes.Memory
  pub unread : (name : List ℕ) → Rose (s.before name) (s.after name) → (s.content name ≡ Absent) ⊎ Free (causes.Unread name)

same_answer : (s : Source) (Free : Cause → Type 0) (limit : ℕ) (name : List ℕ) (answer : Answer) → IsFree s Free → Agrees s limit name answer → Same Free answer (answer_of limit name (s.content name))
same_answer s Free limit name (Ok bytes) free agrees = inr (same_bytes (s.content name) limit name bytes (free.told name) agrees.0 agrees.1)
same_answer s Free limit name (Err (causes.Unread n)) free agrees =
    ⊎_elim (λ absent. inr (ap (λ m. Err (causes.Unread m)) agrees.0 ∙ ap (answer_of limit name) (sym absent)))
    (λ fault. inl (causes.Unread n, refl, subst (λ m. Free (causes.Unread m)) (sym agrees.0) fault))
    (free.unread name agrees.1)
same_answer s Free limit name (Err (causes.Long n)) free agrees = inr (same_long (s.content name) limit name n (free.told name) agrees.0 agrees.1)
same_answer s Free limit name (Err causes.Memory) free agrees = inl (causes.Memory, refl, free.memory)
same_answer s Free limit name (Err causes.Done) free agrees = absurd agrees
same_answer s Free limit name (Err causes.GuestEnded) free agrees = absurd agrees
same_answer s Free limit name (Err causes.Words) free agrees = absurd agrees
same_answer s Free limit name (Err (causes.Manifest e)) free agrees = absurd agrees
same_answer s Free limit name (Err (causes.Elf n e)) free agrees = absurd agrees
same_answer s Free limit name (Err (causes.Slots n)) free agrees = absurd agrees
same_answer s Free limit name (Err (causes.Shelf n)) free agrees = absurd agrees
same_answer s Free limit name (Err causes.Sink) free agrees = absurd agrees

-- ---- the work

same_each : (Free : Cause → Type 0) (a b : ℕ → List ℕ → Answer) (names : List (List ℕ)) → ((i : ℕ) (name : List ℕ) → Same Free (a i name) (b i name)) → Same Free (each a names) (each b names)
unfolding each
same_each Free a b [] same = inr refl
same_each Free a b (name ∷ names) same =
    same_steps (a 0 name) (b 0 name) _ _ (same 0 name) (λ bytes.
    same_steps (each (λ i. a (suc i)) names) (each (λ i. b (suc i)) names) _ _ (same_each Free (λ i. a (suc i)) (λ i. b (suc i)) names (λ i. same (suc i))) (λ rest. inr refl))

same_outcome : (Free : Cause → Type 0) (words : List (String Global)) (a b : Answers) → ((place : Place) (name : List ℕ) → Same Free (a place name) (b place name)) → Same Free (outcome words a) (outcome words b)
same_outcome Free words a b same =
    same_steps (ordered (order_of words)) (ordered (order_of words)) _ _ (inr refl) (λ order.
    same_steps (a Manifest order.file) (b Manifest order.file) _ _ (same Manifest order.file) (λ text.
    same_steps (listed (manifest_of text)) (listed (manifest_of text)) _ _ (inr refl) (λ listing.
    same_steps (each (λ i. a (File i)) listing.files) (each (λ i. b (File i)) listing.files) _ _ (same_each Free _ _ listing.files (λ i. same (File i))) (λ files.
    same_steps (each (λ i. a (Input i)) (input_names listing.guests)) (each (λ i. b (Input i)) (input_names listing.guests)) _ _ (same_each Free _ _ (input_names listing.guests) (λ i. same (Input i))) (λ inputs.
    inr refl)))))

-- what the work comes to, where the files tell all, unless it fails by such a cause
pub same_told : (words : List (String Global)) (s : Source) (Free : Cause → Type 0) (answers : Answers) → IsFree s Free → AllAgree s answers → Same Free (outcome words answers) (outcome words (answers_of s.content))
same_told words s Free answers free agree =
    same_outcome Free words answers (answers_of s.content) (λ place name. same_answer s Free (limit_of place) name (answers place name) free (agree place name))

-- ---- causes

-- What is true of each cause that comes behind the words.
pub record Closed (P : Cause → Type 0) : Type 0 where
  pub manifest : (e : ManifestErr) → P (causes.Manifest e)
  pub unread : (name : List ℕ) → P (causes.Unread name)
  pub long : (name : List ℕ) → P (causes.Long name)
  pub elf : (name : List ℕ) (e : ElfErr) → P (causes.Elf name e)
  pub slots : (n : ℕ) → P (causes.Slots n)
  pub memory : P causes.Memory

read_cause : (P : Cause → Type 0) → Closed P → (s : Source) (limit : ℕ) (name : List ℕ) (cause : Cause) → Agrees s limit name (Err cause) → P cause
read_cause P closed s limit name (causes.Unread n) agrees = closed.unread n
read_cause P closed s limit name (causes.Long n) agrees = closed.long n
read_cause P closed s limit name causes.Memory agrees = closed.memory
read_cause P closed s limit name causes.Done agrees = absurd agrees
read_cause P closed s limit name causes.GuestEnded agrees = absurd agrees
read_cause P closed s limit name causes.Words agrees = absurd agrees
read_cause P closed s limit name (causes.Manifest e) agrees = absurd agrees
read_cause P closed s limit name (causes.Elf n e) agrees = absurd agrees
read_cause P closed s limit name (causes.Slots n) agrees = absurd agrees
read_cause P closed s limit name (causes.Shelf n) agrees = absurd agrees
read_cause P closed s limit name causes.Sink agrees = absurd agrees

each_cause : (P : Cause → Type 0) → Closed P → (s : Source) (limit : ℕ) (answers : ℕ → List ℕ → Answer) → ((i : ℕ) (name : List ℕ) → Agrees s limit name (answers i name)) →
    (names : List (List ℕ)) (cause : Cause) → each answers names ≡ Err cause → P cause
unfolding each
each_cause P closed s limit answers agree [] cause is = cc
each_cause P closed s limit answers agree (name ∷ names) cause is =
    ⊎_elim (λ first. read_cause P closed s limit name cause (subst (Agrees s limit name) first (agree 0 name)))
    (λ more. ⊎_elim (each_cause P closed s limit (λ i. answers (suc i)) (λ i. agree (suc i)) names cause) (λ last. let h : Ok (more.0 ∷ last.0) ≡ Err cause = last.1 in cc)
    (fails_in (each (λ i. answers (suc i)) names) _ cause more.1))
    (fails_in (answers 0 name) _ cause is)

pub err_cause : {A : Type 0} (a b : Cause) → the_err A a ≡ Err b → a ≡ b
err_cause a b is = ap (cause_in a) is

no_plan : {A C : Type 0} (x : A) (cause : Cause) → the_ok A x ≡ Err cause → C
no_plan x cause is = cc

listed_cause : (P : Cause → Type 0) → Closed P → (r : Result Listing ManifestErr) (cause : Cause) → listed r ≡ Err cause → P cause
listed_cause P closed (Ok listing) cause is = cc
listed_cause P closed (Err e) cause is = subst P (err_cause (causes.Manifest e) cause is) (closed.manifest e)

limited_cause : (P : Cause → Type 0) → Closed P → (slots : List Slot) (cause : Cause) → limited slots ≡ Err cause → P cause
limited_cause P closed slots cause is =
    ⊎_elim (λ few. no_plan slots cause (sym (ap (λ b. if b then Ok slots else Err (causes.Slots (length slots))) few) ∙ is))
    (λ many. subst P (err_cause (causes.Slots (length slots)) cause (sym (ap (λ b. if b then Ok slots else Err (causes.Slots (length slots))) many) ∙ is)) (closed.slots (length slots)))
    (cases_Bool (nat_le (length slots) 64))

taken_cause : (P : Cause → Type 0) → Closed P → (name : List ℕ) (r : Result Program ElfErr) (cause : Cause) → taken name r ≡ Err cause → P cause
taken_cause P closed name (Ok program) cause is = cc
taken_cause P closed name (Err e) cause is = subst P (err_cause (causes.Elf name e) cause is) (closed.elf name e)

programs_cause : (P : Cause → Type 0) → Closed P → (names files : List (List ℕ)) (cause : Cause) → programs_of names files ≡ Err cause → P cause
unfolding programs_of
programs_cause P closed [] files cause is = cc
programs_cause P closed (name ∷ names) [] cause is = cc
programs_cause P closed (name ∷ names) (bytes ∷ files) cause is =
    ⊎_elim (taken_cause P closed name (elf_of bytes) cause)
    (λ more. ⊎_elim (programs_cause P closed names files cause) (λ last. let h : Ok (more.0 ∷ last.0) ≡ Err cause = last.1 in cc)
    (fails_in (programs_of names files) _ cause more.1))
    (fails_in (taken name (elf_of bytes)) _ cause is)

ordered_cause : (o : Option Order) (cause : Cause) → ordered o ≡ Err cause → (o ≡ None) × (cause ≡ causes.Words)
ordered_cause None cause is = (refl, sym (err_cause causes.Words cause is))
ordered_cause (Some order) cause is = cc

-- the words name no file, or the cause is one of those that come behind them
pub outcome_cause : (P : Cause → Type 0) → Closed P → (words : List (String Global)) (s : Source) (answers : Answers) → AllAgree s answers → (cause : Cause) →
    outcome words answers ≡ Err cause → ((order_of words ≡ None) × (cause ≡ causes.Words)) ⊎ P cause
outcome_cause P closed words s answers agree cause is =
    ⊎_elim (λ none. inl (ordered_cause (order_of words) cause none))
    (λ a. inr (⊎_elim (λ text. read_cause P closed s 1048576 a.0.file cause (subst (Agrees s 1048576 a.0.file) text (agree Manifest a.0.file)))
    (λ b. ⊎_elim (listed_cause P closed (manifest_of b.0) cause)
    (λ c. ⊎_elim (each_cause P closed s 4194304 _ (λ i. agree (File i)) c.0.files cause)
    (λ d. ⊎_elim (each_cause P closed s 1048576 _ (λ i. agree (Input i)) (input_names c.0.guests) cause)
    (λ e. ⊎_elim (programs_cause P closed c.0.files d.0 cause)
    (λ f. ⊎_elim (limited_cause P closed (slots_of c.0.modules c.0.guests f.0) cause)
    (λ g. no_plan _ cause g.1)
    (fails_in (limited (slots_of c.0.modules c.0.guests f.0)) _ cause f.1))
    (fails_in (programs_of c.0.files d.0) _ cause e.1))
    (fails_in (each (λ i. answers (Input i)) (input_names c.0.guests)) _ cause d.1))
    (fails_in (each (λ i. answers (File i)) c.0.files) _ cause c.1))
    (fails_in (listed (manifest_of b.0)) _ cause b.1))
    (fails_in (answers Manifest a.0.file) _ cause a.1)))
    (fails_in (ordered (order_of words)) _ cause is)

abbrev not_words : Cause → Type 0
not_words cause = cause ≢ causes.Words

-- just words that name no file are refused as words
pub just_words : (words : List (String Global)) (s : Source) (answers : Answers) → AllAgree s answers → outcome words answers ≡ Err causes.Words → order_of words ≡ None
just_words words s answers agree is =
    let closed : Closed not_words = record {
      manifest = λ e is. cc;
      unread = λ n is. cc;
      long = λ n is. cc;
      elf = λ n e is. cc;
      slots = λ n is. cc;
      memory = λ is. cc;
    } in
    ⊎_elim (λ none. none.0) (λ other. absurd (other refl)) (outcome_cause not_words closed words s answers agree causes.Words is)

-- the causes for which nothing is run
abbrev pub IsRefusal : Cause → Type 0
IsRefusal causes.Done = ⊥
IsRefusal causes.GuestEnded = ⊥
IsRefusal causes.Sink = ⊥
IsRefusal causes.Words = Unit {0}
IsRefusal (causes.Manifest e) = Unit {0}
IsRefusal (causes.Slots n) = Unit {0}
IsRefusal (causes.Shelf n) = ⊥
IsRefusal (causes.Unread name) = Unit {0}
IsRefusal (causes.Long name) = Unit {0}
IsRefusal (causes.Elf name e) = Unit {0}
IsRefusal causes.Memory = Unit {0}

pub just_refusals : (words : List (String Global)) (s : Source) (answers : Answers) → AllAgree s answers → (cause : Cause) → outcome words answers ≡ Err cause → IsRefusal cause
just_refusals words s answers agree cause is =
    let closed : Closed IsRefusal = record { manifest = λ e. tt; unread = λ n. tt; long = λ n. tt; elf = λ n e. tt; slots = λ n. tt; memory = tt } in
    ⊎_elim (λ none. subst IsRefusal (sym none.1) tt) (λ other. other) (outcome_cause IsRefusal closed words s answers agree cause is)
