-- What the answers of the top call say.
use Rattle.std.proofs.Common.{◌≡◌, ◌≢◌, ℕ, Bool, true, false, if◌then◌else◌, List, [], take, Option, Some, None, Ok, Err, Result, OnOk, OnErr, IsErr, refl, sym, ◌∙◌, ap, subst, ⊎_elim, ◌⊎◌, inl, inr}
use Rattle.std.specs.Prelude.{String}
use Rattle.std.specs.declared.alloc.Global.{Global}
use Rattle.std.proofs.Math.Seq.{take-nil}
use Rattle.std.proofs.lemmas.Bool.{cases_Bool}
use Rattle.fault_counts.specs.Counts.{Rose}
use Rattle.outside.specs.Told.{Told, Untold, Absent, Holds}
use Rattle.outside.specs.Sink.{with_bytes}
use Rattle.journal_text.specs.Shut.{first_fault, shelf_failed}
use Rattle.unit_set.specs.Slot.{slot_text}
use Rattle.publisher.specs.Loads.{name_at}
use Rattle.whole_run.specs.Job.{slots_in_job}
use Rattle.host_text.specs.Refusals.{refusal_text, status_of}
use Rattle.host_text.specs.declared.cause.Cause.{Cause}
use Rattle.host_text.specs.declared.cause.Cause.TheVariants as causes
use Rattle.host_text.proofs.Written.{nothing_more}
use Rattle.host.specs.Words.{order_of}
use Rattle.host.specs.Outcome.{Plan, Source, outcome, answers_of, IsSteady}
use Rattle.host.specs.Answer.{Seen, Lists, no_lists, job_in, all_exit, cause_by, cause_of, Runs, Refuses, Prints, TellsLine, TellsRefusal, Tells, is_of_run, is_refusal, Decides, IsFair, RanOrMemory}
use Rattle.host.proofs.Faulty.{first_failed}
use Rattle.host.proofs.Told.{same_told, err_cause, just_words, just_refusals, IsFree, IsRefusal}

-- ---- what was written

prints : (words : List (String Global)) (seen : Seen) (lists : Lists) (cause : Cause) (text : List ℕ) → Runs words seen.source seen.shelf lists text →
    cause_of lists ≡ cause → seen.written_after ≡ with_bytes seen.written_before text → Prints words seen cause lists
prints words seen lists cause text runs how whole = record { text = text; runs = runs; how = how; whole = whole }

by_parts : (words : List (String Global)) (seen : Seen) (lists : Lists) (fault : Option ℕ) (exits : Bool) → Prints words seen (cause_by fault exits) lists → Tells words seen (cause_by fault exits) lists
by_parts words seen lists (Some slot) exits all = all
by_parts words seen lists None exits all =
    ⊎_elim (λ yes. let e : cause_by None exits ≡ causes.Done = ap (λ b. if b then causes.Done else causes.GuestEnded) yes in
    subst (λ x. Tells words seen x lists) (sym e) (subst (λ x. Prints words seen x lists) e all))
    (λ no. let e : cause_by None exits ≡ causes.GuestEnded = ap (λ b. if b then causes.Done else causes.GuestEnded) no in
    subst (λ x. Tells words seen x lists) (sym e) (subst (λ x. Prints words seen x lists) e all))
    (cases_Bool exits)

-- the text was written whole
pub tells_run : (words : List (String Global)) (seen : Seen) (lists : Lists) (cause : Cause) (text : List ℕ) → cause ≡ cause_of lists →
    Runs words seen.source seen.shelf lists text → seen.written_after ≡ with_bytes seen.written_before text → Tells words seen cause lists
tells_run words seen lists cause text is runs whole =
    subst (λ x. Tells words seen x lists) (sym is)
    (by_parts words seen lists (first_fault lists.loads lists.served) (all_exit lists.guests) (prints words seen lists (cause_of lists) text runs refl whole))

-- a front of it was written
pub tells_front : (words : List (String Global)) (seen : Seen) (lists : Lists) (cause : Cause) (text : List ℕ) → cause ≡ causes.Sink →
    Runs words seen.source seen.shelf lists text →
    (n : ℕ) × (seen.written_after ≡ with_bytes seen.written_before (take n text)) → Rose seen.sink_before seen.sink_after → Tells words seen cause lists
tells_front words seen lists cause text is runs front failed =
    subst (λ x. Tells words seen x lists) (sym is)
    (record { text = text; runs = runs; count = front.0; front = front.1; failed = failed })

-- What comes of writing a line: all of it, or a front where the sink failed.
pub line_told : {A E : Type 0} (before after : Option (List ℕ)) (low high : ℕ) (line : List ℕ) (r : Result A E) → OnOk r (after ≡ with_bytes before line) →
    OnErr r ((n : ℕ) × (after ≡ with_bytes before (take n line))) → (IsErr r → Rose low high) →
    (after ≡ with_bytes before line) ⊎ (Rose low high × ((n : ℕ) × (after ≡ with_bytes before (take n line))))
line_told before after low high line (Ok x) whole front failed = inl whole
line_told before after low high line (Err e) whole front failed = inr (failed refl, front)

-- no line leaves what was there
no_line : (before after : Option (List ℕ)) (low high : ℕ) → (after ≡ with_bytes before []) ⊎ (Rose low high × ((n : ℕ) × (after ≡ with_bytes before (take n [])))) → after ≡ before
no_line before after low high (inl whole) = whole ∙ sym (nothing_more before)
no_line before after low high (inr (rose, (n, front))) = front ∙ ap (λ t. with_bytes before t) (take-nil n) ∙ sym (nothing_more before)

-- ---- refusals

memory_or_not : (cause : Cause) → (cause ≡ causes.Memory) ⊎ (cause ≢ causes.Memory)
memory_or_not causes.Memory = inl refl
memory_or_not causes.Done = inr (λ is. cc)
memory_or_not causes.GuestEnded = inr (λ is. cc)
memory_or_not causes.Words = inr (λ is. cc)
memory_or_not (causes.Manifest e) = inr (λ is. cc)
memory_or_not (causes.Unread name) = inr (λ is. cc)
memory_or_not (causes.Long name) = inr (λ is. cc)
memory_or_not (causes.Elf name e) = inr (λ is. cc)
memory_or_not (causes.Slots n) = inr (λ is. cc)
memory_or_not causes.Sink = inr (λ is. cc)
memory_or_not (causes.Shelf n) = inr (λ is. cc)

not_run : (words : List (String Global)) (s : Source) (cause : Cause) → Refuses words s cause → IsRefusal cause
not_run words s cause r = just_refusals words s r.answers r.agree cause r.comes

-- nothing was run, and these are the reasons unless memory ran out
pub record IsRefused (words : List (String Global)) (seen : Seen) (cause : Cause) (lists : Lists) : Type 0 where
  pub why : cause ≢ causes.Memory → Refuses words seen.source cause
  pub none : lists ≡ no_lists
  pub line : TellsLine seen (refusal_text cause)

refusal : (words : List (String Global)) (seen : Seen) (cause : Cause) (lists : Lists) → cause ≢ causes.Memory → IsRefused words seen cause lists → TellsRefusal words seen cause lists
refusal words seen cause lists other r = record { why = r.why other; none = r.none; line = r.line }

pub tells_refusal : (words : List (String Global)) (seen : Seen) (cause : Cause) (lists : Lists) → IsRefused words seen cause lists → Tells words seen cause lists
tells_refusal words seen causes.Memory lists r = (no_line _ _ _ _ r.line, r.none)
tells_refusal words seen causes.Done lists r = absurd (not_run words seen.source causes.Done (r.why (λ is. cc)))
tells_refusal words seen causes.GuestEnded lists r = absurd (not_run words seen.source causes.GuestEnded (r.why (λ is. cc)))
tells_refusal words seen causes.Sink lists r = absurd (not_run words seen.source causes.Sink (r.why (λ is. cc)))
tells_refusal words seen (causes.Shelf n) lists r = absurd (not_run words seen.source (causes.Shelf n) (r.why (λ is. cc)))
tells_refusal words seen causes.Words lists r = refusal words seen causes.Words lists (λ is. cc) r
tells_refusal words seen (causes.Manifest e) lists r = refusal words seen (causes.Manifest e) lists (λ is. cc) r
tells_refusal words seen (causes.Unread name) lists r = refusal words seen (causes.Unread name) lists (λ is. cc) r
tells_refusal words seen (causes.Long name) lists r = refusal words seen (causes.Long name) lists (λ is. cc) r
tells_refusal words seen (causes.Elf name e) lists r = refusal words seen (causes.Elf name e) lists (λ is. cc) r
tells_refusal words seen (causes.Slots n) lists r = refusal words seen (causes.Slots n) lists (λ is. cc) r

-- ---- what is decided

decides_memory : (r : Result Plan Cause) (cause : Cause) → cause ≡ causes.Memory → Decides r cause
decides_memory (Ok plan) cause is = inl is
decides_memory (Err why) cause is = inl is

decides_cause : (r : Result Plan Cause) (cause : Cause) → Err cause ≡ r → Decides r cause
decides_cause r cause is = subst (λ q. Decides q cause) is (inr refl)

decides_run : (r : Result Plan Cause) (plan : Plan) (cause : Cause) → Ok plan ≡ r → is_of_run cause ≡ true → Decides r cause
decides_run r plan cause is run = subst (λ q. Decides q cause) is (inr run)

-- memory ran out, or a name was not read that is not absent
abbrev IsFault : (List ℕ → Told) → Cause → Type 0
IsFault content cause = (cause ≡ causes.Memory) ⊎ ((name : List ℕ) × (cause ≡ causes.Unread name) × (content name ≢ Absent))

absent_or_not : (t : Told) → (t ≡ Absent) ⊎ (t ≢ Absent)
absent_or_not Absent = inl refl
absent_or_not Untold = inr (λ is. cc)
absent_or_not (Holds bytes) = inr (λ is. cc)

faults_free : (s : Source) → ((name : List ℕ) → s.content name ≢ Untold) → IsFree s (IsFault s.content)
faults_free s told = record {
  told = told;
  memory = inl refl;
  unread = λ name rose. ⊎_elim (λ absent. inl absent) (λ not. inr (inr (name, refl, not))) (absent_or_not (s.content name));
}

-- a call that is steady met no such fault
no_fault : (s : Source) (cause : Cause) → cause ≢ causes.Memory → IsSteady s.content cause → IsFault s.content cause → ⊥
no_fault s cause other steady (inl memory) = other memory
no_fault s cause other steady (inr (name, unread, present)) = present (steady.absent name unread)

pub decided_refusal : (words : List (String Global)) (s : Source) (cause : Cause) → (cause ≢ causes.Memory → Refuses words s cause) → IsSteady s.content cause →
    Decides (outcome words (answers_of s.content)) cause
decided_refusal words s cause why steady =
    ⊎_elim (decides_memory (outcome words (answers_of s.content)) cause)
    (λ other. let r = why other in
    ⊎_elim (λ free. absurd (no_fault s cause other steady (subst (IsFault s.content) (err_cause free.0 cause (sym free.1 ∙ r.comes)) free.2)))
    (λ same. decides_cause (outcome words (answers_of s.content)) cause (sym r.comes ∙ same))
    (same_told words s (IsFault s.content) r.answers (faults_free s steady.told) r.agree))
    (memory_or_not cause)

no_failure : (plan : Plan) (cause : Cause) (a : Result Plan Cause) → a ≡ Ok plan → a ≡ Err cause → ⊥
no_failure plan cause a is fails = let same : Ok plan ≡ Err cause = sym is ∙ fails in cc

pub decided_run : (words : List (String Global)) (seen : Seen) (lists : Lists) (text : List ℕ) (cause : Cause) → Runs words seen.source seen.shelf lists text → is_of_run cause ≡ true → IsSteady seen.source.content cause →
    Decides (outcome words (answers_of seen.source.content)) cause
decided_run words seen lists text cause r run steady =
    ⊎_elim (λ free. absurd (no_failure r.plan free.0 (outcome words r.comes.answers) r.comes.comes free.1))
    (λ same. decides_run (outcome words (answers_of seen.source.content)) r.plan cause (sym r.comes.comes ∙ same) run)
    (same_told words seen.source (IsFault seen.source.content) r.comes.answers (faults_free seen.source steady.told) r.comes.agree)

run_by_parts : (fault : Option ℕ) (exits : Bool) → is_of_run (cause_by fault exits) ≡ true
run_by_parts (Some slot) exits = refl
run_by_parts None exits =
    ⊎_elim (λ yes. ap (λ b. is_of_run (if b then causes.Done else causes.GuestEnded)) yes) (λ no. ap (λ b. is_of_run (if b then causes.Done else causes.GuestEnded)) no) (cases_Bool exits)

pub of_run : (lists : Lists) (cause : Cause) → cause ≡ cause_of lists → is_of_run cause ≡ true
of_run lists cause is = ap is_of_run is ∙ run_by_parts (first_fault lists.loads lists.served) (all_exit lists.guests)

-- no cause of a run is one of words
pub run_words : (cause : Cause) → is_of_run cause ≡ true → cause ≡ causes.Words → ⊥
run_words cause run is = let h : is_of_run causes.Words ≡ true = sym (ap is_of_run is) ∙ run in cc

pub words_only : (words : List (String Global)) (s : Source) (cause : Cause) → (cause ≢ causes.Memory → Refuses words s cause) → cause ≡ causes.Words → order_of words ≡ None
words_only words s cause why is =
    let other : cause ≢ causes.Memory = λ memory. let h : causes.Words ≡ causes.Memory = sym is ∙ memory in cc in
    let r = why other in
    just_words words s r.answers r.agree (r.comes ∙ ap (λ c. Err c) is)

-- ---- fair calls

fault_of : (fault : Option ℕ) (exits : Bool) (slot : ℕ) → cause_by fault exits ≡ causes.Shelf slot → fault ≡ Some slot
fault_of (Some k) exits slot is = cc
fault_of None true slot is = cc
fault_of None false slot is = cc

-- with the shelf's fault its count rose
failed_rose : (words : List (String Global)) (seen : Seen) (slot : ℕ) (lists : Lists) → Prints words seen (causes.Shelf slot) lists →
    (name : List ℕ) × Rose (seen.shelf.faults_before name) (seen.shelf.faults_after name)
failed_rose words seen slot lists p =
    (slot_text (name_at (slots_in_job (job_in p.runs.plan)) slot), p.runs.caused slot (first_failed lists.loads lists.served slot (fault_of (first_fault lists.loads lists.served) (all_exit lists.guests) slot p.how)))

-- where no count rose but those of absent names, memory alone is free to come
fair_free : (words : List (String Global)) (seen : Seen) → IsFair words seen → IsFree seen.source (λ cause. cause ≡ causes.Memory)
fair_free words seen fair = record { told = fair.told; memory = refl; unread = λ name rose. inl (fair.read name rose) }

-- so nothing is refused
never_refused : (words : List (String Global)) (seen : Seen) (cause : Cause) → Refuses words seen.source cause → IsFair words seen → cause ≡ causes.Memory
never_refused words seen cause r fair =
    ⊎_elim (λ free. err_cause cause free.0 (sym r.comes ∙ free.1) ∙ free.2)
    (λ same. absurd (no_failure fair.plan cause (outcome words (answers_of seen.source.content)) fair.taken (sym same ∙ r.comes)))
    (same_told words seen.source (λ c. c ≡ causes.Memory) r.answers (fair_free words seen fair) r.agree)

refused_is_memory : (words : List (String Global)) (seen : Seen) (cause : Cause) (lists : Lists) (status : ℕ) → status ≡ status_of cause → IsFair words seen → TellsRefusal words seen cause lists → RanOrMemory status
refused_is_memory words seen cause lists status is fair tells = inr (inr (is ∙ ap status_of (never_refused words seen cause tells.why fair)))

pub fair_ran : (words : List (String Global)) (seen : Seen) (lists : Lists) (cause : Cause) (status : ℕ) → status ≡ status_of cause → Tells words seen cause lists → IsFair words seen → RanOrMemory status
fair_ran words seen lists causes.Done status is tells fair = inl is
fair_ran words seen lists causes.GuestEnded status is tells fair = inr (inl is)
fair_ran words seen lists causes.Sink status is tells fair = absurd (fair.written tells.failed)
fair_ran words seen lists (causes.Shelf slot) status is tells fair = let f = failed_rose words seen slot lists tells in absurd (fair.kept f.0 f.1)
fair_ran words seen lists causes.Memory status is tells fair = inr (inr is)
fair_ran words seen lists causes.Words status is tells fair = refused_is_memory words seen causes.Words lists status is fair tells
fair_ran words seen lists (causes.Manifest e) status is tells fair = refused_is_memory words seen (causes.Manifest e) lists status is fair tells
fair_ran words seen lists (causes.Unread name) status is tells fair = refused_is_memory words seen (causes.Unread name) lists status is fair tells
fair_ran words seen lists (causes.Long name) status is tells fair = refused_is_memory words seen (causes.Long name) lists status is fair tells
fair_ran words seen lists (causes.Elf name e) status is tells fair = refused_is_memory words seen (causes.Elf name e) lists status is fair tells
fair_ran words seen lists (causes.Slots n) status is tells fair = refused_is_memory words seen (causes.Slots n) lists status is fair tells

-- ---- refusals call no shelf

pub runs_refuse_none : (cause : Cause) → is_of_run cause ≡ true → is_refusal cause ≡ true → ⊥
runs_refuse_none causes.Done run refusal = cc
runs_refuse_none causes.GuestEnded run refusal = cc
runs_refuse_none causes.Sink run refusal = cc
runs_refuse_none (causes.Shelf slot) run refusal = cc
runs_refuse_none causes.Memory run refusal = cc
runs_refuse_none causes.Words run refusal = cc
runs_refuse_none (causes.Manifest e) run refusal = cc
runs_refuse_none (causes.Unread name) run refusal = cc
runs_refuse_none (causes.Long name) run refusal = cc
runs_refuse_none (causes.Elf name e) run refusal = cc
runs_refuse_none (causes.Slots n) run refusal = cc

pub not_memory : (cause : Cause) → is_refusal cause ≡ true → cause ≢ causes.Memory
not_memory cause refusal is = let h : false ≡ true = sym (ap is_refusal is) ∙ refusal in cc
