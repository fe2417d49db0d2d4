-- A whole run.
use Rattle.std.proofs.Common.{◌≡◌, inl, inr, ⊎_elim, ℕ, ◌<◌, ◌≤◌, true, false, List, [], ◌∷◌, ◌++◌, length, map, sym, ap, ◌∙◌, subst, arith, append_assoc, None}
use Rattle.std.specs.Prelude.{slice_index_or}
use Rattle.std.specs.List.{AllByRecursion}
use Rattle.std.proofs.lemmas.List.{length-map}
use Rattle.std.proofs.lemmas.Bool.{cases_lt}
use Rattle.fault_counts.specs.Counts.{Rose}
use Rattle.shelf_model.specs.Shelf as shelf
use Rattle.shelf_model.specs.Shelf.{Images, TellsSame}
use Rattle.unit_set.specs.Slot.{Slot, slot_text}
use Rattle.publish.specs.declared.area.Standing.{Standing}
use Rattle.publish.specs.declared.outcome.Loaded.{Loaded}
use Rattle.publish.specs.declared.outcome.Pub.{Pub}
use Rattle.publish.specs.Crash.{Fits, ForBoth}
use Rattle.publish.specs.Load.{FindsAll}
use Rattle.publish.specs.Verdict.{held}
use Rattle.registry.specs.declared.entry.Entry.{Entry}
use Rattle.registry.specs.declared.entry.Entry.TheVariants.{Finish}
use Rattle.registry.specs.Opening.{Opening, slot_at}
use Rattle.registry.specs.State.{due_slot}
use Rattle.registry.specs.Registry.{AreReplied, IsReplied, opened, reg, slot_of, told_all}
use Rattle.registry.specs.History.{Adds, History, state_of}
use Rattle.publisher.specs.Loads.{NoneFalls}
use Rattle.publisher.specs.Serving.{AreCaused, AreTheirs, Grew, IsCaused, Publishes, added, seqs_of, standing_at}
use Rattle.publisher.specs.Folder.{HoldsBehind, HoldsNow, IsSound, KeepsOthers}
use Rattle.publisher.proofs.Opens.{were-open}
use Rattle.guest_rounds.specs.Calls.{AreOfGuests}
use Rattle.guest_rounds.specs.Rounds.{AreFree, AreTold}
use Rattle.guest_rounds.proofs.Lists.{all_weak}
use Rattle.guest_rounds.proofs.Orders.{after-append, finished_by, replied-append}
use Rattle.guest_loop.specs.declared.guest.Ran.{Ran}
use Rattle.whole_run.specs.Job.{Job, tells}
use Rattle.whole_run.specs.Shelf.{IsOpened, Opened, Seen}
use Rattle.whole_run.specs.Whole.{IsWhole, Opens, opened_at}
use Rattle.whole_run.specs.Start.{IsStart}
use Rattle.whole_run.specs.Crew.{HaveRun}
use Rattle.whole_run.proofs.Behind.{free_same, told_same}

-- ---- counts of faults

-- a count that rose up to some moment has risen later
rose_later : (a b c : ℕ) → a ≤ b → b ≤ c → Rose a b → Rose a c
rose_later a b c below above (inl less) = inl (omega (arith, less, above))
rose_later a b c below above (inr most) = ⊎_elim (λ (less : b < c). inl (omega (arith, less, below))) (λ (ends : c ≤ b). inr (omega (arith, ends, above, most))) (cases_lt b c)

-- so has one that rose from some moment on
rose_before : (a b c : ℕ) → a ≤ b → Rose b c → Rose a c
rose_before a b c below (inl less) = inl (omega (arith, less, below))
rose_before a b c below (inr most) = inr most

opened_later : (s s' : Seen) (slot : Slot) (x : Opened) → s'.told_before ≡ s.told_before → s'.faults_before ≡ s.faults_before → NoneFalls s.faults_before s.faults_after → NoneFalls s.faults_after s'.faults_after
    → IsOpened s slot x → IsOpened s' slot x
opened_later s s' slot x told before up later (inl r) = inl (record { answer = r.answer; finds = subst (λ t. FindsAll t slot r.answer) (sym told) r.finds; is = r.is })
opened_later s s' slot x told before up later (inr u) =
    let n = slot_text slot in
    inr (record { rose = subst (λ (f : List ℕ → ℕ). Rose (f n) (s'.faults_after n)) (sym before) (rose_later (s.faults_before n) (s.faults_after n) (s'.faults_after n) (up n) (later n) u.rose); is = u.is })

opens_later : (j : Job) (s s' : Seen) (loads : List Loaded) (o : Opening) → s'.told_before ≡ s.told_before → s'.faults_before ≡ s.faults_before → NoneFalls s.faults_before s.faults_after → NoneFalls s.faults_after s'.faults_after
    → Opens j s loads o → Opens j s' loads o
opens_later j s s' loads o told before up later opens = record {
  slots = opens.slots;
  modules = opens.modules;
  codes = opens.codes;
  each = opens.each;
  is = opens.is;
  opened = λ k within. opened_later s s' (slot_at o k) (opened_at o loads k) told before up later (opens.opened k within);
}

-- ---- what was told before is told after the loads

both_before : (told0 told1 : shelf.Told) (slot : Slot) (P : List ℕ → List ℕ → Type 0) → TellsSame told0 told1 → ForBoth told1 slot P → ForBoth told0 slot P
both_before told0 told1 slot P same both a b is_a is_b = both a b (same (slot_text slot) _ ∙ is_a) (same (slot_text slot) _ ∙ is_b)

others_before : (o : Opening) (es : List Entry) (told0 told1 told2 : shelf.Told) → TellsSame told0 told1 → KeepsOthers o es told1 told2 → KeepsOthers o es told0 told2
others_before o es told0 told1 told2 same others name area apart = others name area apart ∙ same name area

caused_before : (o : Opening) (f0 f1 f2 : List ℕ → ℕ) (served : List Pub) → NoneFalls f0 f1 → AreCaused o f1 f2 served → AreCaused o f0 f2 served
caused_before o f0 f1 f2 served up all =
    all_weak (IsCaused o f1 f2) (IsCaused o f0 f2) served (λ p caused fault. let n = slot_text (slot_at o p.slot) in rose_before (f0 n) (f1 n) (f2 n) (up n) (caused fault)) all

-- ---- the registry behind the guests

pub unfinished : (j : Job) (h0 h1 : History) (rans : List Ran) → HaveRun j h0 h1 rans → (state_of h1).finished ≡ false
unfinished j h0 h1 rans ran = finished_by h1.opening (opened h1.opening) (λ g. g < length (map (λ g. g.round) j.listing.guests)) h1.journal ran.calls.of_guests

-- the same opening
pub serves_same : (j : Job) (h0 h1 h2 : History) (rans : List Ran) → HaveRun j h0 h1 rans → Adds h1 Finish h2 → h2 ≡ record { opening = h0.opening; journal = h1.journal ++ Finish ∷ [] }
serves_same j h0 h1 h2 rans ran adds =
    adds.added ∙ ap (λ (o : Opening). let h : History = record { opening = o; journal = h1.journal ++ Finish ∷ [] } in h) ran.calls.same

-- the standings of slots that are open fit
pub serves_fits : (j : Job) (s : Seen) (t : ℕ) (images : Images) (loads : List Loaded) (standings : List Standing) (h0 h2 : History) → IsStart j s t images loads standings h0 → h2.opening ≡ h0.opening
    → (k : ℕ) → k < length h2.opening.slots → (slot_of (state_of h2) k).shut ≡ false → Fits s.told_after images t (slot_at h2.opening k) (standing_at standings k)
serves_fits j s t images loads standings h0 h2 start same k within opened =
    let within_o : k < length h0.opening.slots = subst (λ (o : Opening). k < length o.slots) same within in
    let was : slice_index_or h0.opening.shut k true ≡ false =
    were-open h0.opening h2.journal k start.opens.is within_o (subst (λ (o : Opening). (slot_of (reg o h2.journal) k).shut ≡ false) same opened) in
    subst (λ (o : Opening). Fits s.told_after images t (slot_at o k) (standing_at standings k)) (sym same) (start.fits k within_o was)

-- ---- all of it

module _ (j : Job) (s s' : Seen) (t : ℕ) (images : Images) (loads : List Loaded) (standings : List Standing) (h0 : History) (start : IsStart j s t images loads standings h0)
    (told : s'.told_before ≡ s.told_before) (before : s'.faults_before ≡ s.faults_before) (still : TellsSame s.told_before s.told_after)
    (up : NoneFalls s.faults_before s.faults_after) (later : NoneFalls s.faults_after s'.faults_after) where
  -- over one opening, and the guests' entries and the publisher's
  whole_by : (h1 : History) (es : List Entry) (rans : List Ran) (served : List Pub) → HaveRun j h0 h1 rans → IsReplied h0.opening (reg h0.opening h1.journal) Finish
      → AreReplied h0.opening (reg h0.opening (h1.journal ++ Finish ∷ [])) es → AreTheirs es → Publishes (seqs_of standings) es served → AreCaused h0.opening s.faults_after s'.faults_after served
      → due_slot (reg h0.opening ((h1.journal ++ Finish ∷ []) ++ es)) ≡ None
      → ((k : ℕ) → k < length h0.opening.slots → AllByRecursion (IsSound k) served → ForBoth s.told_after (slot_at h0.opening k) (λ a b. HoldsNow s'.told_after (slot_at h0.opening k)
      (HoldsBehind h0.opening (reg h0.opening (h1.journal ++ Finish ∷ [])) k es (held (slot_at h0.opening k) a b))))
      → KeepsOthers h0.opening es s.told_after s'.told_after
      → IsWhole j s' (record { loads = loads; rans = rans; journal = (h1.journal ++ Finish ∷ []) ++ es; served = served })
  whole_by h1 es rans served ran finishes replied theirs publishes caused none_due holds others =
      let o = h0.opening in
      let guests = h1.journal in
      let split : (guests ++ Finish ∷ []) ++ es ≡ guests ++ Finish ∷ es = append_assoc guests (Finish ∷ []) es in
      record {
        opening = o;
        of_guests = guests;
        of_publisher = es;
        opens = opens_later j s s' loads o told before up later start.opens;
        replays = record {
          replied = replied-append o (opened o) (guests ++ Finish ∷ []) es (replied-append o (opened o) guests (Finish ∷ []) ran.calls.replied (finishes, tt)) replied;
          none_due = none_due;
          free = subst (λ (xs : List Entry). AreFree (reg o xs)) (sym split) (subst AreFree (sym (after-append o (opened o) guests (Finish ∷ es))) (free_same o (reg o guests) es theirs (subst (λ (x : Opening). AreFree (reg x guests)) ran.calls.same ran.free)));
        };
        calls = record {
          split = split;
          theirs = subst (λ n. AreOfGuests n guests) (length-map j.listing.guests (λ g. g.round)) ran.calls.of_guests;
          in_order = ran.calls.in_order;
          one_each = ran.one_each;
          told = subst (λ xs. AreTold (tells j) (told_all o (opened o) xs) rans) (sym split) (told_same (tells j) o (opened o) guests es rans theirs ran.told);
          publishes = subst (λ seqs. Publishes seqs es served) start.seqs publishes;
          caused = subst (λ (f : List ℕ → ℕ). AreCaused o f s'.faults_after served) (sym before) (caused_before o s.faults_before s.faults_after s'.faults_after served up caused);
        };
        folder = record {
          holds = λ k within sound. subst (λ (t : shelf.Told). ForBoth t (slot_at o k) (λ a b. HoldsNow s'.told_after (slot_at o k) (HoldsBehind o (reg o (guests ++ Finish ∷ [])) k es (held (slot_at o k) a b)))) (sym told)
              (both_before s.told_before s.told_after (slot_at o k) (λ a b. HoldsNow s'.told_after (slot_at o k) (HoldsBehind o (reg o (guests ++ Finish ∷ [])) k es (held (slot_at o k) a b))) still (holds k within sound));
          others = subst (λ (t : shelf.Told). KeepsOthers o es t s'.told_after) (sym told) (others_before o es s.told_before s.told_after s'.told_after still others);
        };
      }

  pub whole : (h1 h2 h3 : History) (rans : List Ran) (served : List Pub) → HaveRun j h0 h1 rans → Adds h1 Finish h2 → Grew h2 h3 → Publishes (seqs_of standings) (added h2 h3) served
      → AreCaused h2.opening s.faults_after s'.faults_after served → due_slot (state_of h3) ≡ None
      → ((k : ℕ) → k < length h2.opening.slots → AllByRecursion (IsSound k) served → ForBoth s.told_after (slot_at h2.opening k) (λ a b. HoldsNow s'.told_after (slot_at h2.opening k)
      (HoldsBehind h2.opening (state_of h2) k (added h2 h3) (held (slot_at h2.opening k) a b))))
      → KeepsOthers h2.opening (added h2 h3) s.told_after s'.told_after
      → IsWhole j s' (record { loads = loads; rans = rans; journal = h3.journal; served = served })
  whole h1 h2 h3 rans served ran adds grew publishes caused none_due holds others =
      let o = h0.opening in
      let es = added h2 h3 in
      let is2 = serves_same j h0 h1 h2 rans ran adds in
      let h3_is : h3 ≡ record { opening = o; journal = (h1.journal ++ Finish ∷ []) ++ es } = grew.journal ∙ ap (λ (h : History). record h { journal = h.journal ++ es }) is2 in
      subst (λ (xs : List Entry). IsWhole j s' (record { loads = loads; rans = rans; journal = xs; served = served })) (sym (ap (λ (h : History). h.journal) h3_is))
      (whole_by h1 es rans served ran
      (subst (λ (x : Opening). IsReplied x (reg x h1.journal) Finish) ran.calls.same adds.replied)
      (subst (λ (h : History). AreReplied h.opening (state_of h) es) is2 grew.replied)
      grew.theirs publishes
      (subst (λ (h : History). AreCaused h.opening s.faults_after s'.faults_after served) is2 caused)
      (subst (λ (h : History). due_slot (state_of h) ≡ None) h3_is none_due)
      (subst (λ (h : History). (k : ℕ) → k < length h.opening.slots → AllByRecursion (IsSound k) served → ForBoth s.told_after (slot_at h.opening k) (λ a b. HoldsNow s'.told_after (slot_at h.opening k)
      (HoldsBehind h.opening (state_of h) k es (held (slot_at h.opening k) a b)))) is2 holds)
      (subst (λ (h : History). KeepsOthers h.opening es s.told_after s'.told_after) is2 others))
