-- One publication more, for all slots.
use Rattle.std.proofs.Common.{◌≡◌, ◌≢◌, inl, inr, ⊎_elim, ℕ, suc, ◌+◌, ◌<◌, ◌≤◌, cond, Bool, true, false, List, [], ◌∷◌, ◌++◌, length, set, zero, refl, sym, ap, ◌∙◌, subst, arith, Option, Some, None, Result, Ok, Err, OnOk, OnErr, IfOk, Contains, ne_eqb}
use Rattle.std.specs.List.{AllByRecursion}
use Rattle.std.proofs.lemmas.List.{length-set, set-get_or, get_or-set_other}
use Rattle.std.proofs.lemmas.Bool.{cases_lt}
use mathlib.Core.Logic.{dite}
use native.Mathlib.Decide.{ℕ_discrete}
use Rattle.fault_counts.specs.Counts.{Rose}
use Rattle.shelf_model.specs.declared.shelf.Area.{Area}
use Rattle.shelf_model.specs.declared.shelf.Area.TheVariants.{A, B}
use Rattle.shelf_model.specs.Shelf.{Told, Images, TellsOthers}
use Rattle.unit_set.specs.Slot.{slot_text}
use Rattle.unit_set.specs.Held as units
use Rattle.publish.specs.declared.area.Standing.{Standing}
use Rattle.publish.specs.declared.gates.PubErr.{PubErr}
use Rattle.publish.specs.declared.gates.PubErr.TheVariants.{ShelfFault, WornOut, Memory}
use Rattle.publish.specs.declared.outcome.Pub.{Pub}
use Rattle.publish.specs.declared.outcome.PubFault.{PubFault}
use Rattle.publish.specs.declared.outcome.PubFault.TheVariants as faults
use Rattle.publish.specs.Area.{Edition, free, seq_of}
use Rattle.publish.specs.Verdict.{held}
use Rattle.publish.specs.Crash.{Fits, ForBoth, Publication, as_next}
use Rattle.publish.specs.History.{Follows}
use Rattle.publish.specs.Rewriting.{standing_by}
use Rattle.publish.proofs.Histories.{follows_other, follows_rest, follows_start}
use Rattle.registry.specs.declared.entry.Entry.{Entry}
use Rattle.registry.specs.declared.entry.Entry.TheVariants.{Due, Acked, Failed}
use Rattle.registry.specs.Content.{content_of}
use Rattle.registry.specs.Opening.{Opening, slot_at}
use Rattle.registry.specs.State.{State, SlotState, with_at}
use Rattle.registry.specs.Registry.{after_all, slot_of, unit_for}
use Rattle.registry.specs.History.{History, Adds, state_of}
use Rattle.publisher.specs.Loads.{NoneFalls, blank}
use Rattle.publisher.specs.Serving.{AreDistinct, Answers, IsCaused, dues, last_seq, seq_at, seqs_after, seqs_all, seqs_of, standing_at}
use Rattle.publisher.specs.Folder.{HoldsBehind, IsApart, IsSound, KeepsOthers, Survives, acks}
use Rattle.publisher.specs.Leg.{IsServed, Tells, Wrote, answer_to}
use Rattle.publisher.specs.Areas.{AreHanded, AreRewritten, Attempt, IsHanded, OnlyPublishes, Rewriting, all_entries, all_standings}
use Rattle.publisher.specs.Going.{Ends, Going, Lasts, Slotted}
use Rattle.publisher.proofs.Entries.{Pair, added_is, all-append, all_left, all_right, all_wider, answer_theirs, due_open, grew, journal_both, journal_none, pair_fewer, pair_journal, pair_other, pair_replied, pair_shut, publishes-snoc, replied_both, same_opening, seqs-append, state_more}
use Rattle.publisher.proofs.Rewritings.{answer_is, areas_more, entries-append, handed_more, of_slots, standings-append, strangers_kept, told_more}
use Rattle.publisher.proofs.Slots.{Keeps, Publishing, behind_seq, fit_seq, fits_kept, folder_kept, keeps_other, keeps_still, lasts_acked, lasts_kept, folder_of, publishing, survives_broke, survives_kept}

-- ---- standings

other_standing : (st0 st1 : List Standing) (slot k : ℕ) (s : Standing) → st1 ≡ set st0 slot s → k ≢ slot → standing_at st1 k ≡ standing_at st0 k
other_standing st0 st1 slot k s is other = ap (λ (xs : List Standing). standing_at xs k) is ∙ get_or-set_other st0 slot k s blank other

same_standings : (st0 st1 : List Standing) (slot : ℕ) → st1 ≡ set st0 slot (standing_at st1 slot) → standing_at st1 slot ≡ standing_at st0 slot → st1 ≡ st0
same_standings st0 st1 slot is same = is ∙ (ap (λ (s : Standing). set st0 slot s) same ∙ set-get_or st0 slot blank)

seq_get : (st : List Standing) (k : ℕ) → k < length st → (standing_at st k).seq ≡ seq_at (seqs_of st) k
seq_get [] k within = absurd (omega arith)
seq_get (s ∷ st) zero within = refl
seq_get (s ∷ st) (suc k) within = seq_get st k (omega arith)

more_at : (st : List Standing) (k : ℕ) (s : Standing) → k < length st → s.seq ≡ (standing_at st k).seq + 1 → seqs_of (set st k s) ≡ with_at suc k (seqs_of st)
more_at [] k s within is = absurd (omega arith)
more_at (x ∷ st) zero s within is = ap (λ n. n ∷ seqs_of st) (omega (arith, is))
more_at (x ∷ st) (suc k) s within is = ap (λ ns. x.seq ∷ ns) (more_at st k s (omega arith) is)

-- ---- one publication, in the terms of what it is told as

pub record Step (o : Opening) (now new : History) (told1 told2 : Told) (t1 t2 : ℕ) (i1 i2 : Images) (f1 f2 : List ℕ → ℕ) (st1 st2 : List Standing) (p : Pub) : Type 0 where
  pub pair : Pair now new (Due p.slot p.age p.version) (answer_to p.fault p)
  pub within : p.slot < length o.slots
  pub unit : units.Held
  pub named : unit.slot ≡ slot_at o p.slot
  pub handed : content_of unit ≡ unit_for o (state_of now) (Due p.slot p.age p.version)
  pub seq_fits : (standing_at st1 p.slot).seq ≤ last_seq
  pub outcome : Result ℕ PubErr
  pub wrote : Wrote told1 told2 t1 t2 i1 i2 f1 f2 st1 st2 p.slot unit outcome
  pub tells : Tells (standing_at st1 p.slot).seq outcome p

answers_by : (n : ℕ) (outcome : Result ℕ PubErr) (p : Pub) → Tells n outcome p → IfOk outcome (λ k. k ≡ 3) → ((k : ℕ) → outcome ≡ Err (ShelfFault k) → k ≤ 2) → (outcome ≡ Err WornOut → n ≡ last_seq)
    → (n ≡ last_seq → outcome ≡ Err WornOut) → n ≤ last_seq → Answers n p.fault p (answer_to p.fault p)
answers_by n (Ok stages) p tells three few worn wears within =
    subst (λ f. Answers n f p (answer_to f p)) (sym tells.0) (refl, tells.1 ∙ three, tells.2, less) where
      less : n < last_seq
      less = ⊎_elim (λ (h : n < last_seq). h) (λ (h : last_seq ≤ n). absurd (let e : (let r : Result ℕ PubErr = Ok stages in r) ≡ Err WornOut = wears (omega (arith, within, h)) in cc)) (cases_lt n last_seq)
answers_by n (Err (ShelfFault k)) p tells three few worn wears within =
    subst (λ f. Answers n f p (answer_to f p)) (sym tells.0) (refl, omega (arith, tells.1, few k refl), tells.2, less) where
      less : n < last_seq
      less = ⊎_elim (λ (h : n < last_seq). h) (λ (h : last_seq ≤ n). absurd (let e : (let r : Result ℕ PubErr = Err (ShelfFault k) in r) ≡ Err WornOut = wears (omega (arith, within, h)) in cc)) (cases_lt n last_seq)
answers_by n (Err WornOut) p tells three few worn wears within =
    subst (λ f. Answers n f p (answer_to f p)) (sym tells.0) (refl, tells.1, tells.2, worn refl)
answers_by n (Err Memory) p tells three few worn wears within = absurd tells

seqs_by : (n : ℕ) (outcome : Result ℕ PubErr) (p : Pub) (st1 st2 : List Standing) → Tells n outcome p → p.slot < length st1 → st2 ≡ set st1 p.slot (standing_at st2 p.slot)
    → OnOk outcome ((standing_at st2 p.slot).seq ≡ (standing_at st1 p.slot).seq + 1) → OnErr outcome (standing_at st2 p.slot ≡ standing_at st1 p.slot)
    → seqs_of st2 ≡ seqs_after (answer_to p.fault p) (seqs_of st1)
seqs_by n (Ok stages) p st1 st2 tells within is more kept =
    subst (λ f. seqs_of st2 ≡ seqs_after (answer_to f p) (seqs_of st1)) (sym tells.0) (ap (λ (st : List Standing). seqs_of st) is ∙ more_at st1 p.slot (standing_at st2 p.slot) within more)
seqs_by n (Err (ShelfFault k)) p st1 st2 tells within is more kept =
    subst (λ f. seqs_of st2 ≡ seqs_after (answer_to f p) (seqs_of st1)) (sym tells.0) (ap (λ (st : List Standing). seqs_of st) (same_standings st1 st2 p.slot is kept))
seqs_by n (Err WornOut) p st1 st2 tells within is more kept =
    subst (λ f. seqs_of st2 ≡ seqs_after (answer_to f p) (seqs_of st1)) (sym tells.0) (ap (λ (st : List Standing). seqs_of st) (same_standings st1 st2 p.slot is kept))
seqs_by n (Err Memory) p st1 st2 tells within is more kept = absurd tells

caused_by : (n : ℕ) (outcome : Result ℕ PubErr) (p : Pub) → Tells n outcome p → p.fault ≡ Some faults.Shelf → (k : ℕ) × (outcome ≡ Err (ShelfFault k))
caused_by n (Ok stages) p tells is = let e : None ≡ Some faults.Shelf = sym tells.0 ∙ is in absurd (cc)
caused_by n (Err (ShelfFault k)) p tells is = (k, refl)
caused_by n (Err WornOut) p tells is = let e : Some faults.WornOut ≡ Some faults.Shelf = sym tells.0 ∙ is in absurd (cc)
caused_by n (Err Memory) p tells is = absurd tells

-- a count that rose in a part of a call rose in it
pub rose_wider : (a b c d : ℕ) → a ≤ b → b ≤ c → c ≤ d → Rose b c → Rose a d
rose_wider a b c d one two three (inl rose) = inl (omega (arith, one, rose, three))
rose_wider a b c d one two three (inr most) = ⊎_elim (λ (h : a < d). inl h) (λ (h : d ≤ a). inr (omega (arith, one, two, three, h, most))) (cases_lt a d)

acked_is : (p : Pub) (k age version : ℕ) → p.slot ≡ k → p.age ≡ age → p.version ≡ version → answer_to None p ≡ Acked k age version
acked_is p k age version s a v = ap (λ n. Acked n p.age p.version) s ∙ (ap (λ n. Acked k n p.version) a ∙ ap (λ n. Acked k age n) v)

-- ---- one slot

-- its answer acknowledges nothing of another slot
none_acked : (k : ℕ) (fault : Option PubFault) (p : Pub) → k ≢ p.slot → acks k (Due p.slot p.age p.version ∷ answer_to fault p ∷ []) ≡ 0
none_acked k None p other = ap (λ (b : Bool). 0 + 0 + cond b 1 0) (ne_eqb p.slot k (λ e. other (sym e)))
none_acked k (Some fault) p other = refl

module _ (o : Opening) (s : State) (es : List Entry) (served : List Pub) (st1 st2 : List Standing) (told0 told1 told2 : Told) (t0 t1 t2 : ℕ) (i1 i2 : Images) (shut0 shut1 shut2 : Bool) (k : ℕ) (p : Pub) where
  -- a publication that does nothing to it
  slot_kept : (fs : List Entry) → acks k fs ≡ 0 → standing_at st2 k ≡ standing_at st1 k → (shut2 ≡ false → shut1 ≡ false) → Keeps told1 told2 t1 t2 i1 i2 (slot_text (slot_at o k))
      → ((all : List (Option Edition)) → Follows i1 t0 t1 (slot_at o k) all → Follows i2 t0 t2 (slot_at o k) all)
      → Slotted o s es served st1 told0 told1 t0 t1 i1 shut0 shut1 k → Slotted o s (es ++ fs) (served ++ p ∷ []) st2 told0 told2 t0 t2 i2 shut0 shut2 k
  slot_kept fs none same opens keeps follows h = record {
    fits = λ is. subst (λ x. Fits told2 i2 t2 (slot_at o k) x) (sym same) (fits_kept told1 told2 t1 t2 i1 i2 (slot_at o k) (standing_at st1 k) keeps (h.fits (opens is)));
    was_open = λ is. h.was_open (opens is);
    folder = λ sound a b ta tb la lb. folder_kept o s k es fs told1 told2 t1 t2 i1 i2 (held (slot_at o k) a b) none keeps (h.folder (all_left (IsSound k) served (p ∷ []) sound) a b ta tb la lb);
    lasts = λ is a b ta tb la lb. lasts_kept o s k es fs told1 told2 t0 t1 t2 i1 i2 shut1 shut2 (held (slot_at o k) a b) none keeps follows opens (h.lasts is a b ta tb la lb);
  }

  -- what is known of the slot that is published
  record Here (a b : List ℕ) (u : units.Held) (outcome : Result ℕ PubErr) : Type 0 where
    q : Option Edition
    last : Lasts o s k es told1 t0 t1 i1 shut1 (held (slot_at o k) a b)
    has : Contains (held (slot_at o k) a b ∷ last.survives.all) q
    behind : HoldsBehind o s k es (held (slot_at o k) a b) q
    seq : (standing_at st1 k).seq ≡ seq_of q
    publishing : Publishing told1 told2 t1 t2 i1 i2 (standing_at st1 k) (slot_at o k) q (as_next ((standing_at st1 k).seq + 1) u) outcome

  here : (u : units.Held) (outcome : Result ℕ PubErr) → shut1 ≡ false → u.slot ≡ slot_at o k → Publication told1 told2 t1 t2 i1 i2 (standing_at st1 k) (standing_at st2 k) u outcome
      → Slotted o s es served st1 told0 told1 t0 t1 i1 shut0 shut1 k → ForBoth told0 (slot_at o k) (λ a b. Here a b u outcome)
  here u outcome opened named publication h a b ta tb la lb =
      let last = h.lasts (h.was_open opened) a b ta tb la lb in
      let n = last.holds opened in
      record {
        q = n.now;
        last = last;
        has = n.is.0;
        behind = n.is.1;
        seq = fit_seq told1 t1 i1 (slot_at o k) n.now (standing_at st1 k) (h.fits opened) n.holds;
        publishing = publishing told1 told2 t1 t2 i1 i2 (standing_at st1 k) (standing_at st2 k) (slot_at o k) n.now u outcome named n.holds publication;
      }

  slot_acked : (u : units.Held) (stages age version : ℕ) → t0 ≤ t1 → shut1 ≡ false → u.slot ≡ slot_at o k → content_of u ≡ unit_for o (after_all o s es) (Due k age version)
      → Publication told1 told2 t1 t2 i1 i2 (standing_at st1 k) (standing_at st2 k) u (Ok stages) → Slotted o s es served st1 told0 told1 t0 t1 i1 shut0 shut1 k
      → Slotted o s (es ++ Due k age version ∷ Acked k age version ∷ []) (served ++ p ∷ []) st2 told0 told2 t0 t2 i2 shut0 shut2 k
  slot_acked u stages age version began opened named handed publication h =
      let at = here u (Ok stages) opened named publication h in
      let lasts : (shut : Bool) → ForBoth told0 (slot_at o k) (λ a b. Lasts o s k (es ++ Due k age version ∷ Acked k age version ∷ []) told2 t0 t2 i2 shut (held (slot_at o k) a b)) =
      λ shut a b ta tb la lb.
      let x = at a b ta tb la lb in
      lasts_acked o s k es age version told1 told2 t0 t1 t2 i1 i2 (standing_at st1 k) (held (slot_at o k) a b) x.q u stages shut began handed x.seq
      (behind_seq o s k es (held (slot_at o k) a b) x.q x.behind) x.publishing x.last.survives x.has in
      record {
        fits = λ is. subst (λ n. Fits told2 i2 t2 n (standing_at st2 k)) named publication.fits;
        was_open = λ is. h.was_open opened;
        folder = λ sound a b ta tb la lb. folder_of o s k (es ++ Due k age version ∷ Acked k age version ∷ []) told2 t0 t2 i2 (held (slot_at o k) a b) (lasts false a b ta tb la lb);
        lasts = λ is a b ta tb la lb. lasts shut2 a b ta tb la lb;
      }

  -- it met a fault of the shelf, and is shut
  slot_broke : (u : units.Held) (stages age version : ℕ) → t0 ≤ t1 → shut1 ≡ false → shut2 ≡ true → u.slot ≡ slot_at o k → p.slot ≡ k → p.fault ≡ Some faults.Shelf
      → content_of u ≡ unit_for o (after_all o s es) (Due k age version)
      → Publication {T = ℕ} told1 told2 t1 t2 i1 i2 (standing_at st1 k) (standing_at st2 k) u (Err (ShelfFault stages)) → Slotted o s es served st1 told0 told1 t0 t1 i1 shut0 shut1 k
      → Slotted o s (es ++ Due k age version ∷ Failed k ∷ []) (served ++ p ∷ []) st2 told0 told2 t0 t2 i2 shut0 shut2 k
  slot_broke u stages age version began opened closed named slot_is fault handed publication h =
      let at = here u (Err (ShelfFault stages)) opened named publication h in
      record {
        fits = λ is. absurd (let e : true ≡ false = sym closed ∙ is in cc);
        was_open = λ is. h.was_open opened;
        folder = λ sound. absurd ((all_right (IsSound k) served (p ∷ []) sound).0 slot_is fault);
        lasts = λ is a b ta tb la lb.
            let x = at a b ta tb la lb in
            record {
              survives = survives_broke o s k es (Failed k ∷ []) age version told1 told2 t0 t1 t2 i1 i2 (standing_at st1 k) (held (slot_at o k) a b) x.q u (Err (ShelfFault stages)) began refl handed x.seq
                  (behind_seq o s k es (held (slot_at o k) a b) x.q x.behind) x.publishing x.last.survives x.has;
              holds = λ is. absurd (let e : true ≡ false = sym closed ∙ is in cc);
            };
      }

  -- memory ran out
  slot_stopped : (u : units.Held) (age version : ℕ) → t0 ≤ t1 → shut1 ≡ false → shut0 ≡ false → u.slot ≡ slot_at o k → content_of u ≡ unit_for o (after_all o s es) (Due k age version)
      → Publication {T = ℕ} told1 told2 t1 t2 i1 i2 (standing_at st1 k) (standing_at st2 k) u (Err Memory) → Slotted o s es served st1 told0 told1 t0 t1 i1 shut0 shut1 k
      → ForBoth told0 (slot_at o k) (λ a b. Survives i2 t0 t2 o s k (es ++ Due k age version ∷ []) (held (slot_at o k) a b))
  slot_stopped u age version began opened was named handed publication h a b ta tb la lb =
      let x = here u (Err Memory) opened named publication h a b ta tb la lb in
      survives_broke o s k es [] age version told1 told2 t0 t1 t2 i1 i2 (standing_at st1 k) (held (slot_at o k) a b) x.q u (Err Memory) began refl handed x.seq
      (behind_seq o s k es (held (slot_at o k) a b) x.q x.behind) x.publishing x.last.survives x.has

-- ---- all of them

module _ (o : Opening) (now new : History) (told1 told2 : Told) (t1 t2 : ℕ) (i1 i2 : Images) (f1 f2 : List ℕ → ℕ) (st1 st2 : List Standing) (p : Pub) where
  -- the areas of a slot of another name
  step_keeps : (slot : ℕ) (u : units.Held) (outcome : Result ℕ PubErr) (name : List ℕ) → u.slot ≡ slot_at o slot → name ≢ slot_text (slot_at o slot) → Wrote told1 told2 t1 t2 i1 i2 f1 f2 st1 st2 slot u outcome
      → Keeps told1 told2 t1 t2 i1 i2 name
  step_keeps slot u outcome name named differs w =
      keeps_other told1 told2 t1 t2 i1 i2 name (slot_text u.slot) (free (standing_at st1 slot).held) (λ e. differs (e ∙ ap slot_text named)) w.areas.others w.publication.passes

  step_follows : (slot k : ℕ) (u : units.Held) (outcome : Result ℕ PubErr) (t0 : ℕ) (all : List (Option Edition)) → t0 ≤ t1 → u.slot ≡ slot_at o slot → slot_text (slot_at o k) ≢ slot_text (slot_at o slot)
      → Wrote told1 told2 t1 t2 i1 i2 f1 f2 st1 st2 slot u outcome → Follows i1 t0 t1 (slot_at o k) all → Follows i2 t0 t2 (slot_at o k) all
  step_follows slot k u outcome t0 all began named differs w h =
      follows_other t0 t1 t2 i1 i2 (slot_at o k) (slot_text u.slot) (free (standing_at st1 slot).held) all began (λ e. differs (e ∙ ap slot_text named)) w.publication.passes h

  -- a slot behind a publication of it
  slot_here : (s : State) (es : List Entry) (served : List Pub) (told0 : Told) (t0 : ℕ) (shut0 shut1 shut2 : Bool) (k age version : ℕ) (u : units.Held) (outcome : Result ℕ PubErr)
      → t0 ≤ t1 → shut1 ≡ false → (p.fault ≢ None → shut2 ≡ true) → u.slot ≡ slot_at o k → p.slot ≡ k → p.age ≡ age → p.version ≡ version → Tells (standing_at st1 k).seq outcome p
      → content_of u ≡ unit_for o (after_all o s es) (Due k age version)
      → Wrote told1 told2 t1 t2 i1 i2 f1 f2 st1 st2 k u outcome → Slotted o s es served st1 told0 told1 t0 t1 i1 shut0 shut1 k
      → Slotted o s (es ++ Due k age version ∷ answer_to p.fault p ∷ []) (served ++ p ∷ []) st2 told0 told2 t0 t2 i2 shut0 shut2 k
  slot_here s es served told0 t0 shut0 shut1 shut2 k age version u (Ok stages) began opened closed named slot_is age_is version_is tells handed w h =
      let answer : answer_to p.fault p ≡ Acked k age version = ap (λ f. answer_to f p) tells.0 ∙ acked_is p k age version slot_is age_is version_is in
      subst (λ e. Slotted o s (es ++ Due k age version ∷ e ∷ []) (served ++ p ∷ []) st2 told0 told2 t0 t2 i2 shut0 shut2 k) (sym answer)
      (slot_acked o s es served st1 st2 told0 told1 told2 t0 t1 t2 i1 i2 shut0 shut1 shut2 k p u stages age version began opened named handed w.publication h)
  slot_here s es served told0 t0 shut0 shut1 shut2 k age version u (Err (ShelfFault stages)) began opened closed named slot_is age_is version_is tells handed w h =
      let some : p.fault ≢ None = λ e. let x : Some faults.Shelf ≡ None = sym tells.0 ∙ e in absurd (cc) in
      let answer : answer_to p.fault p ≡ Failed k = ap (λ f. answer_to f p) tells.0 ∙ ap (λ n. Failed n) slot_is in
      subst (λ e. Slotted o s (es ++ Due k age version ∷ e ∷ []) (served ++ p ∷ []) st2 told0 told2 t0 t2 i2 shut0 shut2 k) (sym answer)
      (slot_broke o s es served st1 st2 told0 told1 told2 t0 t1 t2 i1 i2 shut0 shut1 shut2 k p u stages age version began opened (closed some) named slot_is tells.0 handed w.publication h)
  slot_here s es served told0 t0 shut0 shut1 shut2 k age version u (Err WornOut) began opened closed named slot_is age_is version_is tells handed w h =
      let some : p.fault ≢ None = λ e. let x : Some faults.WornOut ≡ None = sym tells.0 ∙ e in absurd (cc) in
      let answer : answer_to p.fault p ≡ Failed k = ap (λ f. answer_to f p) tells.0 ∙ ap (λ n. Failed n) slot_is in
      let still = w.uncalled refl in
      subst (λ e. Slotted o s (es ++ Due k age version ∷ e ∷ []) (served ++ p ∷ []) st2 told0 told2 t0 t2 i2 shut0 shut2 k) (sym answer)
      (slot_kept o s es served st1 st2 told0 told1 told2 t0 t1 t2 i1 i2 shut0 shut1 shut2 k p (Due k age version ∷ Failed k ∷ []) refl w.kept
      (λ is. absurd (let e : true ≡ false = sym (closed some) ∙ is in cc)) (keeps_still told1 told2 t1 t2 i1 i2 (slot_text (slot_at o k)) still.told still.time)
      (λ all f. follows_rest t0 t1 t2 i1 i2 (slot_at o k) all began still.time f) h)
  slot_here s es served told0 t0 shut0 shut1 shut2 k age version u (Err Memory) began opened closed named slot_is age_is version_is tells handed w h = absurd tells

  slot_step : (s : State) (es : List Entry) (served : List Pub) (told0 : Told) (t0 : ℕ) (shut0 : Bool) (k : ℕ) → t0 ≤ t1 → AreDistinct o → k < length o.slots → after_all o s es ≡ state_of now
      → Step o now new told1 told2 t1 t2 i1 i2 f1 f2 st1 st2 p → Slotted o s es served st1 told0 told1 t0 t1 i1 shut0 (slot_of (state_of now) k).shut k
      → Slotted o s (es ++ Due p.slot p.age p.version ∷ answer_to p.fault p ∷ []) (served ++ p ∷ []) st2 told0 told2 t0 t2 i2 shut0 (slot_of (state_of new) k).shut k
  slot_step s es served told0 t0 shut0 k began distinct within is step h = dite (ℕ_discrete k p.slot)
      (λ (e : k ≡ p.slot).
      subst (λ n. Slotted o s es served st1 told0 told1 t0 t1 i1 shut0 (slot_of (state_of now) n).shut n
      → Slotted o s (es ++ Due p.slot p.age p.version ∷ answer_to p.fault p ∷ []) (served ++ p ∷ []) st2 told0 told2 t0 t2 i2 shut0 (slot_of (state_of new) n).shut n) (sym e)
      (slot_here s es served told0 t0 shut0 (slot_of (state_of now) p.slot).shut (slot_of (state_of new) p.slot).shut p.slot p.age p.version step.unit step.outcome began
      (due_open (state_of now) p.slot p.age p.version step.pair.first.replied).1 (pair_shut now new p step.pair) step.named refl refl refl step.tells
      (subst (λ x. content_of step.unit ≡ unit_for o x (Due p.slot p.age p.version)) (sym is) step.handed) step.wrote) h)
      (λ (other : k ≢ p.slot).
      let differs : slot_text (slot_at o k) ≢ slot_text (slot_at o p.slot) = λ same. other (distinct k p.slot within step.within same) in
      slot_kept o s es served st1 st2 told0 told1 told2 t0 t1 t2 i1 i2 shut0 (slot_of (state_of now) k).shut (slot_of (state_of new) k).shut k p
      (Due p.slot p.age p.version ∷ answer_to p.fault p ∷ []) (none_acked k p.fault p other)
      (other_standing st1 st2 p.slot k (standing_at st2 p.slot) step.wrote.standings other)
      (λ closed. ap (λ (x : SlotState). x.shut) (sym (pair_other now new p k step.pair other)) ∙ closed)
      (step_keeps p.slot step.unit step.outcome (slot_text (slot_at o k)) step.named differs step.wrote)
      (λ all f. step_follows p.slot k step.unit step.outcome t0 all began step.named differs step.wrote f) h)

-- ---- what is told of other names

due_apart : (o : Opening) (name : List ℕ) (slot age version : ℕ) (es rest : List Entry) → AllByRecursion (IsApart o name) (es ++ Due slot age version ∷ rest) → slot_text (slot_at o slot) ≢ name
due_apart o name slot age version es rest all = (all_right (IsApart o name) es (Due slot age version ∷ rest) all).0

others_more : (o : Opening) (es rest : List Entry) (slot age version : ℕ) (told0 told1 told2 : Told) (u : units.Held) (area : Area) → u.slot ≡ slot_at o slot → KeepsOthers o es told0 told1
    → TellsOthers told1 told2 (slot_text u.slot) area → KeepsOthers o (es ++ Due slot age version ∷ rest) told0 told2
others_more o es rest slot age version told0 told1 told2 u area named before now name b all =
    now name b (inl (λ same. due_apart o name slot age version es rest all (sym (ap slot_text named) ∙ sym same)))
    ∙ before name b (all_left (IsApart o name) es (Due slot age version ∷ rest) all)

none_falls : (a b c : List ℕ → ℕ) → NoneFalls a b → NoneFalls b c → NoneFalls a c
none_falls a b c first second n = omega (arith, first n, second n)

caused_wider : (o : Opening) (f0 f1 f2 : List ℕ → ℕ) (p : Pub) → NoneFalls f1 f2 → NoneFalls f0 f1 → IsCaused o f0 f1 p → IsCaused o f0 f2 p
caused_wider o f0 f1 f2 p later first caused is =
    rose_wider (f0 (slot_text (slot_at o p.slot))) (f0 (slot_text (slot_at o p.slot))) (f1 (slot_text (slot_at o p.slot))) (f2 (slot_text (slot_at o p.slot)))
    (omega arith) (first (slot_text (slot_at o p.slot))) (later (slot_text (slot_at o p.slot))) (caused is)

-- ---- one step

pub going_start : (h : History) (st : List Standing) (told : Told) (t : ℕ) (i : Images) (f : List ℕ → ℕ) → length st ≡ length h.opening.slots
    → ((k : ℕ) → k < length h.opening.slots → (slot_of (state_of h) k).shut ≡ false → Fits told i t (slot_at h.opening k) (standing_at st k)) → Going h h st st told told t t i f f []
going_start h st told t i f standings fits = record {
  more = [];
  journal = journal_none h;
  replied = tt;
  theirs = tt;
  publishes = tt;
  seqs = refl;
  standings = standings;
  counts = λ n. omega arith;
  caused = tt;
  others = λ name area all. refl;
  rewriting = record { all = []; entries_are = refl; handed = tt; areas = λ n b. refl };
  behind = refl;
  told_as = tt;
  later = omega arith;
  slots = λ k within. record {
    fits = fits k within;
    was_open = λ is. is;
    folder = λ sound a b ta tb la lb. record {
      now = held (slot_at h.opening k) a b;
      holds = record { first = a; second = b; tells_a = ta; tells_b = tb; small_a = la; small_b = lb; holds = refl };
      is = inl (refl, refl);
    };
    lasts = λ is a b ta tb la lb.
        let fit = fits k within is a b ta tb la lb in
        let old = held (slot_at h.opening k) a b in
        record {
          survives = record {
            all = [];
            published = λ q has. absurd (omega (arith, has.1));
            follows = follows_start t i (slot_at h.opening k) a b (old ∷ []) fit.still_a fit.still_b (0, omega arith, refl);
            least = λ m c d low high ic id.
                let e : m ≡ t = omega (arith, low, high) in
                let first = fit.still_a c (subst (λ x. i x (slot_text (slot_at h.opening k)) A c) e ic) in
                let second = fit.still_b d (subst (λ x. i x (slot_text (slot_at h.opening k)) B d) e id) in
                omega (arith, ap (λ x. seq_of (held (slot_at h.opening k) x d)) first, ap (λ x. seq_of (held (slot_at h.opening k) a x)) second);
          };
          holds = λ closed. record {
            now = old;
            holds = record { first = a; second = b; tells_a = ta; tells_b = tb; small_a = la; small_b = lb; holds = refl };
            is = ((0, omega arith, refl), inl (refl, refl));
          };
        };
  };
}

-- the standings behind one publication more
behind_more : (st0 st1 st2 : List Standing) (xs : List Attempt) (x : Attempt) → st1 ≡ all_standings xs st0 → st2 ≡ set st1 x.slot (standing_at st2 x.slot) → standing_at st2 x.slot ≡ standing_by x.outcome x.standing
    → st2 ≡ all_standings (xs ++ x ∷ []) st0
behind_more st0 st1 st2 xs x before is here =
    is ∙ (ap (λ (s : Standing). set st1 x.slot s) here ∙ (ap (λ (st : List Standing). set st x.slot (standing_by x.outcome x.standing)) before ∙ sym (standings-append xs x st0)))

-- what is due behind the publications so far
module _ {st0 : List Standing} {told0 told1 : Told} {t0 t1 : ℕ} {i1 : Images} {f0 f1 : List ℕ → ℕ} {served : List Pub} where
  handed_behind : (old now : History) (st1 : List Standing) (g : Going old now st0 st1 told0 told1 t0 t1 i1 f0 f1 served) (x : Attempt) → x.slot < length old.opening.slots → x.unit.slot ≡ slot_at old.opening x.slot
      → content_of x.unit ≡ unit_for old.opening (state_of now) (Due x.slot x.age x.version) → x.standing ≡ standing_at st1 x.slot
      → IsHanded old.opening (after_all old.opening (state_of old) (all_entries g.rewriting.all)) (all_standings g.rewriting.all st0) x
  handed_behind old now st1 g x there named handed standing = record {
    there = there;
    named = named;
    unit = subst (λ s. content_of x.unit ≡ unit_for old.opening s (Due x.slot x.age x.version))
        (state_more old now g.more g.journal ∙ ap (λ (es : List Entry). after_all old.opening (state_of old) es) g.rewriting.entries_are) handed;
    standing = standing ∙ ap (λ (st : List Standing). standing_at st x.slot) g.behind;
  }

pub going_step : (old now new : History) (st0 st1 st2 : List Standing) (told0 told1 told2 : Told) (t0 t1 t2 : ℕ) (i1 i2 : Images) (f0 f1 f2 : List ℕ → ℕ) (served : List Pub) (p : Pub) → AreDistinct old.opening
    → Going old now st0 st1 told0 told1 t0 t1 i1 f0 f1 served → Step old.opening now new told1 told2 t1 t2 i1 i2 f1 f2 st1 st2 p → Going old new st0 st2 told0 told2 t0 t2 i2 f0 f2 (served ++ p ∷ [])
going_step old now new st0 st1 st2 told0 told1 told2 t0 t1 t2 i1 i2 f0 f1 f2 served p distinct g step =
    let o = old.opening in
    let n = (standing_at st1 p.slot).seq in
    let w = step.wrote in
    let within : p.slot < length st1 = omega (arith, step.within, g.standings) in
    let leg : List Entry = Due p.slot p.age p.version ∷ answer_to p.fault p ∷ [] in
    let pair_is = pair_journal now new (Due p.slot p.age p.version) (answer_to p.fault p) step.pair in
    let answers = answers_by n step.outcome p step.tells w.stages (λ k is. (w.cause.place k is).1) w.worn.0 w.worn.1 step.seq_fits in
    let x : Attempt = record { slot = p.slot; age = p.age; version = p.version; unit = step.unit; standing = standing_at st1 p.slot; outcome = step.outcome } in
    let number : n ≡ seq_at (seqs_all g.more (seqs_of st0)) p.slot = seq_get st1 p.slot within ∙ ap (λ (ns : List ℕ). seq_at ns p.slot) g.seqs in
    record {
      more = g.more ++ leg;
      journal = journal_both old now new g.more leg g.journal pair_is;
      replied = replied_both old now g.more leg g.journal g.replied (pair_replied now new (Due p.slot p.age p.version) (answer_to p.fault p) step.pair);
      theirs = all-append _ g.more leg g.theirs (refl, (answer_theirs p.fault p, tt));
      publishes = publishes-snoc (seqs_of st0) g.more served (answer_to p.fault p) p g.publishes (subst (λ x. Answers x p.fault p (answer_to p.fault p)) number answers);
      seqs = seqs_by n step.outcome p st1 st2 step.tells within w.standings w.seq w.kept ∙ (ap (seqs_after (answer_to p.fault p)) g.seqs ∙ sym (seqs-append g.more leg (seqs_of st0)));
      standings = ap (λ (st : List Standing). length st) w.standings ∙ (length-set st1 p.slot (standing_at st2 p.slot) ∙ g.standings);
      counts = none_falls f0 f1 f2 g.counts w.cause.later;
      caused = all-append _ served (p ∷ []) (all_wider _ _ served (λ x (c : IsCaused o f0 f1 x). caused_wider o f0 f1 f2 x w.cause.later g.counts c) g.caused)
          (caused_here, tt);
      others = others_more o g.more (answer_to p.fault p ∷ []) p.slot p.age p.version told0 told1 told2 step.unit (free (standing_at st1 p.slot).held) step.named g.others w.areas.others;
      rewriting = record {
        all = g.rewriting.all ++ x ∷ [];
        entries_are = ap (λ (es : List Entry). es ++ leg) g.rewriting.entries_are
            ∙ (ap (λ (es : List Entry). all_entries g.rewriting.all ++ (Due p.slot p.age p.version ∷ es)) (sym (answer_is n step.outcome p step.tells)) ∙ sym (entries-append g.rewriting.all x));
        handed = handed_more o (state_of old) st0 g.rewriting.all x g.rewriting.handed
            (handed_behind old now st1 g x step.within step.named step.handed refl);
        areas = areas_more g.rewriting.all x told0 told1 told2 g.rewriting.areas w.areas;
      };
      behind = behind_more st0 st1 st2 g.rewriting.all x g.behind w.standings w.behind;
      told_as = told_more g.rewriting.all served x p g.told_as (record { slot = refl; age = refl; version = refl; tells = step.tells });
      later = omega (arith, g.later, w.publication.passes.later);
      slots = λ k there. slot_step o now new told1 told2 t1 t2 i1 i2 f1 f2 st1 st2 p (state_of old) g.more served told0 t0 (slot_of (state_of old) k).shut k g.later distinct there
          (sym (state_more old now g.more g.journal)) step (g.slots k there);
    } where
      caused_here : IsCaused old.opening f0 f2 p
      caused_here fault =
          let c = caused_by (standing_at st1 p.slot).seq step.outcome p step.tells fault in
          let rose = subst (λ n. Rose (f1 n) (f2 n)) (ap slot_text step.named) (step.wrote.cause.rose c.0 c.1) in
          let name = slot_text (slot_at old.opening p.slot) in
          rose_wider (f0 name) (f1 name) (f2 name) (f2 name) (g.counts name) (step.wrote.cause.later name) (omega arith) rose

-- ---- the end

pub going_ends : (old new : History) (st0 st1 : List Standing) (told0 told1 : Told) (t0 t1 : ℕ) (i1 : Images) (f0 f1 : List ℕ → ℕ) (served : List Pub) → Going old new st0 st1 told0 told1 t0 t1 i1 f0 f1 served
    → Ends old new st0 told0 told1 t0 t1 i1 f0 f1
going_ends old new st0 st1 told0 told1 t0 t1 i1 f0 f1 served g =
    let e = sym (added_is old new g.more g.journal) in
    let only : OnlyPublishes old.opening.slots told0 told1 = record {
      all = g.rewriting.all;
      theirs = of_slots old.opening (state_of old) st0 g.rewriting.all g.rewriting.handed;
      areas = g.rewriting.areas;
    } in
    record {
      grew = grew old new g.more g.journal g.replied g.theirs;
      counts = g.counts;
      others = subst (λ es. KeepsOthers old.opening es told0 told1) e g.others;
      rewriting = subst (λ es. Rewriting old.opening (state_of old) es st0 told0 told1) e g.rewriting;
      only = only;
      strangers = strangers_kept old.opening.slots told0 told1 only;
      survives = λ k within opened a b ta tb la lb.
          subst (λ es. Survives i1 t0 t1 old.opening (state_of old) k es (held (slot_at old.opening k) a b)) e ((g.slots k within).lasts opened a b ta tb la lb).survives;
    }

-- also where nothing more was done
pub going_rests : (old now new : History) (st0 st1 : List Standing) (told0 told1 : Told) (t0 t1 : ℕ) (i1 : Images) (f0 f1 : List ℕ → ℕ) (served : List Pub) → new ≡ now → Going old now st0 st1 told0 told1 t0 t1 i1 f0 f1 served
    → Ends old new st0 told0 told1 t0 t1 i1 f0 f1
going_rests old now new st0 st1 told0 told1 t0 t1 i1 f0 f1 served same g =
    subst (λ (h : History). Ends old h st0 told0 told1 t0 t1 i1 f0 f1) (sym same) (going_ends old now st0 st1 told0 told1 t0 t1 i1 f0 f1 served g)

blank_pub : Pub
blank_pub = record { slot = 0; age = 0; version = 0; seq = 0; stages = 0; fault = None }

-- a Due entry that is not answered, as memory ran out
pub stopped_ends : (old now mid : History) (st0 st1 st2 : List Standing) (told0 told1 told2 : Told) (t0 t1 t2 : ℕ) (i1 i2 : Images) (f0 f1 f2 : List ℕ → ℕ) (served : List Pub) (slot age version : ℕ) (u : units.Held)
    → AreDistinct old.opening → Going old now st0 st1 told0 told1 t0 t1 i1 f0 f1 served → Adds now (Due slot age version) mid → slot < length old.opening.slots → u.slot ≡ slot_at old.opening slot
    → content_of u ≡ unit_for old.opening (state_of now) (Due slot age version) → Wrote told1 told2 t1 t2 i1 i2 f1 f2 st1 st2 slot u (Err Memory) → Ends old mid st0 told0 told2 t0 t2 i2 f0 f2
stopped_ends old now mid st0 st1 st2 told0 told1 told2 t0 t1 t2 i1 i2 f0 f1 f2 served slot age version u distinct g adds there named handed w =
    let o = old.opening in
    let leg : List Entry = Due slot age version ∷ [] in
    let is = journal_both old now mid g.more leg g.journal adds.added in
    let e = sym (added_is old mid (g.more ++ leg) is) in
    let behind = state_more old now g.more g.journal in
    let opened = (due_open (state_of now) slot age version adds.replied).1 in
    let outcome : Result ℕ PubErr = Err Memory in
    let x : Attempt = record { slot = slot; age = age; version = version; unit = u; standing = standing_at st1 slot; outcome = outcome } in
    let all : List Attempt = g.rewriting.all ++ x ∷ [] in
    let all_handed : AreHanded o (state_of old) st0 all = handed_more o (state_of old) st0 g.rewriting.all x g.rewriting.handed (handed_behind old now st1 g x there named handed refl) in
    let areas : AreRewritten told0 told2 all = areas_more g.rewriting.all x told0 told1 told2 g.rewriting.areas w.areas in
    let only : OnlyPublishes o.slots told0 told2 = record { all = all; theirs = of_slots o (state_of old) st0 all all_handed; areas = areas } in
    let here : (k : ℕ) → k < length o.slots → (slot_of (state_of old) k).shut ≡ false
    → ForBoth told0 (slot_at o k) (λ a b. Survives i2 t0 t2 o (state_of old) k (g.more ++ leg) (held (slot_at o k) a b)) =
    λ k within was. dite (ℕ_discrete k slot)
    (λ (same : k ≡ slot).
    let at : ForBoth told0 (slot_at o slot) (λ a b. Survives i2 t0 t2 o (state_of old) slot (g.more ++ leg) (held (slot_at o slot) a b)) =
    slot_stopped o (state_of old) g.more served st1 st2 told0 told1 told2 t0 t1 t2 i1 i2 (slot_of (state_of old) slot).shut (slot_of (state_of now) slot).shut true slot blank_pub u age version g.later opened
    (subst (λ n. (slot_of (state_of old) n).shut ≡ false) same was) named (subst (λ x. content_of u ≡ unit_for o x (Due slot age version)) behind handed) w.publication (g.slots slot there) in
    subst (λ n. ForBoth told0 (slot_at o n) (λ a b. Survives i2 t0 t2 o (state_of old) n (g.more ++ leg) (held (slot_at o n) a b))) (sym same) at)
    (λ (other : k ≢ slot). λ a b ta tb la lb.
    let differs : slot_text (slot_at o k) ≢ slot_text (slot_at o slot) = λ same. other (distinct k slot within there same) in
    survives_kept o (state_of old) k g.more leg told1 told2 t0 t1 t2 i1 i2 (held (slot_at o k) a b) refl
    (step_keeps o now mid told1 told2 t1 t2 i1 i2 f1 f2 st1 st2 blank_pub slot u (Err Memory) (slot_text (slot_at o k)) named differs w)
    (λ all f. step_follows o now mid told1 told2 t1 t2 i1 i2 f1 f2 st1 st2 blank_pub slot k u (Err Memory) t0 all g.later named differs w f)
    ((g.slots k within).lasts was a b ta tb la lb).survives) in
    record {
      grew = grew old mid (g.more ++ leg) is (replied_both old now g.more leg g.journal g.replied (adds.replied, tt)) (all-append _ g.more leg g.theirs (refl, tt));
      counts = none_falls f0 f1 f2 g.counts w.cause.later;
      others = subst (λ es. KeepsOthers o es told0 told2) e
          (others_more o g.more [] slot age version told0 told1 told2 u (free (standing_at st1 slot).held) named g.others w.areas.others);
      rewriting = subst (λ es. Rewriting o (state_of old) es st0 told0 told2) e (record {
        all = all;
        entries_are = ap (λ (es : List Entry). es ++ leg) g.rewriting.entries_are ∙ sym (entries-append g.rewriting.all x);
        handed = all_handed;
        areas = areas;
      });
      only = only;
      strangers = strangers_kept o.slots told0 told2 only;
      survives = λ k within was a b ta tb la lb. subst (λ es. Survives i2 t0 t2 o (state_of old) k es (held (slot_at o k) a b)) e (here k within was a b ta tb la lb);
    }

-- a step, from what the calls told
pub step_of : (old now mid new : History) (es : List Entry) (told1 told2 : Told) (t1 t2 : ℕ) (i1 i2 : Images) (f1 f2 : List ℕ → ℕ) (st1 st2 : List Standing) (slot age version : ℕ) (u : units.Held) (outcome : Result ℕ PubErr) (p : Pub)
    → now ≡ record old { journal = old.journal ++ es } → Adds now (Due slot age version) mid → slot < length now.opening.slots → u.slot ≡ slot_at now.opening slot
    → content_of u ≡ unit_for now.opening (state_of now) (Due slot age version) → (standing_at st1 slot).seq ≤ last_seq → Wrote told1 told2 t1 t2 i1 i2 f1 f2 st1 st2 slot u outcome → IsServed mid new (standing_at st1 slot).seq slot age version outcome p
    → Step old.opening now new told1 told2 t1 t2 i1 i2 f1 f2 st1 st2 p
step_of old now mid new es told1 told2 t1 t2 i1 i2 f1 f2 st1 st2 slot age version u outcome p is adds within named handed seq_fits w served =
    let opening = same_opening old now es is in
    let adds_p : Adds now (Due p.slot p.age p.version) mid =
    subst (λ (n : ℕ). Adds now (Due n p.age p.version) mid) (sym served.slot_is)
    (subst (λ (n : ℕ). Adds now (Due slot n p.version) mid) (sym served.age_is) (subst (λ (n : ℕ). Adds now (Due slot age n) mid) (sym served.version_is) adds)) in
    let handed_p : content_of u ≡ unit_for now.opening (state_of now) (Due p.slot p.age p.version) =
    subst (λ (n : ℕ). content_of u ≡ unit_for now.opening (state_of now) (Due n p.age p.version)) (sym served.slot_is)
    (subst (λ (n : ℕ). content_of u ≡ unit_for now.opening (state_of now) (Due slot n p.version)) (sym served.age_is)
    (subst (λ (n : ℕ). content_of u ≡ unit_for now.opening (state_of now) (Due slot age n)) (sym served.version_is) handed)) in
    record {
      pair = record { mid = mid; first = adds_p; second = served.adds };
      within = subst (λ (o : Opening). p.slot < length o.slots) opening (omega (arith, within, served.slot_is));
      unit = u;
      named = subst (λ (o : Opening). u.slot ≡ slot_at o p.slot) opening (subst (λ (n : ℕ). u.slot ≡ slot_at now.opening n) (sym served.slot_is) named);
      handed = subst (λ (o : Opening). content_of u ≡ unit_for o (state_of now) (Due p.slot p.age p.version)) opening handed_p;
      seq_fits = subst (λ (n : ℕ). (standing_at st1 n).seq ≤ last_seq) (sym served.slot_is) seq_fits;
      outcome = outcome;
      wrote = subst (λ (n : ℕ). Wrote told1 told2 t1 t2 i1 i2 f1 f2 st1 st2 n u outcome) (sym served.slot_is) w;
      tells = subst (λ (n : ℕ). Tells (standing_at st1 n).seq outcome p) (sym served.slot_is) served.tells;
    }

-- what is due fits
pub going_fits : (old now mid : History) (st0 st1 : List Standing) (told0 told1 : Told) (t0 t1 : ℕ) (i1 : Images) (f0 f1 : List ℕ → ℕ) (served : List Pub) (slot age version : ℕ) (u : units.Held)
    → Going old now st0 st1 told0 told1 t0 t1 i1 f0 f1 served → Adds now (Due slot age version) mid → slot < length now.opening.slots → u.slot ≡ slot_at now.opening slot
    → Fits told1 i1 t1 u.slot (standing_at st1 slot)
going_fits old now mid st0 st1 told0 told1 t0 t1 i1 f0 f1 served slot age version u g adds within named =
    let opening = same_opening old now g.more g.journal in
    let there : slot < length old.opening.slots = subst (λ (o : Opening). slot < length o.slots) opening within in
    subst (λ n. Fits told1 i1 t1 n (standing_at st1 slot)) (sym (named ∙ ap (λ (o : Opening). slot_at o slot) opening))
    ((g.slots slot there).fits (due_open (state_of now) slot age version adds.replied).1)

-- one publication more
pub going_next : (old now mid new : History) (st0 st1 st2 : List Standing) (told0 told1 told2 : Told) (t0 t1 t2 : ℕ) (i1 i2 : Images) (f0 f1 f2 : List ℕ → ℕ) (served : List Pub) (slot age version : ℕ) (u : units.Held)
    (outcome : Result ℕ PubErr) (p : Pub) → AreDistinct old.opening → Going old now st0 st1 told0 told1 t0 t1 i1 f0 f1 served → Adds now (Due slot age version) mid → slot < length now.opening.slots
    → u.slot ≡ slot_at now.opening slot → content_of u ≡ unit_for now.opening (state_of now) (Due slot age version) → (standing_at st1 slot).seq ≤ last_seq
    → Wrote told1 told2 t1 t2 i1 i2 f1 f2 st1 st2 slot u outcome → IsServed mid new (standing_at st1 slot).seq slot age version outcome p
    → Going old new st0 st2 told0 told2 t0 t2 i2 f0 f2 (served ++ p ∷ []) × (dues (state_of new) + 1 ≡ dues (state_of now))
going_next old now mid new st0 st1 st2 told0 told1 told2 t0 t1 t2 i1 i2 f0 f1 f2 served slot age version u outcome p distinct g adds within named handed seq_fits w is_served =
    let step = step_of old now mid new g.more told1 told2 t1 t2 i1 i2 f1 f2 st1 st2 slot age version u outcome p g.journal adds within named handed seq_fits w is_served in
    (going_step old now new st0 st1 st2 told0 told1 told2 t0 t1 t2 i1 i2 f0 f1 f2 served p distinct g step, pair_fewer now new p step.pair)

-- none, as memory ran out
pub going_stops : (old now mid new : History) (st0 st1 st2 : List Standing) (told0 told1 told2 : Told) (t0 t1 t2 : ℕ) (i1 i2 : Images) (f0 f1 f2 : List ℕ → ℕ) (served : List Pub) (slot age version : ℕ) (u : units.Held)
    (outcome : Result ℕ PubErr) → AreDistinct old.opening → Going old now st0 st1 told0 told1 t0 t1 i1 f0 f1 served → Adds now (Due slot age version) mid → slot < length now.opening.slots
    → u.slot ≡ slot_at now.opening slot → content_of u ≡ unit_for now.opening (state_of now) (Due slot age version)
    → Wrote told1 told2 t1 t2 i1 i2 f1 f2 st1 st2 slot u outcome → (outcome ≡ Err Memory) × (new ≡ mid) → Ends old new st0 told0 told2 t0 t2 i2 f0 f2
going_stops old now mid new st0 st1 st2 told0 told1 told2 t0 t1 t2 i1 i2 f0 f1 f2 served slot age version u outcome distinct g adds within named handed w stopped =
    let opening = same_opening old now g.more g.journal in
    subst (λ (h : History). Ends old h st0 told0 told2 t0 t2 i2 f0 f2) (sym stopped.1)
    (stopped_ends old now mid st0 st1 st2 told0 told1 told2 t0 t1 t2 i1 i2 f0 f1 f2 served slot age version u distinct g adds (subst (λ (o : Opening). slot < length o.slots) opening within)
    (named ∙ ap (λ (o : Opening). slot_at o slot) opening) (subst (λ (o : Opening). content_of u ≡ unit_for o (state_of now) (Due slot age version)) opening handed)
    (subst (λ r. Wrote told1 told2 t1 t2 i1 i2 f1 f2 st1 st2 slot u r) stopped.0 w))
