-- Publications, one after another, and what they make of the areas.
use Rattle.std.proofs.Common.{◌≡◌, inl, ℕ, List, [], ◌∷◌, ◌++◌, refl, sym, ap, ◌∙◌, subst, Result, Ok, Err, append_assoc}
use Rattle.std.specs.List.{AllByRecursion}
use Rattle.std.proofs.lemmas.List.{append-nil}
use Rattle.shelf_model.specs.Shelf.{Told, TellsSame}
use Rattle.unit_set.specs.Slot.{Slot, slot_text}
use Rattle.unit_set.specs.Held.{Held}
use Rattle.publish.specs.declared.area.Standing.{Standing}
use Rattle.publish.specs.declared.gates.PubErr.{PubErr}
use Rattle.publish.specs.declared.gates.PubErr.TheVariants.{ShelfFault, WornOut, Memory}
use Rattle.publish.specs.declared.outcome.Pub.{Pub}
use Rattle.publish.specs.Area.{free}
use Rattle.publish.specs.Rewriting.{Rewrites}
use Rattle.registry.specs.declared.entry.Entry.{Entry}
use Rattle.registry.specs.Opening.{Opening}
use Rattle.registry.specs.State.{State}
use Rattle.registry.specs.Registry.{after_all}
use Rattle.publisher.specs.Leg.{Tells, answer_to}
use Rattle.publisher.specs.Areas.{AreHanded, AreRewritten, AreToldAs, Attempt, IsHanded, IsOfSlot, IsToldAs, KeepsStrangers, OnlyPublishes, all_entries, all_standings, answer_entries, entries_of, standings_by}
use Rattle.publisher.proofs.Entries.{after-append}

-- ---- what is told before and behind them

rewrites_from : {T : Type 0} (told0 told1 told2 : Told) (u : Held) (s : Standing) (r : Result T PubErr) → TellsSame told0 told1 → Rewrites told1 told2 u s r → Rewrites told0 told2 u s r
rewrites_from told0 told1 told2 u s r same w = record {
  others = λ n b other. w.others n b other ∙ same n b;
  silent = λ h. w.silent (same (slot_text u.slot) (free s.held) ∙ h);
  this = λ found h. w.this found (same (slot_text u.slot) (free s.held) ∙ h);
}

-- a call before all of them that changes no bytes
pub areas_from : (xs : List Attempt) (told0 told1 told2 : Told) → TellsSame told0 told1 → AreRewritten told1 told2 xs → AreRewritten told0 told2 xs
areas_from [] told0 told1 told2 same areas = λ n b. areas n b ∙ same n b
areas_from (x ∷ xs) told0 told1 told2 same (mid, first, rest) = (mid, rewrites_from told0 told1 mid x.unit x.standing x.outcome same first, rest)

-- and behind them
pub areas_then : (xs : List Attempt) (told0 told1 told2 : Told) → AreRewritten told0 told1 xs → TellsSame told1 told2 → AreRewritten told0 told2 xs
areas_then [] told0 told1 told2 areas same = λ n b. same n b ∙ areas n b
areas_then (x ∷ xs) told0 told1 told2 (mid, first, rest) same = (mid, first, areas_then xs mid told1 told2 rest same)

-- ---- one more

pub areas_more : (xs : List Attempt) (x : Attempt) (told0 told1 told2 : Told) → AreRewritten told0 told1 xs → Rewrites told1 told2 x.unit x.standing x.outcome → AreRewritten told0 told2 (xs ++ x ∷ [])
areas_more [] x told0 told1 told2 same w = (told2, rewrites_from told0 told1 told2 x.unit x.standing x.outcome same w, λ n b. refl)
areas_more (y ∷ ys) x told0 told1 told2 (mid, first, rest) w = (mid, first, areas_more ys x mid told1 told2 rest w)

pub handed_more : (o : Opening) (s : State) (st : List Standing) (xs : List Attempt) (x : Attempt) → AreHanded o s st xs → IsHanded o (after_all o s (all_entries xs)) (all_standings xs st) x → AreHanded o s st (xs ++ x ∷ [])
handed_more o s st [] x all handed = (handed, tt)
handed_more o s st (y ∷ ys) x all handed = (
  all.0,
  handed_more o (after_all o s (entries_of y)) (standings_by y st) ys x all.1
      (subst (λ z. IsHanded o z (all_standings ys (standings_by y st)) x) (after-append o s (entries_of y) (all_entries ys)) handed),
)

pub entries-append : (xs : List Attempt) (x : Attempt) → all_entries (xs ++ x ∷ []) ≡ all_entries xs ++ entries_of x
entries-append [] x = append-nil (entries_of x)
entries-append (y ∷ ys) x = ap (λ (es : List Entry). entries_of y ++ es) (entries-append ys x) ∙ sym (append_assoc (entries_of y) (all_entries ys) (entries_of x))

pub standings-append : (xs : List Attempt) (x : Attempt) (st : List Standing) → all_standings (xs ++ x ∷ []) st ≡ standings_by x (all_standings xs st)
standings-append [] x st = refl
standings-append (y ∷ ys) x st = standings-append ys x (standings_by y st)

pub told_more : (xs : List Attempt) (ps : List Pub) (x : Attempt) (p : Pub) → AreToldAs xs ps → IsToldAs x p → AreToldAs (xs ++ x ∷ []) (ps ++ p ∷ [])
told_more [] [] x p all told = (told, tt)
told_more [] (q ∷ ps) x p all told = absurd all
told_more (y ∷ ys) [] x p all told = absurd all
told_more (y ∷ ys) (q ∷ ps) x p all told = (all.0, told_more ys ps x p all.1 told)

-- its answer
pub answer_is : (n : ℕ) (outcome : Result ℕ PubErr) (p : Pub) → Tells n outcome p → answer_entries p.slot p.age p.version outcome ≡ answer_to p.fault p ∷ []
answer_is n (Ok stages) p tells = sym (ap (λ f. answer_to f p ∷ []) tells.0)
answer_is n (Err (ShelfFault stages)) p tells = sym (ap (λ f. answer_to f p ∷ []) tells.0)
answer_is n (Err WornOut) p tells = sym (ap (λ f. answer_to f p ∷ []) tells.0)
answer_is n (Err Memory) p tells = absurd tells

-- ---- whatever was answered

pub of_slots : (o : Opening) (s : State) (st : List Standing) (xs : List Attempt) → AreHanded o s st xs → AllByRecursion (IsOfSlot o.slots) xs
of_slots o s st [] all = tt
of_slots o s st (x ∷ xs) all = (record { there = all.0.there; named = all.0.named }, of_slots o (after_all o s (entries_of x)) (standings_by x st) xs all.1)

-- nothing was published
pub only_none : (slots : List Slot) (told0 told1 : Told) → TellsSame told0 told1 → OnlyPublishes slots told0 told1
only_none slots told0 told1 same = record { all = []; theirs = tt; areas = same }

pub only_from : (slots : List Slot) (told0 told1 told2 : Told) → TellsSame told0 told1 → OnlyPublishes slots told1 told2 → OnlyPublishes slots told0 told2
only_from slots told0 told1 told2 same h = record { all = h.all; theirs = h.theirs; areas = areas_from h.all told0 told1 told2 same h.areas }

pub only_then : (slots : List Slot) (told0 told1 told2 : Told) → OnlyPublishes slots told0 told1 → TellsSame told1 told2 → OnlyPublishes slots told0 told2
only_then slots told0 told1 told2 h same = record { all = h.all; theirs = h.theirs; areas = areas_then h.all told0 told1 told2 h.areas same }

kept_by : (slots : List Slot) (xs : List Attempt) (told0 told1 : Told) → AllByRecursion (IsOfSlot slots) xs → AreRewritten told0 told1 xs → KeepsStrangers slots told0 told1
kept_by slots [] told0 told1 all areas = λ name area none. areas name area
kept_by slots (x ∷ xs) told0 told1 all (mid, first, rest) = λ name area none.
    kept_by slots xs mid told1 all.1 rest name area none ∙ first.others name area (inl (λ same. none x.slot all.0.there (sym (same ∙ ap slot_text all.0.named))))

-- areas of other names keep their bytes
pub strangers_kept : (slots : List Slot) (told0 told1 : Told) → OnlyPublishes slots told0 told1 → KeepsStrangers slots told0 told1
strangers_kept slots told0 told1 h = kept_by slots h.all told0 told1 h.theirs h.areas
