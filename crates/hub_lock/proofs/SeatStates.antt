-- From the steps of a call to what its seat shows.
use Rattle.std.proofs.Common.{◌≡◌, ℕ, ◌+◌, ◌≤◌, List, [], ◌∷◌, ◌++◌, length, sym, refl, ap, ◌∙◌, subst, arith, Some, None, Bool, true, false}
use Rattle.std.specs.Prelude.{Option}
use Rattle.std.specs.Option.{IsSome}
use Rattle.atomic_table.specs.Table.{rest}
use Rattle.atomic_table.specs.Seated.{TableId}
use Rattle.hub_lock.specs.Merge.{IsMerged}
use Rattle.hub_lock.specs.Places.{times, mine, others, StartsWith, IsWithin, longer, shorter}
use Rattle.hub_lock.specs.Stages.{ticket_of, is_inside}
use Rattle.hub_lock.specs.Steps.{Pass, view, staged, joined, own_after, Took, IsSettled, IsSound, IsOutside, MayCommit}
use Rattle.hub_lock.specs.Seats.{SeatState, seat_state, both, inside_with, own_entries, MayLeave, Leaves}
use Rattle.hub_lock.specs.declared.view.View.{View}
use Rattle.hub_lock.specs.declared.view.Stage.{Stage}
use Rattle.hub_lock.specs.declared.view.Stage.TheVariants.{Outside, Waits, Inside}
use Rattle.hub_lock.proofs.Entries.{times-both, picked-merge, mine-push, mine-longer, within-push, within-longer, starts_same, longer_starts, shorter_le}
use Rattle.hub_lock.proofs.Stages.{settled_out, settled_in}
use Rattle.hub_lock.proofs.Commits.{item_of, item_or, item_at}

-- what `join` tells: the seat s took in the seat u, and is then n
pub record Joins {O E : Type 0} (s u n : SeatState O E) : Type 0 where
  pub is : n ≡ both s u
  pub later : StartsWith n.seen s.seen × StartsWith n.seen u.seen
  pub apart : (p : ℕ) → times p s.own + times p u.own ≤ 1
  pub within : IsWithin n.seen n.own
  pub kept : (mine n.seen s.own ≡ own_entries s) × (mine n.seen u.own ≡ own_entries u)
  pub entries : IsMerged (own_entries n) (own_entries s) (own_entries u)

-- what `enter` tells: the seat s came inside with the value x, and is then n
pub record Enters {T O E : Type 0} (opens : T → O) (journal : T → List E) (rule : List E → Type 0) (s : SeatState O E) (x : T) (n : SeatState O E) : Type 0 where
  pub inside : n ≡ inside_with s (journal x)
  pub opening : s.opening ≡ Some (opens x)
  pub later : StartsWith n.seen s.seen
  pub within : IsWithin n.seen n.own
  pub entries : own_entries n ≡ own_entries s
  pub own_ruled : rule (own_entries n)
  pub rest_ruled : rule (others n.seen n.own)

module _ {T O E : Type 0} where
  pub out_of : (m : Pass T O E) → IsSound m → is_inside m.0.stage ≡ false → IsOutside m
  out_of m h e = let p = settled_out m.0.stage m.1 h.settled e in (p.0, p.1, h.part)

  pub in_of : (m : Pass T O E) → IsSound m → is_inside m.0.stage ≡ true → (m.0.stage ≡ Inside (ticket_of m.0.stage)) × (m.1 ≡ (0, None) ∷ [])
  in_of m h e = settled_in m.0.stage m.1 h.settled e

  -- slot 0 is held, and its value is with the caller
  abbrev emptied : Pass T O E → Pass T O E
  emptied n = (n.0, (0, None) ∷ rest n.1)

  -- the seat m, once it has the turn by its ticket t, and has seen the journal
  abbrev at_turn : ℕ → Pass T O E → List E → List (ℕ × Option T) → Pass T O E
  at_turn t m log held = (view m.0.opening log m.0.own m.0.parts (Inside t) m.0.told, held)

  module _ (opens : T → O) (journal : T → List E) (rule : List E → Type 0) where
    -- enter: the seat m, which took the turn and is then n, holds slot 0 with the value
    pub slot_held : (m n : Pass T O E) (t : ℕ) (took : Took opens journal rule m t n) → n.1 ≡ (0, Some took.0) ∷ rest n.1
    slot_held m n t took =
        let held : n.1 ≡ (0, Some took.0) ∷ m.1 = ap (λ (k : Pass T O E). k.1) took.1 in
        held ∙ ap (λ l. (0, Some took.0) ∷ l) (sym (ap rest held))

    -- enter: so what was in the slot is some value
    pub value_found : (m n : Pass T O E) (t : ℕ) (y : Option T) → Took opens journal rule m t n → n.1 ≡ (0, y) ∷ rest n.1 → IsSome y
    value_found m n t y took held = subst IsSome (ap (item_at took.0) (sym (slot_held m n t took) ∙ held)) refl

    -- enter: m drew a ticket (m1), took the turn by it (m2) and gave the value x to its caller (m3)
    pub entered : (z z' : TableId) (m m1 m2 m3 : Pass T O E) (t : ℕ) (y : Option T) (x : T) → z' ≡ z → IsSound m → IsOutside m → m1 ≡ (staged m.0 (Waits t), m.1) → Took opens journal rule m1 t m2 → m2.1 ≡ (0, y) ∷ rest m2.1 → y ≡ Some x → m3 ≡ emptied m2
        → IsSound m3 × Enters opens journal rule (seat_state z m) x (seat_state z' m3)
    entered z z' m m1 m2 m3 t y x same_turn sound out drawn took held is given =
        let x0 : T = took.0 in
        let same : x0 ≡ x = ap (λ (n : Pass T O E). item_or x0 n.1) (sym took.1) ∙ (ap (item_or x0) held ∙ ap (item_of x0) is) in
        let now : m3 ≡ at_turn t m (journal x) ((0, None) ∷ []) = given ∙ (ap emptied took.1 ∙ (ap (λ (n : Pass T O E). at_turn t n (journal x0) ((0, None) ∷ n.1)) drawn ∙ λ i. at_turn t m (journal (same i)) ((0, None) ∷ out.1 i))) in
        let later : StartsWith (journal x) m.0.seen = subst (λ (l : List E × List E). StartsWith l.0 l.1) (λ i. (journal (same i), (drawn i).0.seen)) took.3 in
        let within : IsWithin (journal x) m.0.own = within-longer (journal x) m.0.seen m.0.own later sound.within in
        subst (λ (n : Pass T O E). IsSound n × Enters opens journal rule (seat_state z m) x (seat_state z' n)) (sym now) (
          record { opened = sound.opened; part = sound.part; settled = refl; within = within },
          record {
            inside = λ i. record { turn = same_turn i; opening = m.0.opening; seen = journal x; own = m.0.own; parts = m.0.parts; inside = true };
            opening = ap (λ (n : Pass T O E). n.0.opening) (sym drawn) ∙ (took.2 ∙ ap (λ a. Some (opens a)) same);
            later = later;
            within = within;
            entries = mine-longer (journal x) m.0.seen m.0.own later sound.within;
            own_ruled = subst (λ (l : List E × List ℕ). rule (mine l.0 l.1)) (λ i. (journal (same i), (drawn i).0.own)) took.5;
            rest_ruled = subst (λ (l : List E × List ℕ). rule (others l.0 l.1)) (λ i. (journal (same i), (drawn i).0.own)) took.4;
          },
        )

    -- leave: what its caller may give back may be committed
    pub may_commit : (z : TableId) (m : Pass T O E) (v : View O E) (x y : T) (added : Bool) → v ≡ m.0 → y ≡ x → MayLeave journal rule (seat_state z m) x added → MayCommit journal rule v y added
    may_commit z m v x y added same_view same_value h = subst (λ (n : View O E × T). MayCommit journal rule n.0 n.1 added) (λ i. (sym same_view i, sym same_value i)) (here added h)
      where
        here : (added : Bool) → MayLeave journal rule (seat_state z m) x added → MayCommit journal rule m.0 x added
        here false h = h
        here true h = h

  -- the seat m, once it has left with the value x
  abbrev gone : (T → List E) → Pass T O E → T → Bool → Pass T O E
  gone journal m x added = (view m.0.opening (journal x) (own_after m.0 added) m.0.parts Outside m.0.told, [])

  module _ (journal : T → List E) (rule : List E → Type 0) where
    -- leave: m got the value back (m2), committed (m3) and passed on (m4)
    pub left : (z z' : TableId) (m m2 m3 m4 : Pass T O E) (x : T) (st : Stage) (added : Bool) → z' ≡ z → IsSound m → m.1 ≡ (0, None) ∷ [] → MayLeave journal rule (seat_state z m) x added
        → m2 ≡ (m.0, (0, Some x) ∷ rest m.1) → m3 ≡ (view m2.0.opening (journal x) (own_after m2.0 added) m2.0.parts st m2.0.told, m2.1) → m4 ≡ (staged m3.0 Outside, rest m3.1)
        → IsSound m4 × Leaves journal (seat_state z m) x added (seat_state z' m4)
    left z z' m m2 m3 m4 x st added same_turn sound held may given committed passed =
        let now : m4 ≡ gone journal m x added = passed ∙ (ap after committed ∙ (ap gone_with given ∙ ap with_rest held)) in
        subst (λ (n : Pass T O E). IsSound n × Leaves journal (seat_state z m) x added (seat_state z' n)) (sym now) (as_seen added may)
      where
        after : Pass T O E → Pass T O E
        after n = (staged n.0 Outside, rest n.1)

        gone_with : Pass T O E → Pass T O E
        gone_with n = (view n.0.opening (journal x) (own_after n.0 added) n.0.parts Outside n.0.told, rest n.1)

        with_rest : List (ℕ × Option T) → Pass T O E
        with_rest c = (view m.0.opening (journal x) (own_after m.0 added) m.0.parts Outside m.0.told, rest c)

        as_seen : (added : Bool) → MayLeave journal rule (seat_state z m) x added → IsSound (gone journal m x added) × Leaves journal (seat_state z m) x added (seat_state z' (gone journal m x added))
        as_seen false may = (
          record { opened = sound.opened; part = sound.part; settled = refl; within = subst (λ l. IsWithin l m.0.own) (sym may) sound.within },
          λ i. record { turn = same_turn i; opening = m.0.opening; seen = may i; own = m.0.own; parts = m.0.parts; inside = false },
        )
        as_seen true may =
            let e : E = may.0 in
            let own : List ℕ = m.0.own ++ length m.0.seen ∷ [] in
            let within : IsWithin (journal x) own = subst (λ l. IsWithin l own) (sym may.1) (within-push m.0.seen m.0.own e sound.within) in (
              record { opened = sound.opened; part = sound.part; settled = refl; within = within },
              (
                e,
                may.1,
                record {
                  same = (same_turn, refl, refl, refl);
                  later = starts_same m.0.seen;
                  seen = may.1;
                  own = refl;
                  within = within;
                  entries = ap (λ l. mine l own) may.1 ∙ mine-push m.0.seen m.0.own e sound.within;
                },
              ),
            )

  -- join: m took in u (m2), and loaded word 0 (m3)
  pub joins_as : (z z' zu : TableId) (m u m2 m3 : Pass T O E) → z' ≡ z → IsSound m → IsSound u → IsOutside m → m2 ≡ (joined m.0 u.0, m.1) → m3 ≡ m2 → (length m2.0.told ≤ length m2.0.seen → StartsWith m2.0.seen m2.0.told) → ((p : ℕ) → times p m2.0.own ≤ 1)
      → IsSound m3 × Joins (seat_state z m) (seat_state zu u) (seat_state z' m3)
  joins_as z z' zu m u m2 m3 same_turn sound sound_u out merged same starts once =
      let now : m3 ≡ (joined m.0 u.0, m.1) = same ∙ merged in
      let long : List E = longer m.0.seen u.0.seen in
      let short : List E = shorter m.0.seen u.0.seen in
      let own : List ℕ = m.0.own ++ u.0.own in
      let starts_now : length short ≤ length long → StartsWith long short = subst (λ (n : Pass T O E). length n.0.told ≤ length n.0.seen → StartsWith n.0.seen n.0.told) merged starts in
      let later = longer_starts m.0.seen u.0.seen (starts_now (shorter_le m.0.seen u.0.seen)) in
      let sums : (p : ℕ) → times p own ≡ times p m.0.own + times p u.0.own = λ p. times-both p m.0.own u.0.own in
      let once_now : (p : ℕ) → times p own ≤ 1 = subst (λ (n : Pass T O E). (p : ℕ) → times p n.0.own ≤ 1) merged once in
      let apart : (p : ℕ) → times p m.0.own + times p u.0.own ≤ 1 = λ p. omega (arith, sums p, once_now p) in
      let a = within-longer long m.0.seen m.0.own later.0 sound.within in
      let b = within-longer long u.0.seen u.0.own later.1 sound_u.within in
      let within : IsWithin long own = λ p l. omega (arith, sums p, a p l, b p l) in
      let x = mine-longer long m.0.seen m.0.own later.0 sound.within in
      let y = mine-longer long u.0.seen u.0.own later.1 sound_u.within in
      let together = picked-merge (λ p. times p m.0.own) (λ p. times p u.0.own) (λ p. times p own) 0 long sums apart in
      subst (λ (n : Pass T O E). IsSound n × Joins (seat_state z m) (seat_state zu u) (seat_state z' n)) (sym now) (
        record { opened = sound.opened; part = omega (arith, sound.part); settled = subst (λ st. IsSettled st m.1) (sym out.0) out.1; within = within },
        record {
          is = λ i. record { turn = same_turn i; opening = m.0.opening; seen = long; own = own; parts = m.0.parts + u.0.parts; inside = is_inside m.0.stage };
          later = later;
          apart = apart;
          within = within;
          kept = (x, y);
          entries = subst (λ (l : List E × List E). IsMerged (mine long own) l.0 l.1) (λ i. (x i, y i)) together;
        },
      )
