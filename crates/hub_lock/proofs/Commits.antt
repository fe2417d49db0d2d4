-- Committing an entry keeps the rule.
use Rattle.std.proofs.Common.{◌≡◌, ℕ, ◌+◌, ◌%◌, ◌^◌, ◌<◌, ◌≤◌, List, [], ◌∷◌, ◌++◌, length, get_or, set, sym, refl, ap, ◌∙◌, subst, inr, arith, length-append, get_or-set_other, get_or-set_same, Some}
use Rattle.std.specs.Prelude.{Option, None}
use mathlib.Core.Option.{some, none}
use mathlib.Core.Option as maybe
use lib.ListN.{get_elem?}
use Rattle.atomic_table.specs.Table.{step, keeps, Allows}
use Rattle.hub_lock.specs.Places.{only, times, between, mine}
use Rattle.hub_lock.specs.Stages.{has_ticket, has_turn, has_added, ticket_of, Serves}
use Rattle.hub_lock.specs.Rule.{added_count, IsUnspent, Fits, Keeps, Orderly}
use Rattle.hub_lock.specs.Steps.{Pass, view, staged, committed}
use Rattle.hub_lock.specs.declared.view.View.{View}
use Rattle.hub_lock.specs.declared.view.Stage.TheVariants.{Outside, Inside, Added}
use Rattle.hub_lock.proofs.Sums.{total-set, term_le, total_le, only-same, between-more}
use Rattle.hub_lock.proofs.Entries.{times-push, mine-push, mine-longer, within-push, starts_same, starts_push}
use Rattle.hub_lock.proofs.Stages.{added_le_turn, serves_none, serves_one}
use Rattle.hub_lock.proofs.Table.{Base, whole, unspent_inside, others_out, turns_out, served_next, each_set, placed}

-- the value in a slot that is held, or d
abbrev pub item_of : {T : Type 0} → T → Option T → T
item_of d None = d
item_of d (Some x) = x

abbrev pub item_or : {T : Type 0} → T → List (ℕ × Option T) → T
item_or d [] = d
item_or d (y ∷ ys) = item_of d y.1

abbrev pub item_at : {T : Type 0} → T → List (ℕ × Option T) → Option T
item_at d [] = Some d
item_at d (y ∷ ys) = y.1

-- slot 0, with this value
abbrev pub slot_of : {T : Type 0} → T → List (ℕ × Option T)
slot_of x = (0, Some x) ∷ []

module _ {T O E : Type 0} {opens : T → O} {journal : T → List E} {rule : List E → Type 0} {o : O} {log : List E} {count next serving : ℕ} {homes : List (maybe.Option (Option T))} {views : List (View O E)}
    (k : Keeps opens journal rule o log count next serving homes views) (id : ℕ) (v : View O E) (at : get_elem? views id ≡ some v) where
  -- a seat with the turn that has not added: no seat has
  none_added : has_ticket serving v.stage ≡ 1 → has_added v.stage ≡ 0 → added_count views ≡ 0
  none_added served not_added =
      let added : View O E → ℕ = λ u. has_added u.stage in
      let turn : View O E → ℕ = λ u. has_turn u.stage in
      let w : View O E = staged v Outside in
      let le = total_le added turn (set views id w) (λ j u _. added_le_turn u.stage) in
      omega (arith, le, total-set added views id v w at, total-set turn views id v w at, turns_out k id v at served)

  -- the journal is one entry longer, and that entry is the seat's own
  grown : (t : ℕ) (e : E) (now : List E) → v.stage ≡ Inside t → now ≡ v.seen ++ e ∷ [] → rule (mine v.seen v.own ++ e ∷ [])
      → Keeps opens journal rule o now (count + 1) next serving homes (set views id (view v.opening now (v.own ++ length v.seen ∷ []) v.parts (Added t) v.told))
  grown t e now inside is ruled =
      let own : List ℕ = v.own ++ length v.seen ∷ [] in
      let w : View O E = view v.opening now own v.parts (Added t) v.told in
      let f = k.each_seat id v at in
      let turn : has_turn v.stage ≡ 1 = ap has_turn inside in
      let u = unspent_inside k id v at (λ out. absurd (let no : 1 ≡ 0 = sym turn ∙ ap has_turn out in omega arith)) in
      let serves : (t ≡ serving) × (v.seen ≡ log) = subst (Serves log serving v.seen) inside f.serves in
      let one = serves_one log serving v.seen v.stage f.serves turn in
      let served : has_ticket serving v.stage ≡ 1 = one.1 serving ∙ only-same serving serving refl in
      let others = others_out k id v at served in
      let turns = total-set (λ u. has_turn u.stage) views id v w at in
      let more : now ≡ log ++ e ∷ [] = is ∙ ap (λ l. l ++ e ∷ []) serves.1 in
      let long : length now ≡ length log + 1 = ap length more ∙ length-append log (e ∷ []) in
      let seen_long : length v.seen ≡ length log = ap length serves.1 in
      let kind : IsUnspent o w = record { opening = u.opening; part = u.part } in
      let fits : Fits rule o now serving w = record {
        kind = inr kind;
        seen = starts_same now;
        own = subst (λ l. (p : ℕ) → length l ≤ p → times p own ≡ 0) (sym is) (within-push v.seen v.own e f.own);
        serves = (serves.0, refl);
        ruled = subst (λ l. rule (mine l own)) (sym is) (subst rule (sym (mine-push v.seen v.own e f.own)) ruled);
        told = subst (λ l. (rest : List E) × (l ≡ v.told ++ rest)) (sym more) (starts_push log v.told e f.told);
      } in
      let base : Base opens journal rule o now (count + 1) next serving homes (set views id w) = record {
        counted = omega (arith, k.counted);
        tickets = λ n. omega (arith, total-set (λ u. has_ticket n u.stage) views id v w at, k.tickets n, ap (has_ticket n) inside);
        small = k.small;
        home = λ z. absurd (omega (arith, turns, term_le (λ u. has_turn u.stage) views id v at));
        out = λ z. k.out (omega (arith, turns));
        behind = omega (arith, total-set (λ u. has_added u.stage) views id v w at, k.behind, ap has_added inside);
        owned = λ p. let last : only p (length v.seen) ≡ only p (length log) = ap (only p) seen_long in
            omega (arith, total-set (λ u. times p u.own) views id v w at, k.owned p, times-push p v.own (length v.seen), last, between-more p 0 (length log) (omega arith), ap (between p 0) long);
        parts = omega (arith, total-set (λ u. u.parts) views id v w at, k.parts);
        each_seat = each_set (Fits rule o now serving) views id w fits (λ j u apart q. still_fits e now u more (k.each_seat j u q) (others j u apart q));
      } in
      whole base
    where
      -- another seat, when the journal is one entry longer
      still_fits : (e : E) (now : List E) (u : View O E) → now ≡ log ++ e ∷ [] → Fits rule o log serving u → has_turn u.stage ≡ 0 → Fits rule o now serving u
      still_fits e now u more g out =
          let start : (rest : List E) × (now ≡ u.seen ++ rest) = subst (λ l. (rest : List E) × (l ≡ u.seen ++ rest)) (sym more) (starts_push log u.seen e g.seen) in
          record {
            kind = g.kind;
            seen = start;
            own = g.own;
            serves = serves_none now serving u.seen u.stage out;
            ruled = subst rule (mine-longer log u.seen u.own g.seen g.own ∙ sym (mine-longer now u.seen u.own start g.own)) g.ruled;
            told = subst (λ l. (rest : List E) × (l ≡ u.told ++ rest)) (sym more) (starts_push log u.told e g.told);
          }

-- commit: word 0 goes to one more
module _ {T O E : Type 0} {opens : T → O} {journal : T → List E} {rule : List E → Type 0} {o : O} where
  pub commits : (slots id : ℕ) (me : Pass T O E) (t : ℕ) (x : T) (e : E) → me.0.stage ≡ Inside t → me.1 ≡ slot_of x → journal x ≡ me.0.seen ++ e ∷ [] → rule (mine me.0.seen me.0.own ++ e ∷ [])
      → Allows (Orderly opens journal rule o) slots id me 0 (λ n. (n + 1) % 2 ^ 64) (committed journal (step slots 0 1 0 none) me)
  commits slots id me t x e inside holds is ruled s r tall at small =
      let count : ℕ = get_or s.words 0 0 in
      let serving : ℕ = get_or s.words 2 0 in
      let k = r.kept in
      let wide = r.wide in
      let v = me.0 in
      let turn : has_turn v.stage ≡ 1 = ap has_turn inside in
      let one = serves_one r.log serving v.seen v.stage ((k.each_seat id v at).serves) turn in
      let served : has_ticket serving v.stage ≡ 1 = one.1 serving ∙ only-same serving serving refl in
      let up = served_next k id v at served in
      let room = k.small in
      let fits : count + 1 < 18446744073709551616 = omega (arith, k.behind, none_added k id v at served (ap has_added inside)) in
      let after : ℕ = (count + 1) % 2 ^ 64 in
      let is_up : after ≡ count + 1 = omega arith in
      let w : View O E = view v.opening (journal x) (v.own ++ length v.seen ∷ []) v.parts (Added t) v.told in
      let zeroth = get_or-set_same s.words 0 after 0 (omega arith) ∙ is_up in
      let first = get_or-set_other s.words 0 1 after 0 (λ e. omega arith) in
      let second = get_or-set_other s.words 0 2 after 0 (λ e. omega arith) in
      let now = grown k id v at t e (journal x) inside is ruled in
      let kept = placed s r 0 after (journal x) s.homes (set s.views id w) _ _ _ r.tall zeroth first second now in
      (w, keeps, tt, kept, λ y holds'. let same : x ≡ y = ap (item_or x) (sym holds ∙ holds') in λ i. (view v.opening (journal (same i)) (v.own ++ length v.seen ∷ []) v.parts (Added (ticket_is i)) v.told, me.1))
    where
      ticket_is : t ≡ ticket_of me.0.stage
      ticket_is = sym (ap ticket_of inside)
