-- Drawing a ticket, finding it served, and passing on keep the rule.
use Rattle.std.proofs.Common.{◌≡◌, ℕ, ◌+◌, ◌%◌, ◌^◌, ◌<◌, ◌≤◌, List, [], ◌∷◌, length, get_or, set, eqb, sym, refl, ap, ◌∙◌, subst, inr, arith, suc, length-set, get_or-set_other, get_or-set_same, eq-eqb, ne_eqb, Some}
use Rattle.std.specs.Prelude.{Option, None}
use mathlib.Core.Logic.{dite}
use mathlib.Core.Option.{some, none}
use mathlib.Core.Option as maybe
use native.Mathlib.Decide.{ℕ_discrete}
use lib.ListN.{get_elem?}
use prog.Atomic.{either}
use Rattle.atomic_table.specs.Table.{step, keeps, takes, gives, stepped, Allows}
use Rattle.atomic_table.proofs.Lists.{set_here, set_again}
use Rattle.hub_lock.specs.Merge.{IsMerged}
use Rattle.hub_lock.specs.Places.{total, times, between, picked, mine, others, StartsWith}
use Rattle.hub_lock.specs.Stages.{has_ticket, has_turn, has_added, ticket_of}
use Rattle.hub_lock.specs.Rule.{IsUnspent, Fits, Keeps, Orderly}
use Rattle.hub_lock.specs.Steps.{Pass, view, staged, spent, drew, Took, looked, passed}
use Rattle.hub_lock.specs.declared.view.View.{View}
use Rattle.hub_lock.specs.declared.view.Stage.TheVariants.{Outside, Waits, Inside}
use Rattle.hub_lock.proofs.Sums.{total-set, only-same, between-in, between_le, between-more, between-less}
use Rattle.hub_lock.proofs.Entries.{picked-ext, picked-merge, starts_long, starts_same}
use Rattle.hub_lock.proofs.Stages.{waits, added_le_turn, serves_one}
use Rattle.hub_lock.proofs.Table.{Base, whole, unspent, unspent_inside, others_out, turns_out, served_next, each_set, restaged, passed_by, rule_none, placed, unmoved}

-- the views after a step of one seat
module _ {T O E : Type 0} {opens : T → O} {journal : T → List E} {rule : List E → Type 0} {o : O} {log : List E} {count next serving : ℕ} {homes : List (maybe.Option (Option T))} {views : List (View O E)}
    (k : Keeps opens journal rule o log count next serving homes views) (id : ℕ) (v : View O E) (at : get_elem? views id ≡ some v) where
  drawn : v.stage ≡ Outside → 0 < v.parts → next + 1 < 18446744073709551616 → Keeps opens journal rule o log count (next + 1) serving homes (set views id (staged v (Waits next)))
  drawn out part room =
      let w : View O E = staged v (Waits next) in
      let turns = total-set (λ u. has_turn u.stage) views id v w at in
      let none : has_turn v.stage ≡ 0 = ap has_turn out in
      let up = k.small.0 in
      let base : Base opens journal rule o log count (next + 1) serving homes (set views id w) = record {
        counted = k.counted;
        tickets = λ t. omega (arith, total-set (λ u. has_ticket t u.stage) views id v w at, k.tickets t, ap (has_ticket t) out, between-more t serving next up);
        small = (omega arith, room);
        home = λ z. k.home (omega (arith, turns, none));
        out = λ z. k.out (omega (arith, turns, none));
        behind = omega (arith, total-set (λ u. has_added u.stage) views id v w at, k.behind, ap has_added out);
        owned = λ p. omega (arith, total-set (λ u. times p u.own) views id v w at, k.owned p);
        parts = omega (arith, total-set (λ u. u.parts) views id v w at, k.parts);
        each_seat = each_set (Fits rule o log serving) views id w (restaged v serving (Waits next) (k.each_seat id v at) (unspent k id v at part) tt) (λ j u _ e. k.each_seat j u e);
      } in
      whole base

  -- the seat finds its ticket served, and sees the whole journal
  found : (seen : List E) → v.stage ≡ Waits serving → seen ≡ log → length homes ≡ 1
      → Keeps opens journal rule o log count next serving (set homes 0 none) (set views id (view v.opening seen v.own v.parts (Inside serving) v.told))
  found seen waiting is tall =
      let w : View O E = view v.opening seen v.own v.parts (Inside serving) v.told in
      let f = k.each_seat id v at in
      let u = unspent_inside k id v at (λ out. absurd (let no : 1 ≡ 0 = ap waits (sym waiting ∙ out) in omega arith)) in
      let turns = total-set (λ u. has_turn u.stage) views id v w at in
      let none_before : has_turn v.stage ≡ 0 = ap has_turn waiting in
      let long = starts_long log v.seen f.seen in
      let as_long : length seen ≡ length log = ap length is in
      let kind : IsUnspent o w = record { opening = u.opening; part = u.part } in
      let fits : Fits rule o log serving w = record {
        kind = inr kind;
        seen = subst (StartsWith log) (sym is) (starts_same log);
        own = λ p h. f.own p (omega arith);
        serves = (refl, is);
        ruled = f.ruled;
        told = f.told;
      } in
      let base : Base opens journal rule o log count next serving (set homes 0 none) (set views id w) = record {
        counted = k.counted;
        tickets = λ t. omega (arith, total-set (λ u. has_ticket t u.stage) views id v w at, k.tickets t, ap (has_ticket t) waiting);
        small = k.small;
        home = λ z. absurd (omega (arith, turns, none_before));
        out = λ _. set_here homes 0 none (omega arith);
        behind = omega (arith, total-set (λ u. has_added u.stage) views id v w at, k.behind, ap has_added waiting);
        owned = λ p. omega (arith, total-set (λ u. times p u.own) views id v w at, k.owned p);
        parts = omega (arith, total-set (λ u. u.parts) views id v w at, k.parts);
        each_seat = each_set (Fits rule o log serving) views id w fits (λ j u _ e. k.each_seat j u e);
      } in
      whole base

  -- the seat gives back the value, and the next ticket is served
  passed_on : (x : T) → has_turn v.stage ≡ 1 → length homes ≡ 1 → v.opening ≡ Some (opens x) → journal x ≡ v.seen
      → Keeps opens journal rule o log count next (serving + 1) (set homes 0 (some (Some x))) (set views id (staged v Outside))
  passed_on x turn tall opening same =
      let w : View O E = staged v Outside in
      let f = k.each_seat id v at in
      let u = unspent_inside k id v at (λ out. absurd (let no : 1 ≡ 0 = sym turn ∙ ap has_turn out in omega arith)) in
      let one = serves_one log serving v.seen v.stage f.serves turn in
      let served : has_ticket serving v.stage ≡ 1 = one.1 serving ∙ only-same serving serving refl in
      let up = served_next k id v at served in
      let others = others_out k id v at served in
      let turns = total-set (λ u. has_turn u.stage) views id v w at in
      let base : Base opens journal rule o log count next (serving + 1) (set homes 0 (some (Some x))) (set views id w) = record {
        counted = k.counted;
        tickets = λ t. omega (arith, total-set (λ u. has_ticket t u.stage) views id v w at, k.tickets t, one.1 t, between-less t serving next up);
        small = (omega arith, k.small.1);
        home = λ _. (x, set_here homes 0 (some (Some x)) (omega arith), opening_same (sym opening ∙ u.opening), same ∙ one.0);
        out = λ z. absurd (omega (arith, turns, turns_out k id v at served));
        behind = omega (arith, total-set (λ u. has_added u.stage) views id v w at, k.behind, added_le_turn v.stage);
        owned = λ p. omega (arith, total-set (λ u. times p u.own) views id v w at, k.owned p);
        parts = omega (arith, total-set (λ u. u.parts) views id v w at, k.parts);
        each_seat = each_set (Fits rule o log (serving + 1)) views id w (restaged v (serving + 1) Outside f u tt) (λ j u apart e. passed_by u (serving + 1) (k.each_seat j u e) (others j u apart e));
      } in
      whole base
    where
      opening_or : O → Option O → O
      opening_or d (Some y) = y
      opening_or d None = d

      opening_same : Some (opens x) ≡ Some o → opens x ≡ o
      opening_same e = ap (opening_or o) e

  module _ (empty : rule []) (merged : (zs xs ys : List E) → IsMerged zs xs ys → rule xs → rule ys → rule zs) where
    -- the entries that are not the seat's own meet the rule, as those of each other seat do
    others_ruled : rule (others log v.own)
    others_ruled =
        let us : List (View O E) = set views id spent in
        let own : ℕ → ℕ = λ p. total (λ u. times p u.own) us in
        let sums : (p : ℕ) → own p + times p v.own ≡ between p 0 (length log) = λ p. omega (arith, total-set (λ u. times p u.own) views id v spent at, k.owned p) in
        let each = each_set (λ u. rule (mine log u.own)) views id spent (rule_none rule empty log) (λ j u _ e. (k.each_seat j u e).ruled) in
        let same : picked own 0 log ≡ others log v.own = picked-ext own _ 0 log (λ p _ l. let inside : p < length log = omega arith in omega (arith, sums p, between-in p 0 (length log) (omega arith) inside)) in
        subst rule same (all_ruled us each (λ p. omega (arith, sums p, between_le p 0 (length log))))
      where
        -- what any of the seats have as their own meets the rule together
        all_ruled : (us : List (View O E)) → ((j : ℕ) (u : View O E) → get_elem? us j ≡ some u → rule (mine log u.own)) → ((p : ℕ) → total (λ u. times p u.own) us ≤ 1) → rule (picked (λ p. total (λ u. times p u.own) us) 0 log)
        all_ruled [] each one = rule_none rule empty log
        all_ruled (u ∷ us) each one =
            let rest = all_ruled us (λ j w e. each (suc j) w e) (λ p. let h = one p in omega arith) in
            let together = picked-merge (λ p. times p u.own) (λ p. total (λ w. times p w.own) us) (λ p. total (λ w. times p w.own) (u ∷ us)) 0 log (λ p. refl) one in
            merged _ _ _ together (each 0 u refl) rest

-- the steps
module _ {T O E : Type 0} {opens : T → O} {journal : T → List E} {rule : List E → Type 0} {o : O} where
  -- draw a ticket: word 1 goes to one more, unless another has drawn this ticket
  pub draws : (slots id : ℕ) (me : Pass T O E) (old new : ℕ) → me.0.stage ≡ Outside → 0 < me.0.parts → new ≡ old + 1 → new < 18446744073709551616
      → Allows (Orderly opens journal rule o) slots id me 1 (λ n. either (eqb n old) new n) (drew (step slots 1 old new none) me)
  draws slots id me old new out part up room s r tall at small =
      let next : ℕ = get_or s.words 1 0 in
      let wide = r.wide in
      dite (ℕ_discrete next old)
      (λ hit.
      let w : View O E = staged me.0 (Waits next) in
      let is : new ≡ next + 1 = omega arith in
      let zeroth = get_or-set_other s.words 1 0 new 0 (λ e. omega arith) in
      let first = get_or-set_same s.words 1 new 0 (omega arith) ∙ is in
      let second = get_or-set_other s.words 1 2 new 0 (λ e. omega arith) in
      let kept = placed s r 1 new r.log s.homes (set s.views id w) _ _ _ r.tall zeroth first second (drawn r.kept id me.0 at out part (omega arith)) in
      (w, keeps, tt, subst (λ b. Orderly opens journal rule o (stepped s 1 (either b new next) id me.1 w keeps)) (sym (eq-eqb next old hit)) kept, ((λ _. refl), λ miss. absurd (miss hit))))
      (λ miss.
      let kept = unmoved s r 1 s.homes (set s.views id me.0) r.tall (subst (Keeps opens journal rule o r.log _ _ _ s.homes) (sym (set_again s.views id me.0 at)) r.kept) in
      (me.0, keeps, tt, subst (λ b. Orderly opens journal rule o (stepped s 1 (either b new next) id me.1 me.0 keeps)) (sym (ne_eqb next old miss)) kept, ((λ hit. absurd (miss hit)), λ _. refl)))

  -- look at the ticket that is served
  pub looks : (empty : rule []) (merged : (zs xs ys : List E) → IsMerged zs xs ys → rule xs → rule ys → rule zs) (slots id : ℕ) (me : Pass T O E) (t : ℕ) → me.0.stage ≡ Waits t
      → Allows (Orderly opens journal rule o) slots id me 2 (λ n. n) (looked opens journal rule (step slots 2 0 0 none) me)
  looks empty merged slots id me t waiting s r tall at small =
      let serving : ℕ = get_or s.words 2 0 in
      let k = r.kept in
      let mine-is : ticket_of me.0.stage ≡ t = ap ticket_of waiting in
      dite (ℕ_discrete serving t)
      (λ hit.
      let served : has_ticket serving me.0.stage ≡ 1 = ap (has_ticket serving) waiting ∙ only-same serving t (sym hit) in
      let value = k.home (turns_out k id me.0 at served ∙ ap has_turn waiting) in
      let x : T = value.0 in
      let u = unspent_inside k id me.0 at (λ out. absurd (let no : 1 ≡ 0 = ap waits (sym waiting ∙ out) in omega arith)) in
      let f = k.each_seat id me.0 at in
      let same = sym value.3 in
      let w : View O E = view me.0.opening (journal x) me.0.own me.0.parts (Inside serving) me.0.told in
      let now = found k id me.0 at (journal x) (waiting ∙ ap Waits (sym hit)) value.3 r.tall in
      let kept = unmoved s r 2 (set s.homes 0 none) (set s.views id w) (length-set s.homes 0 none ∙ r.tall) now in
      let told : Took opens journal rule me serving (w, (0, Some x) ∷ me.1) = (x, refl, u.opening ∙ ap Some (sym value.2), subst (λ l. StartsWith l me.0.seen) same f.seen, subst (λ l. rule (others l me.0.own)) same (others_ruled k id me.0 at empty merged), subst (λ l. rule (mine l me.0.own)) same f.ruled) in
      (w, takes 0 (Some x), value.1, kept, ((λ _. told), λ miss. absurd (miss (hit ∙ sym mine-is)))))
      (λ miss.
      let kept = unmoved s r 2 s.homes (set s.views id me.0) r.tall (subst (Keeps opens journal rule o r.log _ _ _ s.homes) (sym (set_again s.views id me.0 at)) k) in
      (me.0, keeps, tt, kept, ((λ hit. absurd (miss (hit ∙ mine-is))), λ _. refl)))

  -- pass on, with the value given back
  pub passes : (slots id : ℕ) (me : Pass T O E) (x : T) → has_turn me.0.stage ≡ 1 → me.1 ≡ (0, Some x) ∷ [] → me.0.opening ≡ Some (opens x) → journal x ≡ me.0.seen
      → Allows (Orderly opens journal rule o) slots id me 2 (λ n. (n + 1) % 2 ^ 64) (passed (step slots 2 1 0 none) me)
  passes slots id me x turn holds opening same =
      subst (λ (held : List (ℕ × Option T)). Allows (Orderly opens journal rule o) slots id (me.0, held) 2 (λ n. (n + 1) % 2 ^ 64) (passed (step slots 2 1 0 none) (me.0, held))) (sym holds) go
    where
      go : Allows (Orderly opens journal rule o) slots id (me.0, (0, Some x) ∷ []) 2 (λ n. (n + 1) % 2 ^ 64) (passed (step slots 2 1 0 none) (me.0, (0, Some x) ∷ []))
      go s r tall at small =
          let serving : ℕ = get_or s.words 2 0 in
          let k = r.kept in
          let wide = r.wide in
          let v = me.0 in
          let one = serves_one r.log serving v.seen v.stage ((k.each_seat id v at).serves) turn in
          let up = served_next k id v at (one.1 serving ∙ only-same serving serving refl) in
          let room = k.small in
          let after : ℕ = (serving + 1) % 2 ^ 64 in
          let is_up : after ≡ serving + 1 = omega arith in
          let zeroth = get_or-set_other s.words 2 0 after 0 (λ e. omega arith) in
          let first = get_or-set_other s.words 2 1 after 0 (λ e. omega arith) in
          let second = get_or-set_same s.words 2 after 0 (omega arith) ∙ is_up in
          let now = passed_on k id v at x turn r.tall opening same in
          let kept = placed s r 2 after r.log (set s.homes 0 (some (Some x))) (set s.views id (staged v Outside)) _ _ _ (length-set s.homes 0 (some (Some x)) ∙ r.tall) zeroth first second now in
          (staged v Outside, gives, tt, kept, refl)
