-- The rule holds of a new table, and what it says at the end.
use Rattle.std.proofs.Common.{◌≡◌, ℕ, ◌≤◌, ◌≢◌, List, [], ◌∷◌, length, set, sym, refl, ap, ◌∙◌, subst, ⊎_elim, inr, arith, le_refl, Some}
use Rattle.std.specs.Prelude.{Option}
use mathlib.Core.Logic.{dite}
use mathlib.Core.Option.{some, some-injective, some-ne-none}
use native.Mathlib.Decide.{ℕ_discrete, dec_le}
use lib.ListN.{get_elem?}
use Rattle.atomic_table.specs.Table.{opening, Final, Seen}
use Rattle.atomic_table.proofs.Lists.{at_snoc}
use Rattle.hub_lock.specs.Places.{all_parts, total, times, between}
use Rattle.hub_lock.specs.Stages.{has_turn}
use Rattle.hub_lock.specs.Rule.{turn_count, IsSpent, IsUnspent, Fits, Orderly}
use Rattle.hub_lock.specs.Steps.{beginner, spent}
use Rattle.hub_lock.specs.declared.view.View.{View}
use Rattle.hub_lock.specs.declared.view.Stage.TheVariants.{Outside}
use Rattle.hub_lock.proofs.Sums.{total-set, total_zero, terms_le, between-in, between-high}
use Rattle.hub_lock.proofs.Entries.{starts_none, starts_whole}
use Rattle.hub_lock.proofs.Table.{Base, whole, unspent, each_set}

module _ {T O E : Type 0} {opens : T → O} {journal : T → List E} {rule : List E → Type 0} {o : O} where
  -- a new table
  pub begins : (empty : rule []) (x : T) → opens x ≡ o → journal x ≡ [] → Orderly opens journal rule o (opening (0 ∷ 0 ∷ 0 ∷ []) (Some x ∷ []) (beginner o))
  begins empty x is nil =
      let v : View O E = beginner o in
      let kind : IsUnspent o v = record { opening = refl; part = omega arith } in
      let fits : Fits rule o [] 0 v = record { kind = inr kind; seen = starts_none []; own = λ p _. refl; serves = tt; ruled = empty; told = starts_none [] } in
      let base : Base opens journal rule o [] 0 0 0 (some (Some x) ∷ []) (v ∷ []) = record {
        counted = refl;
        tickets = λ t. omega (arith, between-high t 0 0 (omega arith));
        small = (le_refl 0, omega arith);
        home = λ _. (x, refl, is, nil);
        out = λ z. absurd (omega arith);
        behind = le_refl 0;
        owned = λ p. omega (arith, between-high p 0 0 (omega arith));
        parts = refl;
        each_seat = λ j u e. ⊎_elim (λ (z : get_elem? [] j ≡ some u). absurd (some-ne-none u (sym z))) (λ (t : v ≡ u). subst (Fits rule o [] 0) t fits) (at_snoc [] v u j e);
      } in
      record { log = []; wide = refl; tall = refl; kept = whole base }

  -- a seat with all parts is the only one left: the value is home, and each place is its own
  pub closes : (id : ℕ) (v : View O E) (ws : List ℕ) (xs : List (Option T)) → v.parts ≡ all_parts → v.stage ≡ Outside → Final (Seen (Orderly opens journal rule o) id v) ws xs
      → (x : T) × (get_elem? xs 0 ≡ some (Some x)) × (v.opening ≡ Some (opens x)) × (journal x ≡ v.seen) × ((p : ℕ) → times p v.own ≡ between p 0 (length v.seen)) × (length xs ≡ 1)
  closes id v ws xs all v_out final =
      let s = final.0 in
      let r = final.1.0 in
      let at = final.1.1 in
      let k = r.kept in
      let f = k.each_seat id v at in
      let live = unspent k id v at (omega arith) in
      let spent_all : (j : ℕ) (u : View O E) → j ≢ id → get_elem? s.views j ≡ some u → IsSpent u = λ j u apart e.
      ⊎_elim (λ (h : IsSpent u). h) (λ (h : IsUnspent o u). absurd (omega (arith, h.part, terms_le (λ y. y.parts) s.views id j v u apart at e, k.parts))) ((k.each_seat j u e).kind) in
      let same : (j : ℕ) (u : View O E) → get_elem? s.views j ≡ some u → j ≡ id → u ≡ v = λ j u e is. some-injective u v (sym e ∙ (ap (get_elem? s.views) is ∙ at)) in
      let none_has : turn_count s.views ≡ 0 = total_zero (λ y. has_turn y.stage) s.views (λ j u e. dite (ℕ_discrete j id)
      (λ is. ap has_turn (ap (λ (y : View O E). y.stage) (same j u e is) ∙ v_out))
      (λ apart. ap has_turn ((spent_all j u apart e).no_ticket))) in
      let value = k.home none_has in
      let own_all : (p : ℕ) → times p v.own ≡ between p 0 (length r.log) = λ p.
      let no_other : total (λ y. times p y.own) (set s.views id spent) ≡ 0 = total_zero (λ y. times p y.own) (set s.views id spent) (each_set (λ y. times p y.own ≡ 0) s.views id spent refl (λ j u apart e. ap (times p) ((spent_all j u apart e).no_place))) in
      omega (arith, total-set (λ y. times p y.own) s.views id v spent at, k.owned p, no_other) in
      let far : length r.log ≤ length v.seen = dite (dec_le (length r.log) (length v.seen)) (λ y. y)
      (λ n. absurd (omega (arith, f.own (length v.seen) (le_refl _), own_all (length v.seen), between-in (length v.seen) 0 (length r.log) (omega arith) (omega arith)))) in
      let seen_all : v.seen ≡ r.log = starts_whole r.log v.seen f.seen far in (
        value.0,
        final.4 0 (Some value.0) value.1,
        live.opening ∙ ap Some (sym value.2),
        value.3 ∙ sym seen_all,
        λ p. own_all p ∙ ap (λ (l : List E). between p 0 (length l)) (sym seen_all),
        sym final.3 ∙ r.tall,
      )
