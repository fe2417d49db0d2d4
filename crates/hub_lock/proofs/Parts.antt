-- Splitting a seat, joining two, and the load after it keep the rule.
use Rattle.std.proofs.Common.{◌≡◌, ℕ, ◌+◌, ◌<◌, ◌≤◌, List, [], ◌∷◌, ◌++◌, length, get_or, set, sym, refl, ap, ◌∙◌, subst, ⊎_elim, inr, arith}
use mathlib.Core.Option.{some, none}
use lib.ListN.{get_elem?}
use Rattle.atomic_table.specs.Table.{step, keeps, Allows, Splits, Joins}
use Rattle.atomic_table.proofs.Lists.{at_snoc, set_else, set_again}
use Rattle.hub_lock.specs.Merge.{IsMerged}
use Rattle.hub_lock.specs.Places.{total, times, StartsWith}
use Rattle.hub_lock.specs.Stages.{has_ticket, has_turn, has_added}
use Rattle.hub_lock.specs.Rule.{IsUnspent, Fits, Keeps, Orderly}
use Rattle.hub_lock.specs.Steps.{Pass, left_with, parted, joined, spent, checked}
use Rattle.hub_lock.specs.declared.view.View.{View}
use Rattle.hub_lock.specs.declared.view.Stage.TheVariants.{Outside}
use Rattle.hub_lock.proofs.Sums.{total-append, total-set, term_le, terms_le, between_le}
use Rattle.hub_lock.proofs.Entries.{times-both, picked-merge, starts_none, starts_both, longer_cases, shorter_cases}
use Rattle.hub_lock.proofs.Stages.{serves_none}
use Rattle.hub_lock.proofs.Table.{Base, whole, unspent, each_set, rule_none, spent_fits, unmoved}

module _ {T O E : Type 0} {opens : T → O} {journal : T → List E} {rule : List E → Type 0} {o : O} where
  -- a part for a new seat
  pub splits : (empty : rule []) (id : ℕ) (v : View O E) → 2 ≤ v.parts → Splits (Orderly opens journal rule o) id v (left_with v) (parted v)
  splits empty id v many s r at =
      let k = r.kept in
      let f = k.each_seat id v at in
      let u = unspent k id v at (omega arith) in
      let serving : ℕ = get_or s.words 2 0 in
      let w : View O E = left_with v in
      let n : View O E = parted v in
      let views : List (View O E) = set s.views id w in
      let sums : (g : View O E → ℕ) → total g (views ++ n ∷ []) + g v ≡ total g s.views + g w + g n = λ g. omega (arith, total-append g views (n ∷ []), total-set g s.views id v w at) in
      let kind_w : IsUnspent o w = record { opening = u.opening; part = omega arith } in
      let kind_n : IsUnspent o n = record { opening = u.opening; part = omega arith } in
      let fits_w : Fits rule o r.log serving w = record { kind = inr kind_w; seen = f.seen; own = f.own; serves = f.serves; ruled = f.ruled; told = f.told } in
      let fits_n : Fits rule o r.log serving n = record { kind = inr kind_n; seen = f.seen; own = λ p _. refl; serves = tt; ruled = rule_none rule empty r.log; told = starts_none r.log } in
      let base : Base opens journal rule o r.log (get_or s.words 0 0) (get_or s.words 1 0) serving s.homes (views ++ n ∷ []) = record {
        counted = k.counted;
        tickets = λ t. omega (arith, sums (λ u. has_ticket t u.stage), k.tickets t);
        small = k.small;
        home = λ z. k.home (omega (arith, sums (λ u. has_turn u.stage)));
        out = λ z. k.out (omega (arith, sums (λ u. has_turn u.stage)));
        behind = omega (arith, sums (λ u. has_added u.stage), k.behind);
        owned = λ p. omega (arith, sums (λ u. times p u.own), k.owned p);
        parts = omega (arith, sums (λ u. u.parts), k.parts);
        each_seat = λ j x e. ⊎_elim
            (λ was. each_set (Fits rule o r.log serving) s.views id w fits_w (λ i y _ q. k.each_seat i y q) j x was)
            (λ (same : n ≡ x). subst (Fits rule o r.log serving) same fits_n)
            (at_snoc views n x j e);
      } in
      record { log = r.log; wide = r.wide; tall = r.tall; kept = whole base }

  -- two seats made one
  pub joins : (empty : rule []) (merged : (zs xs ys : List E) → IsMerged zs xs ys → rule xs → rule ys → rule zs) (id : ℕ) (v : View O E) (other : ℕ) (u : View O E) → v.stage ≡ Outside → u.stage ≡ Outside → 0 < v.parts
      → Joins (Orderly opens journal rule o) id v other u (joined v u) spent
  joins empty merged id v other u v_out u_out part s r at apart there =
      let k = r.kept in
      let f = k.each_seat id v at in
      let was : get_elem? s.views other ≡ some u = sym (set_else s.views id other (joined v u) apart) ∙ there in
      let g = k.each_seat other u was in
      let live = unspent k id v at part in
      let serving : ℕ = get_or s.words 2 0 in
      let w : View O E = joined v u in
      let views : List (View O E) = set s.views id w in
      let both : (h : View O E → ℕ) → total h (set views other spent) + h u + h v ≡ total h s.views + h w + h spent = λ h. omega (arith, total-set h s.views id v w at, total-set h views other u spent there) in
      let places : (p : ℕ) → times p w.own ≡ times p v.own + times p u.own = λ p. times-both p v.own u.own in
      let once : (p : ℕ) → times p v.own + times p u.own ≤ 1 = λ p. omega (arith, terms_le (λ x. times p x.own) s.views id other v u apart at was, k.owned p, between_le p 0 (length r.log)) in
      let kind : IsUnspent o w = record { opening = live.opening; part = omega arith } in
      let fits : Fits rule o r.log serving w = record {
        kind = inr kind;
        seen = longer_cases (StartsWith r.log) v.seen u.seen (λ _. f.seen) (λ _. g.seen);
        own = λ p. longer_cases (λ l. length l ≤ p → times p w.own ≡ 0) v.seen u.seen
            (λ h l. omega (arith, places p, f.own p l, g.own p (omega arith)))
            (λ h l. omega (arith, places p, f.own p (omega arith), g.own p l));
        serves = serves_none r.log serving w.seen v.stage (ap has_turn v_out);
        ruled = merged _ _ _ (picked-merge (λ p. times p v.own) (λ p. times p u.own) (λ p. times p w.own) 0 r.log places once) f.ruled g.ruled;
        told = shorter_cases (StartsWith r.log) v.seen u.seen (λ _. g.seen) (λ _. f.seen);
      } in
      let base : Base opens journal rule o r.log (get_or s.words 0 0) (get_or s.words 1 0) serving s.homes (set views other spent) = record {
        counted = k.counted;
        tickets = λ t. omega (arith, both (λ x. has_ticket t x.stage), k.tickets t, ap (has_ticket t) u_out);
        small = k.small;
        home = λ z. k.home (omega (arith, both (λ x. has_turn x.stage), ap has_turn u_out));
        out = λ z. k.out (omega (arith, both (λ x. has_turn x.stage), ap has_turn u_out));
        behind = omega (arith, both (λ x. has_added x.stage), k.behind, ap has_added u_out);
        owned = λ p. omega (arith, both (λ x. times p x.own), k.owned p, places p);
        parts = omega (arith, both (λ x. x.parts), k.parts);
        each_seat = each_set (Fits rule o r.log serving) views other spent (spent_fits rule empty o r.log serving) (λ j x _ e. each_set (Fits rule o r.log serving) s.views id w fits (λ i y _ q. k.each_seat i y q) j x e);
      } in
      record { log = r.log; wide = r.wide; tall = r.tall; kept = whole base }

  -- the load of word 0, which changes nothing
  pub checks : (slots id : ℕ) (me : Pass T O E) → Allows (Orderly opens journal rule o) slots id me 0 (λ n. n) (checked (step slots 0 0 0 none) me)
  checks slots id me s r tall at small =
      let k = r.kept in
      let f = k.each_seat id me.0 at in
      let kept = unmoved s r 0 s.homes (set s.views id me.0) r.tall (subst (Keeps opens journal rule o r.log _ _ _ s.homes) (sym (set_again s.views id me.0 at)) k) in
      let once = λ (p : ℕ). term_le (λ u. times p u.own) s.views id me.0 at in
      (me.0, keeps, tt, kept, (refl, (λ le. starts_both r.log me.0.seen me.0.told f.seen f.told le), λ p. omega (arith, once p, k.owned p, between_le p 0 (length r.log))))
