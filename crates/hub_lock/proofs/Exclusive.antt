-- In a state that meets the rule, at most one seat has the turn, and no two have the same ticket.
use Rattle.std.proofs.Common.{◌≡◌, ℕ, ◌+◌, ◌≤◌, ◌≢◌, List, sym, ◌∙◌, arith, get_or, Some}
use Rattle.std.specs.Prelude.{Option}
use mathlib.Core.Logic.{dite}
use mathlib.Core.Option.{some, none, some-injective, some-ne-none}
use native.Mathlib.Decide.{ℕ_discrete}
use lib.ListN.{get_elem?}
use Rattle.atomic_table.specs.Table.{State}
use Rattle.hub_lock.specs.Stages.{has_ticket, has_turn}
use Rattle.hub_lock.specs.Rule.{turn_count, Orderly}
use Rattle.hub_lock.specs.Laws.{IsExclusive}
use Rattle.hub_lock.specs.declared.view.View.{View}
use Rattle.hub_lock.proofs.Sums.{terms_le, between_le}

module _ {T O E : Type 0} {opens : T → O} {journal : T → List E} {rule : List E → Type 0} {o : O} where
  pub exclusive : (s : State (Option T) (View O E)) → Orderly opens journal rule o s → IsExclusive s
  exclusive s r =
      let k = r.kept in
      let same : (f : View O E → ℕ) (n : ℕ) → n ≤ 1 → ((j i : ℕ) (v u : View O E) → i ≢ j → get_elem? s.views j ≡ some v → get_elem? s.views i ≡ some u → f v + f u ≤ n)
      → (j i : ℕ) (v u : View O E) → get_elem? s.views j ≡ some v → get_elem? s.views i ≡ some u → f v ≡ 1 → f u ≡ 1 → j ≡ i =
      λ f n le two j i v u at there a b. dite (ℕ_discrete i j) (λ e. sym e) (λ apart. absurd (let both = two j i v u apart at there in omega (arith, le, both, a, b))) in
      record {
        out = λ away. dite (ℕ_discrete (turn_count s.views) 0)
            (λ zero. let home = k.home zero in absurd (some-ne-none (Some home.0) (sym (some-injective none (some (Some home.0)) (sym away ∙ home.1)))))
            (λ more. let le = k.one_turn in omega (arith, le, more));
        held = k.out;
        one_turn = same (λ v. has_turn v.stage) (turn_count s.views) k.one_turn (λ j i v u apart at there. terms_le (λ w. has_turn w.stage) s.views j i v u apart at there);
        one_ticket = λ t. same (λ v. has_ticket t v.stage) 1 (omega arith) (λ j i v u apart at there.
            let two = terms_le (λ w. has_ticket t w.stage) s.views j i v u apart at there in
            omega (arith, two, k.tickets t, between_le t (get_or s.words 2 0) (get_or s.words 1 0)));
      }
