-- What follows from the rule of the table, of all seats and of one.
use Rattle.std.proofs.Common.{◌≡◌, ℕ, ◌+◌, ◌<◌, ◌≤◌, ◌≢◌, List, [], ◌∷◌, length, get_or, set, sym, refl, ap, ◌∙◌, subst, ⊎_elim, inl, inr, arith, le_refl, length-set}
use Rattle.std.specs.Prelude.{Option}
use mathlib.Core.Logic.{dite}
use mathlib.Core.Option.{some}
use mathlib.Core.Option as maybe
use native.Mathlib.Decide.{dec_le}
use lib.ListN.{get_elem?}
use lib.Seq.{set-get_or}
use Rattle.atomic_table.specs.Table.{State}
use Rattle.atomic_table.proofs.Lists.{at_set}
use Rattle.hub_lock.specs.Places.{all_parts, times, between, mine}
use Rattle.hub_lock.specs.Stages.{has_ticket, has_turn, has_added, Serves}
use Rattle.hub_lock.specs.Rule.{ticket_count, turn_count, added_count, own_count, part_count, IsSpent, IsUnspent, Fits, IsSeen, IsHome, IsOut, Keeps, Orderly}
use Rattle.hub_lock.specs.Steps.{staged, spent}
use Rattle.hub_lock.specs.declared.view.View.{View}
use Rattle.hub_lock.specs.declared.view.Stage.{Stage}
use Rattle.hub_lock.specs.declared.view.Stage.TheVariants.{Outside}
use Rattle.hub_lock.proofs.Sums.{total-set, total_le, term_le, terms_le, some_term, between-in, between-high, between_le}
use Rattle.hub_lock.proofs.Entries.{starts_whole, starts_none, picked-none}
use Rattle.hub_lock.proofs.Stages.{added_le_turn, turn_le_ticket, serves_none}

-- a fact of each seat, where one view becomes w
pub each_set : {V : Type 0} (F : V → Type 0) (vs : List V) (id : ℕ) (w : V) → F w → ((j : ℕ) (u : V) → j ≢ id → get_elem? vs j ≡ some u → F u) → (j : ℕ) (u : V) → get_elem? (set vs id w) j ≡ some u → F u
each_set F vs id w own rest j u e = ⊎_elim (λ (t : (j ≡ id) × (w ≡ u)). subst F t.1 own) (λ (t : (j ≢ id) × (get_elem? vs j ≡ some u)). rest j u t.0 t.1) (at_set vs id j w u e)

-- the clauses of the rule from which the others follow
pub record Base {T O E : Type 0} (opens : T → O) (journal : T → List E) (rule : List E → Type 0) (o : O) (log : List E) (count next serving : ℕ) (homes : List (maybe.Option (Option T))) (views : List (View O E)) : Type 0 where
  pub counted : count ≡ length log
  pub tickets : (t : ℕ) → ticket_count t views ≡ between t serving next
  pub small : (serving ≤ next) × (next < 18446744073709551616)
  pub home : turn_count views ≡ 0 → IsHome opens journal o log homes
  pub out : turn_count views ≡ 1 → IsOut homes
  pub behind : count ≤ serving + added_count views
  pub owned : (p : ℕ) → own_count p views ≡ between p 0 (length log)
  pub parts : part_count views ≡ all_parts
  pub each_seat : (j : ℕ) (v : View O E) → get_elem? views j ≡ some v → Fits rule o log serving v

module _ {O E : Type 0} (rule : List E → Type 0) (o : O) where
  -- the seat that owns the last place has seen the whole journal
  longest_of : (log : List E) (serving : ℕ) (views : List (View O E)) → ((p : ℕ) → own_count p views ≡ between p 0 (length log)) → part_count views ≡ all_parts
      → ((j : ℕ) (v : View O E) → get_elem? views j ≡ some v → Fits rule o log serving v) → IsSeen log views
  longest_of [] serving views owned parts each =
      let t = some_term (λ v. v.parts) views (omega arith) in
      let f = each t.0 t.1 t.2 in
      (t.0, t.1, t.2, starts_whole [] t.1.seen f.seen (omega arith))
  longest_of (e ∷ es) serving views owned parts each =
      let p : ℕ = length es in
      let one : between p 0 (length (e ∷ es)) ≡ 1 = between-in p 0 (length (e ∷ es)) (omega arith) (omega arith) in
      let t = some_term (λ v. times p v.own) views (omega (arith, owned p, one)) in
      let f = each t.0 t.1 t.2 in
      let far : length (e ∷ es) ≤ length t.1.seen = dite (dec_le (length (e ∷ es)) (length t.1.seen)) (λ y. y) (λ n. absurd (omega (arith, t.3, f.own p (omega arith)))) in
      (t.0, t.1, t.2, starts_whole (e ∷ es) t.1.seen f.seen far)

module _ {T O E : Type 0} {opens : T → O} {journal : T → List E} {rule : List E → Type 0} {o : O} {log : List E} {count next serving : ℕ} {homes : List (maybe.Option (Option T))} {views : List (View O E)} where
  pub whole : Base opens journal rule o log count next serving homes views → Keeps opens journal rule o log count next serving homes views
  whole b =
      let turns : turn_count views ≤ ticket_count serving views = total_le (λ v. has_turn v.stage) (λ v. has_ticket serving v.stage) views (λ j v e. turn_le_ticket log serving v.seen v.stage (b.each_seat j v e).serves) in
      let added : added_count views ≤ turn_count views = total_le (λ v. has_added v.stage) (λ v. has_turn v.stage) views (λ j v e. added_le_turn v.stage) in
      let one_turn : turn_count views ≤ 1 = omega (arith, turns, b.tickets serving, between_le serving serving next) in
      record {
        counted = b.counted;
        longest = longest_of rule o log serving views b.owned b.parts b.each_seat;
        tickets = b.tickets;
        small = b.small;
        one_turn = one_turn;
        home = b.home;
        out = b.out;
        behind = b.behind;
        one_added = omega (arith, added, one_turn);
        owned = b.owned;
        parts = b.parts;
        each_seat = b.each_seat;
      }

  -- one seat, and what the rule says of it and of the others
  module _ (k : Keeps opens journal rule o log count next serving homes views) (id : ℕ) (v : View O E) (at : get_elem? views id ≡ some v) where
    pub unspent : 0 < v.parts → IsUnspent o v
    unspent part = ⊎_elim (λ (s : IsSpent v). absurd (omega (arith, s.no_part))) (λ (u : IsUnspent o v). u) ((k.each_seat id v at).kind)

    pub unspent_inside : v.stage ≢ Outside → IsUnspent o v
    unspent_inside inside = ⊎_elim (λ (s : IsSpent v). absurd (inside s.no_ticket)) (λ (u : IsUnspent o v). u) ((k.each_seat id v at).kind)

    module _ (served : has_ticket serving v.stage ≡ 1) where
      -- where the seat has the served ticket, no other has the turn
      pub others_out : (j : ℕ) (u : View O E) → j ≢ id → get_elem? views j ≡ some u → has_turn u.stage ≡ 0
      others_out j u apart e =
          let two = terms_le (λ u. has_ticket serving u.stage) views id j v u apart at e in
          let le = turn_le_ticket log serving u.seen u.stage ((k.each_seat j u e).serves) in
          omega (arith, two, le, k.tickets serving, between_le serving serving next)

      pub turns_out : turn_count views ≡ has_turn v.stage
      turns_out =
          let turn : View O E → ℕ = λ u. has_turn u.stage in
          let ticket : View O E → ℕ = λ u. has_ticket serving u.stage in
          let w : View O E = staged v Outside in
          let le = total_le turn ticket (set views id w) (each_set (λ u. has_turn u.stage ≤ has_ticket serving u.stage) views id w (le_refl 0) (λ j u _ e. turn_le_ticket log serving u.seen u.stage ((k.each_seat j u e).serves))) in
          omega (arith, le, total-set turn views id v w at, total-set ticket views id v w at, k.tickets serving, between_le serving serving next)

      -- a ticket that is served is not the next one
      pub served_next : serving < next
      served_next = dite (dec_le next serving)
          (λ y. absurd (omega (arith, term_le (λ u. has_ticket serving u.stage) views id v at, k.tickets serving, between-high serving serving next y)))
          (λ y. omega arith)

module _ {O E : Type 0} {rule : List E → Type 0} {o : O} {log : List E} {serving : ℕ} where
  -- the same seat at another stage
  pub restaged : (v : View O E) (now : ℕ) (st : Stage) → Fits rule o log serving v → IsUnspent o v → Serves log now v.seen st → Fits rule o log now (staged v st)
  restaged v now st f u serves =
      let kind : IsUnspent o (staged v st) = record { opening = u.opening; part = u.part } in
      record { kind = inr kind; seen = f.seen; own = f.own; serves = serves; ruled = f.ruled; told = f.told }

  -- a seat that has not the turn, while another ticket is served
  pub passed_by : (u : View O E) (now : ℕ) → Fits rule o log serving u → has_turn u.stage ≡ 0 → Fits rule o log now u
  passed_by u now f out = record { kind = f.kind; seen = f.seen; own = f.own; serves = serves_none log now u.seen u.stage out; ruled = f.ruled; told = f.told }

-- a seat that owns nothing meets the rule, and so a spent seat fits
pub rule_none : {E : Type 0} (rule : List E → Type 0) → rule [] → (log : List E) → rule (mine log [])
rule_none rule empty log = subst rule (sym (picked-none 0 log)) empty

pub spent_fits : {O E : Type 0} (rule : List E → Type 0) → rule [] → (o : O) (log : List E) (serving : ℕ) → Fits rule o log serving spent
spent_fits {O} {E} rule empty o log serving =
    let kind : IsSpent {O = O} {E = E} spent = record { no_opening = refl; no_place = refl; no_part = refl; no_ticket = refl } in
    record { kind = inl kind; seen = starts_none log; own = λ p _. refl; serves = tt; ruled = rule_none rule empty log; told = starts_none log }

module _ {T O E : Type 0} {opens : T → O} {journal : T → List E} {rule : List E → Type 0} {o : O} where
  -- the word i becomes n
  pub placed : (s : State (Option T) (View O E)) → Orderly opens journal rule o s → (i n : ℕ) (log : List E) (homes : List (maybe.Option (Option T))) (views : List (View O E)) (count next serving : ℕ) → length homes ≡ 1
      → get_or (set s.words i n) 0 0 ≡ count → get_or (set s.words i n) 1 0 ≡ next → get_or (set s.words i n) 2 0 ≡ serving → Keeps opens journal rule o log count next serving homes views
      → Orderly opens journal rule o record { words = set s.words i n; homes = homes; views = views }
  placed s r i n log homes views count next serving tall zeroth first second k = record {
    log = log;
    wide = length-set s.words i n ∙ r.wide;
    tall = tall;
    kept = subst (λ (z : ℕ × ℕ × ℕ). Keeps opens journal rule o log z.0 z.1 z.2 homes views) (λ j. (sym zeroth j, sym first j, sym second j)) k;
  }

  -- the word i is only read
  pub unmoved : (s : State (Option T) (View O E)) (r : Orderly opens journal rule o s) (i : ℕ) (homes : List (maybe.Option (Option T))) (views : List (View O E)) → length homes ≡ 1
      → Keeps opens journal rule o r.log (get_or s.words 0 0) (get_or s.words 1 0) (get_or s.words 2 0) homes views → Orderly opens journal rule o record { words = set s.words i (get_or s.words i 0); homes = homes; views = views }
  unmoved s r i homes views tall k =
      let same = set-get_or s.words i 0 in
      let word = λ (j : ℕ). ap (λ (l : List ℕ). get_or l j 0) same in
      placed s r i (get_or s.words i 0) r.log homes views _ _ _ tall (word 0) (word 1) (word 2) k
