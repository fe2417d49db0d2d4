-- Blocks one after the other.
use Rattle.std.proofs.Common.{◌≡◌, ◌<◌, ◌⊎◌, arith, ℕ, Bool, List, [], ◌∷◌, ◌++◌, Option, Some, None, refl, sym, ◌∙◌, ap, subst, inl, inr, append_assoc}
use Rattle.std.proofs.lemmas.List.{append-nil, length-append}
use Rattle.std.proofs.lemmas.List.Concat.{flat_map-append}
use Rattle.plain_machine.specs.Machine.{State, Setting}
use Rattle.plain_machine.specs.Cut.{Marked, with_marks}
use Rattle.plain_machine.specs.Events.{events, seen}
use Rattle.engine.specs.Seeing.{with_events}
use Rattle.engine.proofs.Counting.{events-counted}
use Rattle.block_build.specs.Making.{Taken}
use Rattle.block_ledger.specs.Requests.{Asking}
use Rattle.block_ledger.specs.Traced.{Scheme, Trace, traced, after}
use Rattle.guest_proc.specs.declared.stop.Stop.{Stop}
use Rattle.guest_proc.specs.declared.stop.Stop.TheVariants as stop
use Rattle.guest_proc.specs.Begun.{AreMade}
use Rattle.guest_proc.specs.Kept.{Keeps}
use Rattle.guest_proc.specs.Process.{Advances, CameToWant, GoesOn, Process, RanOn, RanOne, RanThrough, StopsIn, Through, WantsMemory, Went, nothing, stop_of, trace}

traced_append : (w : Setting) (scheme : Scheme) (xs ys : List (State × Bool)) (t : Trace) → traced w scheme (xs ++ ys) t ≡ traced w scheme ys (traced w scheme xs t)
traced_append w scheme [] ys t = refl
traced_append w scheme (x ∷ xs) ys t = traced_append w scheme xs ys (after w scheme x t)

with_more : (xs ys : List (State × Bool)) (v : Marked) → with_marks xs (with_marks ys v) ≡ with_marks (xs ++ ys) v
with_more xs ys v = ap (λ zs. record v { marks = zs }) (sym (append_assoc xs ys v.marks))

-- what was run up to mid, and what is run from there
pub went-both : (scheme : Scheme) (made more : List Asking) (old mid new : Process) (change : Setting → Trace → Trace) (behind : Setting → List ℕ → Marked) →
    GoesOn scheme made old mid → Went scheme more mid new change behind → Went scheme (made ++ more) old new change behind
went-both scheme made more old mid new change behind a b = record {
  marks = a.marks ++ b.marks;
  seen = λ w answers. a.seen w answers ∙ ap (with_marks a.marks) (b.seen w answers) ∙ with_more a.marks b.marks (behind w answers);
  counted = events-counted (events scheme.tool a.marks) (events scheme.tool b.marks) old.report mid.report new.report a.counted b.counted
      ∙ ap (λ es. with_events es old.report) (sym (flat_map-append (seen scheme.tool) a.marks b.marks));
  ledger = λ w maps units requests.
      traced_append w scheme a.marks b.marks (trace old.ledger maps units requests)
      ∙ ap (traced w scheme b.marks) (a.ledger w maps units requests)
      ∙ b.ledger w maps units (requests ++ made)
      ∙ ap (λ rs. change w (trace new.ledger maps units rs)) (append_assoc requests made more);
}

pub no-blocks : (scheme : Scheme) (p : Process) → GoesOn scheme [] p p
no-blocks scheme p = record { marks = []; seen = λ w answers. refl; counted = refl; ledger = λ w maps units requests. ap (trace p.ledger maps units) (sym (append-nil requests)) }

pub stops-both : (scheme : Scheme) (made more : List Asking) (old mid new : Process) (s : Stop) → GoesOn scheme made old mid → StopsIn scheme more mid new s → StopsIn scheme (made ++ more) old new s
stops-both scheme made more old mid new (stop.Ended end) a b = went-both scheme made more old mid new nothing _ a b
stops-both scheme made more old mid new (stop.Map k) a b = went-both scheme made more old mid new _ _ a b
stops-both scheme made more old mid new (stop.Unmap k) a b = went-both scheme made more old mid new _ _ a b
stops-both scheme made more old mid new (stop.Replace k f) a b = went-both scheme made more old mid new _ _ a b
stops-both scheme made more old mid new stop.PoolFull a b = absurd b

-- the stop that is told behind one block
pub one-then : (scheme : Scheme) (old new : Process) (s : Option Stop) → Advances scheme old new None → s ≡ stop_of scheme.pool new → RanOne scheme old new s
one-then scheme old new None a is = (a.0, a.1, sym is)
one-then scheme old new (Some s) a is = inr (a.0, inl (a.1, sym is))

-- and before it or in it
pub one-stops : (scheme : Scheme) (old new : Process) (s : Stop) → Advances scheme old new (Some s) → RanOne scheme old new (Some s)
one-stops scheme old new s (inl before) = inl before
one-stops scheme old new s (inr within) = inr (within.0, inr within.1)

-- ---- what a loop of blocks keeps

pub record WentOn (scheme : Scheme) (old new : Process) : Type 0 where
  pub blocks : List Process
  pub through : Through scheme old blocks new

pub start-on : (scheme : Scheme) (p : Process) → WentOn scheme p p
start-on scheme p = record { blocks = []; through = refl }

through-more : (scheme : Scheme) (old mid new : Process) (ps : List Process) → Through scheme old ps mid → Advances scheme mid new None → Through scheme old (ps ++ new ∷ []) new
through-more scheme old mid new [] same one = (subst (λ p. Advances scheme p new None) same one, refl)
through-more scheme old mid new (p ∷ ps) t one = (t.0, through-more scheme p mid new ps t.1 one)

-- one more block
pub one-more-on : (scheme : Scheme) (old mid new : Process) → WentOn scheme old mid → Advances scheme mid new None → WentOn scheme old new
one-more-on scheme old mid new a b = record { blocks = a.blocks ++ new ∷ []; through = through-more scheme old mid new a.blocks a.through b }

-- and the stop
pub stop-on : (scheme : Scheme) (old mid new : Process) (s : Stop) → WentOn scheme old mid → Advances scheme mid new (Some s) → RanThrough scheme old new s
stop-on scheme old mid new s a b = record { blocks = a.blocks; last = mid; through = a.through; stops = b }

pub came-to-want : (scheme : Scheme) (old mid : Process) → WentOn scheme old mid → WantsMemory scheme mid → CameToWant scheme old
came-to-want scheme old mid a wants = record { blocks = a.blocks; reached = mid; through = a.through; wants = wants }

-- ---- how far blocks one after the other come

record Reaches (scheme : Scheme) (old new : Process) : Type 0 where
  goes : GoesOn scheme [] old new
  spends : (new ≡ old) ⊎ (new.fuel < old.fuel)

less_fuel : (old mid new : Process) → mid.fuel < old.fuel → (new ≡ mid) ⊎ (new.fuel < mid.fuel) → new.fuel < old.fuel
less_fuel old mid new less (inl same) = subst (λ (p : Process). p.fuel < old.fuel) (sym same) less
less_fuel old mid new less (inr more) = omega (arith, less, more)

reaches-through : (scheme : Scheme) (old new : Process) (ps : List Process) → Through scheme old ps new → Reaches scheme old new
reaches-through scheme old new [] same = record { goes = subst (λ p. GoesOn scheme [] old p) (sym same) (no-blocks scheme old); spends = inl same }
reaches-through scheme old new (p ∷ ps) t =
    let rest = reaches-through scheme p new ps t.1 in
    record { goes = went-both scheme [] [] old p new nothing _ t.0.1 rest.goes; spends = inr (less_fuel old p new t.0.0.less rest.spends) }

stops-behind : (scheme : Scheme) (old mid new : Process) (s : Stop) → Reaches scheme old mid → Advances scheme mid new (Some s) → RanOn scheme [] old new s
stops-behind scheme old mid new s a (inl before) =
    let there = subst (λ p. Reaches scheme old p) (sym before.0) a in
    record {
      comes = inl (there.goes, ap (stop_of scheme.pool) before.0 ∙ before.1);
      spends = elim there.spends [
        | inl same ↦ inl (same, ap (stop_of scheme.pool) (sym same ∙ before.0) ∙ before.1)
        | inr less ↦ inr less
      ];
    }
stops-behind scheme old mid new s a (inr within) = record {
  comes = inr (stops-both scheme [] [] old mid new s a.goes within.1);
  spends = inr (elim a.spends [
    | inl same ↦ subst (λ (p : Process). new.fuel < p.fuel) same within.0.less
    | inr less ↦ omega (arith, less, within.0.less)
  ]);
}

-- they are a run up to the stop
pub ran-on : (scheme : Scheme) (old new : Process) (s : Stop) → RanThrough scheme old new s → RanOn scheme [] old new s
ran-on scheme old new s ran = stops-behind scheme old ran.last new s (reaches-through scheme old ran.last ran.blocks ran.through) ran.stops

pub keeps-all : (p : Process) → Keeps p p
keeps-all p = record { images = λ i. refl; mapped = refl; isa = refl; stand = λ x kind s. s }

pub keeps-both : (old mid new : Process) → Keeps old mid → Keeps mid new → Keeps old new
keeps-both old mid new a b = record { images = λ i. b.images i ∙ a.images i; mapped = b.mapped ∙ a.mapped; isa = b.isa ∙ a.isa; stand = λ x kind s. b.stand x kind (a.stand x kind s) }

pub made-none : (built steps : ℕ) (taken : Taken) → AreMade built built steps steps taken taken
made-none built steps taken = record { later = omega arith; more = []; took = sym (append-nil taken); sum = omega arith }

pub made-both : (built mid after steps between now : ℕ) (taken some last : Taken) → AreMade built mid steps between taken some → AreMade mid after between now some last → AreMade built after steps now taken last
made-both built mid after steps between now taken some last a b = record {
  later = omega (arith, a.later, b.later);
  more = a.more ++ b.more;
  took = b.took ∙ ap (λ xs. xs ++ b.more) a.took ∙ append_assoc taken a.more b.more;
  sum = omega (arith, a.sum, b.sum, length-append a.more b.more);
}
