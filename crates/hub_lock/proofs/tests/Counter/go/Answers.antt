use Rattle.std.proofs.Common.{◌≡◌, List, ◌+◌, ◌≤◌, [], ◌∷◌, ◌++◌, length, ap, arith, le_refl, Bool, true, false}
use Rattle.hub_lock.specs.Moves.{one_up, one_down, ups, downs}
use Rattle.hub_lock.proofs.Sums.{total-append}
use Rattle.hub_lock.proofs.tests.Counter.go.Goals as goal

-- no more moves go up than there are
few : {E : Type 0} (es : List E) (up : E → Bool) → ups es up ≤ length es
few [] up = le_refl 0
few (e ∷ es) up = omega (arith, one_le (up e), few es up)
  where
    one_le : (b : Bool) → one_up b ≤ 1
    one_le true = le_refl 1
    one_le false = omega arith

-- one move more
ups-push : {E : Type 0} (es ns : List E) (e : E) (up : E → Bool) → ns ≡ es ++ e ∷ [] → ups ns up ≡ ups es up + one_up (up e)
ups-push es ns e up is = omega (arith, ap (λ l. ups l up) is, total-append (λ m. one_up (up m)) es (e ∷ []))

downs-push : {E : Type 0} (es ns : List E) (e : E) (up : E → Bool) → ns ≡ es ++ e ∷ [] → downs ns up ≡ downs es up + one_down (up e)
downs-push es ns e up is = omega (arith, ap (λ l. downs l up) is, total-append (λ m. one_down (up m)) es (e ∷ []))

pub prove-unreachable-requires : goal.prove-unreachable-requires
prove-unreachable-requires c = let below = few c.args.self.now.journal.items (λ m. m.up) in omega (arith, c.args.self.now.counted, below, c.in_ok-push.ensures.len, c.len-moves.ensures, c.if-prove.true)

pub invariant_of-self-then-step : goal.invariant_of-self-then-step
invariant_of-self-then-step c =
    let is = c.in_ok-push.ensures.items in
    let a = ups-push c.args.self.now.journal.items c.push.new.self.items c.args.step (λ m. m.up) is in
    let b = downs-push c.args.self.now.journal.items c.push.new.self.items c.args.step (λ m. m.up) is in
    record { counted = omega (arith, c.args.self.now.counted, a, b, ap one_up c.if-step.true, ap one_down c.if-step.true) }

pub invariant_of-self-else-step : goal.invariant_of-self-else-step
invariant_of-self-else-step c =
    let is = c.in_ok-push.ensures.items in
    let a = ups-push c.args.self.now.journal.items c.push.new.self.items c.args.step (λ m. m.up) is in
    let b = downs-push c.args.self.now.journal.items c.push.new.self.items c.args.step (λ m. m.up) is in
    record { counted = omega (arith, c.args.self.now.counted, c.requires c.if-step.false, a, b, ap one_up c.if-step.false, ap one_down c.if-step.false) }
