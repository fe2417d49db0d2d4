-- The states before the words of a block, one after the other.
use Rattle.std.proofs.Common.{◌≡◌, ℕ, suc, ◌<◌, List, [], ◌∷◌, ◌++◌, slice_index, refl, sym, ◌∙◌, ap, subst, arith, inl, inr}
use Rattle.std.proofs.lemmas.Bool.{cases_lt}
use Rattle.std.proofs.lemmas.List.Concat.{flat_map-append}
use Rattle.probe_tools.specs.declared.tool.Tool.{Tool}
use Rattle.probe_tools.specs.declared.event.Event.{Event}
use Rattle.plain_machine.specs.declared.cpu.Cpu.{Cpu}
use Rattle.plain_machine.specs.declared.cpu.Done.{Done}
use Rattle.plain_machine.specs.Memory.{Memory}
use Rattle.plain_machine.specs.Step.{step}
use Rattle.plain_machine.specs.Machine.{State}
use Rattle.plain_machine.specs.Events.{events, seen}
use Rattle.engine.specs.Words.{state_at, state_after, done_at, is_first, marks_before}

pub state-first : (words : List ℕ) (s : State) → state_at words s 0 ≡ s
unfolding state_at
state-first words s = refl

pub state-more : (words : List ℕ) (s : State) (i : ℕ) → state_at words s (suc i) ≡ state_after (state_at words s i) (slice_index words i)
unfolding state_at
state-more words s i = refl

pub marks-none : (words : List ℕ) (s : State) → marks_before words s 0 ≡ []
unfolding marks_before
marks-none words s = refl

pub marks-more : (words : List ℕ) (s : State) (i : ℕ) → marks_before words s (suc i) ≡ marks_before words s i ++ (state_at words s i, is_first i) ∷ []
unfolding marks_before
marks-more words s i = refl

-- the state that the word at i leaves
pub state-through : (words : List ℕ) (s now : State) (i word : ℕ) (d : Done) (c : Cpu) (m : Memory) → now ≡ state_at words s i → word ≡ slice_index words i →
    (d, c, m) ≡ step word now.cpu now.memory → record now { cpu = c; memory = m } ≡ state_at words s (suc i)
state-through words s now i word d c m at is did =
    ap (λ o. record now { cpu = o.1; memory = o.2 }) did
    ∙ ap (state_after now) is
    ∙ ap (λ x. state_after x (slice_index words i)) at
    ∙ sym (state-more words s i)

-- what it did
pub done-through : (words : List ℕ) (s now : State) (i word : ℕ) (d : Done) (c : Cpu) (m : Memory) → now ≡ state_at words s i → word ≡ slice_index words i →
    (d, c, m) ≡ step word now.cpu now.memory → done_at words s i ≡ d
done-through words s now i word d c m at is did =
    ap (λ x. (step (slice_index words i) x.cpu x.memory).0) (sym at) ∙ ap (λ x. (step x now.cpu now.memory).0) (sym is) ∙ ap (λ o. o.0) (sym did)

-- what holds of all words before holds of those up to this one
pub up-to : (P : ℕ → Type 0) (i : ℕ) → ((k : ℕ) → k < i → P k) → P i → (k : ℕ) → k < suc i → P k
up-to P i before here k lt = elim (cases_lt k i) [
  | inl less ↦ before k less
  | inr not_less ↦ let same : i ≡ k = omega arith in subst P same here
]

-- the events of one word more
pub events-more : (tool : Tool) (words : List ℕ) (s : State) (i : ℕ) →
    events tool (marks_before words s (suc i)) ≡ events tool (marks_before words s i) ++ seen tool (state_at words s i, is_first i)
events-more tool words s i =
    ap (events tool) (marks-more words s i)
    ∙ flat_map-append (seen tool) (marks_before words s i) ((state_at words s i, is_first i) ∷ [])
    ∙ ap (λ es. events tool (marks_before words s i) ++ es) (append_none (seen tool (state_at words s i, is_first i)))
  where
    append_none : (xs : List Event) → xs ++ [] ≡ xs
    append_none [] = refl
    append_none (x ∷ xs) = ap (λ ys. x ∷ ys) (append_none xs)
