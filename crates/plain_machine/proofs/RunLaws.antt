-- How a run goes on by one transition, and how its cut does.
use Rattle.std.proofs.Common.{◌≡◌, ℕ, ◌-◌, zero, suc, Bool, true, false, ◌||◌, ◌==◌, if◌then◌else◌, List, [], ◌∷◌, ◌++◌, Option, None, refl, ◌∙◌, ap, sym, append_assoc}
use Rattle.plain_machine.specs.declared.ends.End.{End}
use Rattle.plain_machine.specs.declared.ends.End.TheVariants as ends
use Rattle.plain_machine.specs.declared.ends.Kind.TheVariants as kinds
use Rattle.plain_machine.specs.declared.io.Asked.TheVariants as asked
use Rattle.plain_machine.specs.Region.{Area}
use Rattle.plain_machine.specs.Calls.{Reply}
use Rattle.plain_machine.specs.Machine.{State, Action, Unfetched, Ends, Goes, Maps, Unmaps, Replaces, action, is_done, replied, call, Setting, Transition, To, Final, Stuck, transition, transition_by}
use Rattle.plain_machine.specs.Run.{Run, run, run_behind, ended, stuck, with_state}
use Rattle.plain_machine.specs.Cut.{begins, closes, leaves, place_of, cut, Marked, marked_in, marked, with_marks}

pub run-zero : (w : Setting) (answers : List ℕ) (s : State) → run w 0 answers s ≡ ended s ends.Fuel answers
unfolding run
run-zero w answers s = refl

-- one transition
run-by : (w : Setting) (fuel : ℕ) (answers : List ℕ) (s : State) (t : Transition) → transition w answers s ≡ t →
    run w (suc fuel) answers s ≡ with_state s (run_behind w fuel s t)
unfolding run
run-by w fuel answers s (To next left) is =
    ap (λ t. with_state s (elim t as (λ _. Run) [ To next left ↦ run w fuel left next | Final end left ↦ ended s end left | Stuck ↦ stuck s ])) is
run-by w fuel answers s (Final end left) is =
    ap (λ t. with_state s (elim t as (λ _. Run) [ To next left ↦ run w fuel left next | Final end left ↦ ended s end left | Stuck ↦ stuck s ])) is
run-by w fuel answers s Stuck is =
    ap (λ t. with_state s (elim t as (λ _. Run) [ To next left ↦ run w fuel left next | Final end left ↦ ended s end left | Stuck ↦ stuck s ])) is

pub run-suc : (w : Setting) (fuel : ℕ) (answers : List ℕ) (s : State) →
    run w (suc fuel) answers s ≡ with_state s (run_behind w fuel s (transition w answers s))
run-suc w fuel answers s = run-by w fuel answers s (transition w answers s) refl

-- the run with its state in front
abbrev pub after : State → Run → Run
after s run = record run { states = s ∷ run.states }

-- an instruction is done first
pub run-done : (w : Setting) (fuel : ℕ) (answers : List ℕ) (s : State) (a : Action) → action s ≡ a → is_done a ≡ true →
    run w (suc fuel) answers s ≡ after s (run_behind w fuel s (transition_by w answers s a))
run-done w fuel answers s a is done =
    run-suc w fuel answers s
    ∙ ap (λ b. if is_done b then after s (run_behind w fuel s (transition_by w answers s b)) else run_behind w fuel s (transition_by w answers s b)) is
    ∙ ap (λ b. if b then after s (run_behind w fuel s (transition_by w answers s a)) else run_behind w fuel s (transition_by w answers s a)) done

pub run-goes : (w : Setting) (fuel : ℕ) (answers : List ℕ) (s next : State) → action s ≡ Goes next →
    run w (suc fuel) answers s ≡ after s (run w fuel answers next)
run-goes w fuel answers s next is = run-done w fuel answers s (Goes next) is refl

pub run-ends : (w : Setting) (fuel : ℕ) (answers : List ℕ) (s : State) (end : End) → action s ≡ Ends end →
    run w (suc fuel) answers s ≡ after s (ended s end answers)
run-ends w fuel answers s end is = run-done w fuel answers s (Ends end) is refl

pub run-unfetched : (w : Setting) (fuel : ℕ) (answers : List ℕ) (s : State) → action s ≡ Unfetched →
    run w (suc fuel) answers s ≡ ended s (ends.Fault kinds.Fetch s.cpu.pc) answers
run-unfetched w fuel answers s is =
    run-suc w fuel answers s
    ∙ ap (λ b. if is_done b then after s (run_behind w fuel s (transition_by w answers s b)) else run_behind w fuel s (transition_by w answers s b)) is

-- a call is done, whatever it comes to
replied-done : (s : State) (r : Reply) → is_done (replied s r) ≡ true
replied-done s (asked.Back span, cpu, m, io) = refl
replied-done s (asked.Exit status, cpu, m, io) = refl
replied-done s (asked.Map k, cpu, m, io) = refl
replied-done s (asked.Unmap k, cpu, m, io) = refl
replied-done s (asked.Replace k f, cpu, m, io) = refl
replied-done s (asked.OutputFull, cpu, m, io) = refl

pub run-call : (w : Setting) (fuel : ℕ) (answers : List ℕ) (s : State) → action s ≡ call s →
    run w (suc fuel) answers s ≡ after s (run_behind w fuel s (transition_by w answers s (call s)))
run-call w fuel answers s is = run-done w fuel answers s (call s) is (replied-done s _)

-- ---- its cut

-- s begins a block
pub marked-begins : (max room : ℕ) (place : Option Area) (s : State) (r : Run) → begins room place s ≡ true →
    marked_in max room place (after s r) ≡ with_marks ((s, true) ∷ []) (marked_in max (if closes s then 0 else max - 1) (place_of s) r)
marked-begins max room place s r is = rw is refl

-- s is in the block that is open
pub marked-inside : (max room : ℕ) (place : Option Area) (s : State) (r : Run) → begins room place s ≡ false →
    marked_in max room place (after s r) ≡ with_marks ((s, false) ∷ []) (marked_in max (if closes s then 0 else room - 1) (place_of s) r)
marked-inside max room place s r is = rw is refl

-- where no block is open the region does not matter
cut-closed : (max : ℕ) (place other : Option Area) (states : List State) → cut max 0 place states ≡ cut max 0 other states
cut-closed max place other [] = refl
cut-closed max place other (s ∷ states) = refl

pub marked-closed : (max : ℕ) (place : Option Area) (r : Run) → marked_in max 0 place r ≡ marked max r
marked-closed max place r = ap (λ xs. record { marks = xs; end = r.end; output = r.output; left = r.left }) (cut-closed max place None r.states)

-- an open block is left where the next state is not in its region
or_true : (a : Bool) → (a || true) ≡ true
or_true true = refl
or_true false = refl

left-by-one : (max room : ℕ) (place : Option Area) (s : State) (states : List State) → leaves place s ≡ true →
    cut max room place (s ∷ states) ≡ cut max 0 None (s ∷ states)
left-by-one max room place s states is =
    let begin : begins room place s ≡ true = ap (λ b. (room == 0) || b) is ∙ or_true (room == 0) in
    rw begin refl

-- the states of a run are none, or its first state and others
left-by-choice : (max room : ℕ) (place : Option Area) (s : State) (b : Bool) (r : Run) → leaves place s ≡ true → ((b ≡ false) → r.states ≡ []) →
    cut max room place (if b then after s r else r).states ≡ cut max 0 None (if b then after s r else r).states
left-by-choice max room place s true r is none = left-by-one max room place s r.states is
left-by-choice max room place s false r is none = rw (none refl) refl

none-behind : (w : Setting) (fuel : ℕ) (answers : List ℕ) (s : State) (a : Action) → is_done a ≡ false → (run_behind w fuel s (transition_by w answers s a)).states ≡ []
none-behind w fuel answers s Unfetched not_done = refl
none-behind w fuel answers s (Ends end) not_done = cc
none-behind w fuel answers s (Goes next) not_done = cc
none-behind w fuel answers s (Maps k next) not_done = cc
none-behind w fuel answers s (Unmaps k next) not_done = cc
none-behind w fuel answers s (Replaces k f next) not_done = cc

cut-left : (max room : ℕ) (place : Option Area) (w : Setting) (fuel : ℕ) (answers : List ℕ) (s : State) → leaves place s ≡ true →
    cut max room place (run w fuel answers s).states ≡ cut max 0 None (run w fuel answers s).states
cut-left max room place w zero answers s is = rw (run-zero w answers s) refl
cut-left max room place w (suc fuel) answers s is =
    rw (run-suc w fuel answers s)
    (left-by-choice max room place s (is_done (action s)) (run_behind w fuel s (transition w answers s)) is (none-behind w fuel answers s (action s)))

pub marked-left : (max room : ℕ) (place : Option Area) (w : Setting) (fuel : ℕ) (answers : List ℕ) (s : State) → leaves place s ≡ true →
    marked_in max room place (run w fuel answers s) ≡ marked max (run w fuel answers s)
marked-left max room place w fuel answers s is =
    let r = run w fuel answers s in
    ap (λ xs. record { marks = xs; end = r.end; output = r.output; left = r.left }) (cut-left max room place w fuel answers s is)

-- nothing is done where there is no fuel
pub marked-spent : (max room : ℕ) (place : Option Area) (w : Setting) (answers : List ℕ) (s : State) →
    marked_in max room place (run w 0 answers s) ≡ marked max (run w 0 answers s)
marked-spent max room place w answers s = rw (run-zero w answers s) refl

-- one more behind those
pub with-more : (xs ys : List (State × Bool)) (v : Marked) → with_marks xs (with_marks ys v) ≡ with_marks (xs ++ ys) v
with-more xs ys v = ap (λ zs. record v { marks = zs }) (sym (append_assoc xs ys v.marks))
