-- How far a run has come inside a block.
use Rattle.std.proofs.Common.{◌≡◌, ℕ, ◌+◌, ◌-◌, ◌*◌, ◌%◌, ◌<◌, ◌≤◌, ◌||◌, ◌==◌, zero, suc, Bool, true, false, if◌then◌else◌, List, [], ◌∷◌, ◌++◌, length, slice_index, Option, Some, None, Result, Ok, Err, refl, sym, ◌∙◌, ap, arith, inl, inr, ⊎_elim, subst, ◌⊎◌}
use Rattle.std.specs.Prelude.{find, nat_lt}
use Rattle.std.proofs.lemmas.Bool.{cases_Bool}
use Rattle.std.proofs.lemmas.Bool.Decides.{nat_tests}
use Rattle.std.proofs.lemmas.Option.{same_Some}
use Rattle.cc_base.specs.Image.{Code}
use Rattle.cc_base.specs.Span.{Range}
use Rattle.rv_decode.specs.declared.ins.Isa.{Isa}
use Rattle.rv_decode.specs.Table.{instruction}
use Rattle.probe_tools.specs.declared.tool.Tool.{Tool}
use Rattle.plain_machine.specs.declared.access.Access.{Access}
use Rattle.plain_machine.specs.declared.access.Access.TheVariants.{NotAllowed}
use Rattle.plain_machine.specs.declared.effect.Effect.{Effect}
use Rattle.plain_machine.specs.declared.effect.Effect.TheVariants as effects
use Rattle.plain_machine.specs.declared.cpu.Cpu.{Cpu}
use Rattle.plain_machine.specs.declared.cpu.Done.{Done}
use Rattle.plain_machine.specs.declared.cpu.Done.TheVariants as done
use Rattle.plain_machine.specs.declared.ends.End.{End}
use Rattle.plain_machine.specs.declared.ends.End.TheVariants as ends
use Rattle.plain_machine.specs.Region.{Area, holds, end_of, bytes_at, meets}
use Rattle.plain_machine.specs.Memory.{Memory, IsMemory, code_of, has_code, fetched, number_of, reach, stored, touches_code, size_of}
use Rattle.plain_machine.specs.Step.{Outcome, step, performed, effect_of, store, next}
use Rattle.plain_machine.specs.Machine.{State, Setting, Ends, Goes, action, action_at, stepped, call, transition_by}
use Rattle.plain_machine.specs.Run.{Run, run, run_behind, ended}
use Rattle.plain_machine.specs.Cut.{ends_block, closes, closes_with, touched, begins, leaves, place_of, Marked, marked, marked_in, with_marks, over}
use Rattle.plain_machine.proofs.RunLaws.{after, run-goes, run-ends, run-call, marked-begins, marked-inside, marked-closed, marked-left, marked-spent, with-more}
use Rattle.fragment.specs.declared.Exit.{Exit}
use Rattle.fragment.specs.Parts.{Parts}
use Rattle.fragment.specs.Build.{IsBuilt, word_at, has_word, last}
use Rattle.guest_mem.proofs.MemoryLemmas.{found_ends}
use Rattle.engine.specs.Words.{DoesWords, word_of, state_at, done_at, is_first, marks_before, last_exit, leaving, left_by}
use Rattle.engine.specs.Standing.{SameCode}
use Rattle.engine.specs.Runs.{RunsBlock, onward}
use Rattle.engine.specs.declared.block.Left.{Left}
use Rattle.engine.specs.declared.block.Left.TheVariants as lefts
use Rattle.engine.proofs.KeptCode.{holds-found, found_is, and_left}
use Rattle.engine.proofs.Steps.{GoesOn, goes-on, Keeps, KeepsCode, keeps-code}
use Rattle.engine.proofs.Path.{state-first, marks-none, marks-more, state-through, done-through, up-to}

-- the i words done so far end with one that ends a block
abbrev pub closed : Isa → List ℕ → ℕ → Bool
closed isa words zero = false
closed isa words (suc i) = ends_block (instruction isa (slice_index words i))

-- how many more words the block may take after i of these
abbrev pub room : Isa → ℕ → List ℕ → ℕ → ℕ
room isa max words zero = 0
room isa max words (suc i) = if closed isa words (suc i) then 0 else max - suc i

-- the region of the block, once it has begun
abbrev pub place : Area → ℕ → Option Area
place region zero = None
place region (suc i) = Some region

-- After i words of the block a run from s is a run from now, with this fuel.
pub record Reaches (isa : Isa) (max : ℕ) (region : Area) (block : Parts) (fuel : ℕ) (s : State) (i rest : ℕ) (now : State) : Type 0 where
  pub pc : closed isa block.words i ≡ false → now.cpu.pc ≡ block.address + 4 * i
  pub isa_kept : now.cpu.isa ≡ isa
  pub memory : IsMemory now.memory
  pub here : find (has_code block.address 1) now.memory ≡ Some region
  pub same : SameCode s.memory now.memory
  pub spent : rest + i ≡ fuel
  pub went : (k : ℕ) → k < i → done_at block.words s k ≡ done.Next
  pub there : (k : ℕ) → k < i → word_of (state_at block.words s k) ≡ Ok (slice_index block.words k)
  pub at : now ≡ state_at block.words s i
  pub seen : (w : Setting) (answers : List ℕ) → marked max (run w fuel answers s)
      ≡ with_marks (marks_before block.words s i) (marked_in max (room isa max block.words i) (place region i) (run w rest answers now))

pub reaches-start : (isa : Isa) (max : ℕ) (region : Area) (block : Parts) (fuel : ℕ) (s : State) → s.cpu.pc ≡ block.address → s.cpu.isa ≡ isa → IsMemory s.memory →
    find (has_code block.address 1) s.memory ≡ Some region → Reaches isa max region block fuel s 0 fuel s
reaches-start isa max region block fuel s at same good here = record {
  pc = λ e. omega (arith, at);
  isa_kept = same;
  memory = good;
  here = here;
  same = λ a. refl;
  spent = omega arith;
  went = λ k lt. absurd (omega arith);
  there = λ k lt. absurd (omega arith);
  at = sym (state-first block.words s);
  seen = λ w answers. ap (λ marks. with_marks marks (marked max (run w fuel answers s))) (sym (marks-none block.words s));
}

-- ---- the word at i

-- where the next word is to be fetched
pub record Fetches (isa : Isa) (region : Area) (now : State) (word : ℕ) : Type 0 where
  pub held : holds now.cpu.pc 4 region ≡ true
  pub at : place_of now ≡ Some region
  pub fetch : fetched now.memory now.cpu.pc ≡ Ok word
  pub ends : now.cpu.pc + 4 ≤ end_of region

is_chosen : (b : Bool) (x : ℕ) (word : ℕ) → (if b then Some x else None) ≡ Some word → b ≡ true
is_chosen true x word h = refl
is_chosen false x word h = cc

is_value : (b : Bool) (x : ℕ) (word : ℕ) → (if b then Some x else None) ≡ Some word → x ≡ word
is_value true x word h = same_Some x word h
is_value false x word h = cc

is_lacking : (b : Bool) (x : ℕ) → (if b then Some x else None) ≡ None → b ≡ false
is_lacking true x h = cc
is_lacking false x h = refl

pub inner_open : (code : Code) (isa : Isa) (tool : Tool) (max : ℕ) (block : Parts) (i : ℕ) → IsBuilt code isa tool max block → i < length block.words → closed isa block.words i ≡ false
inner_open code isa tool max block zero built lt = refl
inner_open code isa tool max block (suc i) built lt = built.inner i (omega arith)

held_end : (x : ℕ) (region : Area) → holds x 4 region ≡ true → x + 4 ≤ end_of region
held_end x region h = grind (arith, nat_tests)

fetches-at : (isa : Isa) (region : Area) (address x word : ℕ) (now : State) → now.cpu.pc ≡ x → IsMemory now.memory → find (has_code address 1) now.memory ≡ Some region →
    word_at (code_of region) x ≡ Some word → Fetches isa region now word
fetches-at isa region address x word now pc good here is =
    let held : holds now.cpu.pc 4 region ≡ true = rw pc (is_chosen (has_word (code_of region) x) _ word is) in
    let value : number_of (bytes_at now.cpu.pc 4 region) ≡ word = rw pc (is_value (has_word (code_of region) x) _ word is) in
    let at : place_of now ≡ Some region = holds-found address now.cpu.pc 4 now.memory region good.disjoint (omega arith) here held in
    let runs : region.flags.execute ≡ true = and_left region.flags.execute (meets address 1 region) (found_is (has_code address 1) now.memory region here) in
    let act : Area → ℕ = λ r. number_of (bytes_at now.cpu.pc 4 r) in
    let fetch : fetched now.memory now.cpu.pc ≡ Ok word =
    ap (reach (λ r. r.flags.execute) act) at ∙ ap (λ b. if b then Ok (act region) else Err NotAllowed) runs ∙ ap Ok value in
    record { held = held; at = at; fetch = fetch; ends = held_end now.cpu.pc region held }

pub fetches : (isa : Isa) (tool : Tool) (max : ℕ) (region : Area) (block : Parts) (fuel : ℕ) (s : State) (i rest word : ℕ) (now : State) →
    IsBuilt (code_of region) isa tool max block → i < length block.words → word ≡ slice_index block.words i →
    Reaches isa max region block fuel s i rest now → Fetches isa region now word
fetches isa tool max region block fuel s i rest word now built lt is reach =
    fetches-at isa region block.address (block.address + 4 * i) word now (reach.pc (inner_open _ isa tool max block i built lt)) reach.memory reach.here (built.words i lt ∙ ap Some (sym is))

action_of : (isa : Isa) (region : Area) (now : State) (word : ℕ) → Fetches isa region now word → action now ≡ stepped now (step word now.cpu now.memory)
action_of isa region now word f = ap (λ r. action_at r now) f.fetch

closes_of : (isa : Isa) (region : Area) (now : State) (word : ℕ) → Fetches isa region now word →
    closes now ≡ (ends_block (instruction now.cpu.isa word) || touched (step word now.cpu now.memory))
closes_of isa region now word f = ap (λ r. closes_with now r) f.fetch

-- ---- one more word is seen

-- while the block may take more, its next word is in it
inside : (isa : Isa) (max : ℕ) (words : List ℕ) (region : Area) (i : ℕ) (now : State) → closed isa words (suc i) ≡ false → suc i < max → holds now.cpu.pc 4 region ≡ true →
    begins (room isa max words (suc i)) (Some region) now ≡ false
inside isa max words region i now unclosed more held =
    let some : ((max - suc i) == 0) ≡ false = grind (arith, nat_tests) in
    rw (unclosed, held, some) refl

room_less : (isa : Isa) (max : ℕ) (words : List ℕ) (i : ℕ) → closed isa words (suc i) ≡ false → room isa max words (suc i) - 1 ≡ max - suc (suc i)
room_less isa max words i unclosed = rw unclosed (omega arith)

pub one_word : (isa : Isa) (tool : Tool) (max : ℕ) (region : Area) (block : Parts) (i word : ℕ) (now : State) (r : Run) →
    IsBuilt (code_of region) isa tool max block → i < length block.words → (closed isa block.words i ≡ false → now.cpu.pc ≡ block.address + 4 * i) → Fetches isa region now word →
    marked_in max (room isa max block.words i) (place region i) (after now r)
    ≡ with_marks ((now, is_first i) ∷ []) (marked_in max (if closes now then 0 else max - suc i) (Some region) r)
one_word isa tool max region block zero word now r built lt at f =
    marked-begins max 0 None now r refl
    ∙ ap (λ p. with_marks ((now, true) ∷ []) (marked_in max (if closes now then 0 else max - 1) p r)) f.at
one_word isa tool max region block (suc i) word now r built lt at f =
    let unclosed : closed isa block.words (suc i) ≡ false = inner_open _ isa tool max block (suc i) built lt in
    let more : suc i < max = omega (arith, built.at_most, lt) in
    let in_it = inside isa max block.words region i now unclosed more f.held in
    marked-inside max (room isa max block.words (suc i)) (Some region) now r in_it
    ∙ ap (λ k. with_marks ((now, false) ∷ []) (marked_in max (if closes now then 0 else k) (place_of now) r)) (room_less isa max block.words i unclosed)
    ∙ ap (λ p. with_marks ((now, false) ∷ []) (marked_in max (if closes now then 0 else max - suc (suc i)) p r)) f.at

-- the states before i words, and the one before the next
marks-with : (words : List ℕ) (s now : State) (i : ℕ) (v : Marked) → now ≡ state_at words s i →
    with_marks (marks_before words s i) (with_marks ((now, is_first i) ∷ []) v) ≡ with_marks (marks_before words s (suc i)) v
marks-with words s now i v at =
    with-more (marks_before words s i) ((now, is_first i) ∷ []) v
    ∙ ap (λ x. with_marks (marks_before words s i ++ (x, is_first i) ∷ []) v) at
    ∙ ap (λ marks. with_marks marks v) (sym (marks-more words s i))

-- ---- the block goes on

or_false : (a : Bool) → (a || false) ≡ a
or_false true = refl
or_false false = refl

or_true : (a : Bool) → (a || true) ≡ true
or_true true = refl
or_true false = refl

pc_next : (cpu : Cpu) (region : Area) → cpu.pc + 4 ≤ end_of region → end_of region ≤ 4294967295 → next cpu ≡ cpu.pc + 4
pc_next cpu region a b = omega (arith, a, b)

-- the word at i, in its state
there-at : (words : List ℕ) (s now : State) (i word : ℕ) → now ≡ state_at words s i → word ≡ slice_index words i → fetched now.memory now.cpu.pc ≡ Ok word →
    word_of (state_at words s i) ≡ Ok (slice_index words i)
there-at words s now i word at is fetch = ap word_of (sym at) ∙ fetch ∙ ap Ok is

pub reaches-more : (isa : Isa) (tool : Tool) (max : ℕ) (region : Area) (block : Parts) (fuel : ℕ) (s : State) (i rest word : ℕ) (now : State) (c : Cpu) (m : Memory) →
    IsBuilt (code_of region) isa tool max block → i < length block.words → word ≡ slice_index block.words i → (done.Next, c, m) ≡ step word now.cpu now.memory →
    Reaches isa max region block fuel s i (suc rest) now → Reaches isa max region block fuel s (suc i) rest (record now { cpu = c; memory = m })
reaches-more isa tool max region block fuel s i rest word now c m built lt is did reach =
    let f = fetches isa tool max region block fuel s i (suc rest) word now built lt is reach in
    let same_isa = reach.isa_kept in
    let goes : action now ≡ Goes (record now { cpu = c; memory = m }) = action_of isa region now word f ∙ ap (stepped now) (sym did) in
    let keeps : Keeps now.cpu c now.memory m = subst (KeepsCode now.cpu now.memory) (sym did) (keeps-code (effect_of (instruction now.cpu.isa word) now.cpu now.memory) now.cpu now.memory) in
    let shut : closes now ≡ closed isa block.words (suc i) =
    closes_of isa region now word f ∙ ap (λ o. ends_block (instruction now.cpu.isa word) || touched o) (sym did) ∙ or_false (ends_block (instruction now.cpu.isa word))
    ∙ ap (λ a. ends_block (instruction a word)) same_isa ∙ ap (λ x. ends_block (instruction isa x)) is in
    let fits : end_of region ≤ 4294967295 = found_ends (has_code block.address 1) now.memory region reach.memory.in_range (sym reach.here) in
    record {
      pc = λ unclosed.
          let plain : ends_block (instruction now.cpu.isa word) ≡ false = ap (λ a. ends_block (instruction a word)) same_isa ∙ ap (λ x. ends_block (instruction isa x)) is ∙ unclosed in
          let on : c.pc ≡ next now.cpu = subst (GoesOn now.cpu) (sym did) (goes-on (instruction now.cpu.isa word) now.cpu now.memory plain) in
          let here = reach.pc (inner_open _ isa tool max block i built lt) in
          let behind = pc_next now.cpu region f.ends fits in
          omega (arith, on, behind, here);
      isa_kept = keeps.isa ∙ same_isa;
      memory = keeps.memory reach.memory;
      here = keeps.code block.address ∙ reach.here;
      same = λ a. keeps.code a ∙ reach.same a;
      spent = omega (arith, reach.spent);
      went = up-to (λ k. done_at block.words s k ≡ done.Next) i reach.went (done-through block.words s now i word done.Next c m reach.at is did);
      there = up-to (λ k. word_of (state_at block.words s k) ≡ Ok (slice_index block.words k)) i reach.there (there-at block.words s now i word reach.at is f.fetch);
      at = state-through block.words s now i word done.Next c m reach.at is did;
      seen = λ w answers.
          reach.seen w answers
          ∙ ap (λ r. with_marks (marks_before block.words s i) (marked_in max (room isa max block.words i) (place region i) r)) (run-goes w rest answers now (record now { cpu = c; memory = m }) goes)
          ∙ ap (with_marks (marks_before block.words s i)) (one_word isa tool max region block i word now (run w rest answers (record now { cpu = c; memory = m })) built lt reach.pc f)
          ∙ ap (λ b. with_marks (marks_before block.words s i) (with_marks ((now, is_first i) ∷ []) (marked_in max (if b then 0 else max - suc i) (Some region) (run w rest answers (record now { cpu = c; memory = m }))))) shut
          ∙ marks-with block.words s now i (marked_in max (if closed isa block.words (suc i) then 0 else max - suc i) (Some region) (run w rest answers (record now { cpu = c; memory = m }))) reach.at;
    }

-- ---- the block is left

-- what is told of a run that goes on behind a word that ends its block
leaves-with : (isa : Isa) (tool : Tool) (max : ℕ) (region : Area) (block : Parts) (fuel : ℕ) (s : State) (i rest word : ℕ) (now : State) (w : Setting) (answers : List ℕ) (r : Run) →
    IsBuilt (code_of region) isa tool max block → i < length block.words → word ≡ slice_index block.words i →
    Reaches isa max region block fuel s i (suc rest) now → run w (suc rest) answers now ≡ after now r → closes now ≡ true →
    marked max (run w fuel answers s) ≡ with_marks (marks_before block.words s (suc i)) (marked max r)
leaves-with isa tool max region block fuel s i rest word now w answers r built lt is reach goes shut =
    let f = fetches isa tool max region block fuel s i (suc rest) word now built lt is reach in
    reach.seen w answers
    ∙ ap (λ x. with_marks (marks_before block.words s i) (marked_in max (room isa max block.words i) (place region i) x)) goes
    ∙ ap (with_marks (marks_before block.words s i)) (one_word isa tool max region block i word now r built lt reach.pc f)
    ∙ ap (λ b. with_marks (marks_before block.words s i) (with_marks ((now, is_first i) ∷ []) (marked_in max (if b then 0 else max - suc i) (Some region) r))) shut
    ∙ ap (λ v. with_marks (marks_before block.words s i) (with_marks ((now, is_first i) ∷ []) v)) (marked-closed max (Some region) r)
    ∙ marks-with block.words s now i (marked max r) reach.at

-- what ends the run there
ends-with : (isa : Isa) (tool : Tool) (max : ℕ) (region : Area) (block : Parts) (fuel : ℕ) (s : State) (i rest word : ℕ) (now : State) (w : Setting) (answers : List ℕ) (end : End) →
    IsBuilt (code_of region) isa tool max block → i < length block.words → word ≡ slice_index block.words i →
    Reaches isa max region block fuel s i (suc rest) now → action now ≡ Ends end →
    marked max (run w fuel answers s) ≡ with_marks (marks_before block.words s (suc i)) (over end now.io.output answers)
ends-with isa tool max region block fuel s i rest word now w answers end built lt is reach stops =
    let f = fetches isa tool max region block fuel s i (suc rest) word now built lt is reach in
    reach.seen w answers
    ∙ ap (λ x. with_marks (marks_before block.words s i) (marked_in max (room isa max block.words i) (place region i) x)) (run-ends w rest answers now end stops)
    ∙ ap (with_marks (marks_before block.words s i)) (one_word isa tool max region block i word now (ended now end answers) built lt reach.pc f)
    ∙ marks-with block.words s now i (over end now.io.output answers) reach.at

-- an instruction that transfers control, or calls, ends its block
ends-taken : (word : ℕ) (cpu c : Cpu) (m m' : Memory) → (done.Taken, c, m') ≡ step word cpu m → ends_block (instruction cpu.isa word) ≡ true
ends-taken word cpu c m m' did =
    ⊎_elim (λ yes. yes) (λ no. absurd (subst (GoesOn cpu) (sym did) (goes-on (instruction cpu.isa word) cpu m no))) (cases_Bool (ends_block (instruction cpu.isa word)))

ends-asked : (word : ℕ) (cpu c : Cpu) (m m' : Memory) → (done.Asked, c, m') ≡ step word cpu m → ends_block (instruction cpu.isa word) ≡ true
ends-asked word cpu c m m' did =
    ⊎_elim (λ yes. yes) (λ no. absurd (subst (GoesOn cpu) (sym did) (goes-on (instruction cpu.isa word) cpu m no))) (cases_Bool (ends_block (instruction cpu.isa word)))

-- a call changes nothing yet
abbrev pub IsSame : Cpu → Memory → Outcome → Type 0
IsSame cpu m (done.Asked, c, after) = (c ≡ cpu) × (after ≡ m)
IsSame cpu m (done.Fault kind, c, after) = (c ≡ cpu) × (after ≡ m)
IsSame cpu m (done.Next, c, after) = Unit {0}
IsSame cpu m (done.Taken, c, after) = Unit {0}
IsSame cpu m (done.Touched span, c, after) = Unit {0}

test-same : (cpu : Cpu) (m : Memory) (b : Bool) (x y : Outcome) → IsSame cpu m x → IsSame cpu m y → IsSame cpu m (if b then x else y)
test-same cpu m true x y p q = p
test-same cpu m false x y p q = q

touch-same : (cpu c : Cpu) (m after : Memory) (b : Bool) (span : Range) → IsSame cpu m (if b then done.Touched span else done.Next, c, after)
touch-same cpu c m after true span = tt
touch-same cpu c m after false span = tt

store-same : (cpu : Cpu) (m : Memory) (addr n : ℕ) (r : Result Memory Access) → IsSame cpu m (store cpu m addr n r)
store-same cpu m addr n (Ok after) = touch-same cpu (record cpu { pc = next cpu }) m after (touches_code after addr n) (record { start = addr; len = n })
store-same cpu m addr n (Err a) = (refl, refl)

pub same-step : (e : Effect) (cpu : Cpu) (m : Memory) → IsSame cpu m (performed e cpu m)
same-step (effects.Set rd value) cpu m = tt
same-step (effects.Jump rd target) cpu m = test-same cpu m (target % 4 == 0) _ _ tt (refl, refl)
same-step (effects.Store addr size value) cpu m = store-same cpu m addr (size_of size) (stored m addr size value)
same-step effects.Nothing cpu m = tt
same-step effects.Ask cpu m = (refl, refl)
same-step (effects.Fault kind) cpu m = (refl, refl)

-- the state that a word leaves, where it leaves it as it was
as-before : (now : State) (c : Cpu) (m : Memory) → (c ≡ now.cpu) × (m ≡ now.memory) → now ≡ record now { cpu = c; memory = m }
as-before now c m same = rw (same.0, same.1) refl

-- how the block is left, where its last word did not just go on
left-out : (exits : List Exit) (more : Bool) (d : Done) (left : Left) → leaving d ≡ Some left → left ≡ left_by exits more d
left-out exits more done.Next left h = absurd (cc)
left-out exits more done.Taken left h = sym (same_Some (lefts.Exit 0) left h)
left-out exits more done.Asked left h = sym (same_Some lefts.Asked left h)
left-out exits more (done.Touched span) left h = sym (same_Some (lefts.Touched span) left h)
left-out exits more (done.Fault kind) left h = sym (same_Some (lefts.Fault kind) left h)

not-fuel : (d : Done) (left : Left) → leaving d ≡ Some left → left ≡ lefts.Fuel → ⊥
not-fuel done.Next left h e = absurd (cc)
not-fuel done.Taken left h e = cc
not-fuel done.Asked left h e = cc
not-fuel (done.Touched span) left h e = cc
not-fuel (done.Fault kind) left h e = cc

-- the words up to one that leaves the block
words-out : (isa : Isa) (tool : Tool) (max : ℕ) (region : Area) (block : Parts) (fuel : ℕ) (s : State) (i rest word : ℕ) (now : State) (d : Done) (c : Cpu) (m : Memory) (left : Left) →
    IsBuilt (code_of region) isa tool max block → i < length block.words → word ≡ slice_index block.words i → (d, c, m) ≡ step word now.cpu now.memory → leaving d ≡ Some left →
    Reaches isa max region block fuel s i (suc rest) now → DoesWords block (suc i) s left (record now { cpu = c; memory = m })
words-out isa tool max region block fuel s i rest word now d c m left built lt is did how reach = record {
  some = omega arith;
  at_most = omega (arith, lt);
  there =
      let f = fetches isa tool max region block fuel s i (suc rest) word now built lt is reach in
      up-to (λ k. word_of (state_at block.words s k) ≡ Ok (slice_index block.words k)) i reach.there (there-at block.words s now i word reach.at is f.fetch);
  went = λ k less. reach.went k (omega (arith, less));
  left =
      let back : suc i - 1 ≡ i = omega arith in
      left-out block.exits (nat_lt (suc i) (length block.words)) d left how
      ∙ ap (left_by block.exits (nat_lt (suc i) (length block.words))) (sym (done-through block.words s now i word d c m reach.at is did))
      ∙ ap (λ k. left_by block.exits (nat_lt (suc i) (length block.words)) (done_at block.words s k)) (sym back);
  reached = state-through block.words s now i word d c m reach.at is did;
}

-- what is told of the run behind a word that leaves its block
seen-out : (isa : Isa) (tool : Tool) (max : ℕ) (region : Area) (block : Parts) (fuel : ℕ) (s : State) (i rest word : ℕ) (now : State) (d : Done) (c : Cpu) (m : Memory) (left : Left) →
    IsBuilt (code_of region) isa tool max block → i < length block.words → word ≡ slice_index block.words i → (d, c, m) ≡ step word now.cpu now.memory → leaving d ≡ Some left →
    Reaches isa max region block fuel s i (suc rest) now → (w : Setting) (answers : List ℕ) →
    marked max (run w fuel answers s) ≡ with_marks (marks_before block.words s (suc i)) (onward max left rest (record now { cpu = c; memory = m }) w answers)
seen-out isa tool max region block fuel s i rest word now done.Next c m left built lt is did how reach w answers = absurd (cc)
seen-out isa tool max region block fuel s i rest word now done.Taken c m left built lt is did how reach w answers =
    let f = fetches isa tool max region block fuel s i (suc rest) word now built lt is reach in
    let next : State = record now { cpu = c; memory = m } in
    let goes : action now ≡ Goes next = action_of isa region now word f ∙ ap (stepped now) (sym did) in
    let shut : closes now ≡ true = closes_of isa region now word f ∙ ap (λ b. b || touched (step word now.cpu now.memory)) (ends-taken word now.cpu c now.memory m did) in
    leaves-with isa tool max region block fuel s i rest word now w answers (run w rest answers next) built lt is reach (run-goes w rest answers now next goes) shut
    ∙ ap (λ x. with_marks (marks_before block.words s (suc i)) (onward max x rest next w answers)) (same_Some (lefts.Exit 0) left how)
seen-out isa tool max region block fuel s i rest word now (done.Touched span) c m left built lt is did how reach w answers =
    let f = fetches isa tool max region block fuel s i (suc rest) word now built lt is reach in
    let next : State = record now { cpu = c; memory = m } in
    let goes : action now ≡ Goes next = action_of isa region now word f ∙ ap (stepped now) (sym did) in
    let shut : closes now ≡ true = closes_of isa region now word f ∙ ap (λ o. ends_block (instruction now.cpu.isa word) || touched o) (sym did) ∙ or_true (ends_block (instruction now.cpu.isa word)) in
    leaves-with isa tool max region block fuel s i rest word now w answers (run w rest answers next) built lt is reach (run-goes w rest answers now next goes) shut
    ∙ ap (λ x. with_marks (marks_before block.words s (suc i)) (onward max x rest next w answers)) (same_Some (lefts.Touched span) left how)
seen-out isa tool max region block fuel s i rest word now done.Asked c m left built lt is did how reach w answers =
    let f = fetches isa tool max region block fuel s i (suc rest) word now built lt is reach in
    let next : State = record now { cpu = c; memory = m } in
    let calls : action now ≡ call now = action_of isa region now word f ∙ ap (stepped now) (sym did) in
    let shut : closes now ≡ true = closes_of isa region now word f ∙ ap (λ b. b || touched (step word now.cpu now.memory)) (ends-asked word now.cpu c now.memory m did) in
    let same : now ≡ next = as-before now c m (subst (IsSame now.cpu now.memory) (sym did) (same-step (effect_of (instruction now.cpu.isa word) now.cpu now.memory) now.cpu now.memory)) in
    leaves-with isa tool max region block fuel s i rest word now w answers (run_behind w rest now (transition_by w answers now (call now))) built lt is reach (run-call w rest answers now calls) shut
    ∙ ap (λ x. with_marks (marks_before block.words s (suc i)) (onward max lefts.Asked rest x w answers)) same
    ∙ ap (λ x. with_marks (marks_before block.words s (suc i)) (onward max x rest next w answers)) (same_Some lefts.Asked left how)
seen-out isa tool max region block fuel s i rest word now (done.Fault kind) c m left built lt is did how reach w answers =
    let f = fetches isa tool max region block fuel s i (suc rest) word now built lt is reach in
    let next : State = record now { cpu = c; memory = m } in
    let stops : action now ≡ Ends (ends.Fault kind now.cpu.pc) = action_of isa region now word f ∙ ap (stepped now) (sym did) in
    let same : now ≡ next = as-before now c m (subst (IsSame now.cpu now.memory) (sym did) (same-step (effect_of (instruction now.cpu.isa word) now.cpu now.memory) now.cpu now.memory)) in
    ends-with isa tool max region block fuel s i rest word now w answers (ends.Fault kind now.cpu.pc) built lt is reach stops
    ∙ ap (λ x. with_marks (marks_before block.words s (suc i)) (onward max (lefts.Fault kind) rest x w answers)) same
    ∙ ap (λ x. with_marks (marks_before block.words s (suc i)) (onward max x rest next w answers)) (same_Some (lefts.Fault kind) left how)

-- a word that leaves its block
pub reaches-out : (isa : Isa) (tool : Tool) (max : ℕ) (region : Area) (block : Parts) (fuel : ℕ) (s : State) (i rest word : ℕ) (now : State) (d : Done) (c : Cpu) (m : Memory) (left : Left) →
    IsBuilt (code_of region) isa tool max block → i < length block.words → word ≡ slice_index block.words i → (d, c, m) ≡ step word now.cpu now.memory → leaving d ≡ Some left →
    Reaches isa max region block fuel s i (suc rest) now → RunsBlock max block (suc i) fuel s left rest (record now { cpu = c; memory = m })
reaches-out isa tool max region block fuel s i rest word now d c m left built lt is did how reach = record {
  spent = omega (arith, reach.spent);
  ran_out = λ e. absurd (not-fuel d left how e);
  words = words-out isa tool max region block fuel s i rest word now d c m left built lt is did how reach;
  seen = seen-out isa tool max region block fuel s i rest word now d c m left built lt is did how reach;
}

-- ---- all words that were done went on

-- words that went on, and how the block is left behind them
words-on : (isa : Isa) (max : ℕ) (region : Area) (block : Parts) (fuel : ℕ) (s : State) (i rest : ℕ) (now : State) (more : Bool) →
    suc i ≤ length block.words → nat_lt (suc i) (length block.words) ≡ more → Reaches isa max region block fuel s (suc i) rest now →
    DoesWords block (suc i) s (left_by block.exits more done.Next) now
words-on isa max region block fuel s i rest now more fits is reach = record {
  some = omega arith;
  at_most = fits;
  there = reach.there;
  went = λ k less. reach.went k (omega (arith, less));
  left =
      let back : suc i - 1 ≡ i = omega arith in
      ap (λ b. left_by block.exits b done.Next) (sym is)
      ∙ ap (left_by block.exits (nat_lt (suc i) (length block.words))) (sym (reach.went i (omega arith)))
      ∙ ap (λ k. left_by block.exits (nat_lt (suc i) (length block.words)) (done_at block.words s k)) (sym back);
  reached = reach.at;
}

-- there is no fuel for a further word
pub reaches-spent : (isa : Isa) (max : ℕ) (region : Area) (block : Parts) (fuel : ℕ) (s : State) (i rest : ℕ) (now : State) →
    i < length block.words → 0 < i → rest ≡ 0 → Reaches isa max region block fuel s i rest now → RunsBlock max block i fuel s lefts.Fuel rest now
reaches-spent isa max region block fuel s zero rest now lt some spent reach = absurd (omega arith)
reaches-spent isa max region block fuel s (suc i) (suc rest) now lt some spent reach = absurd (omega arith)
reaches-spent isa max region block fuel s (suc i) zero now lt some spent reach = record {
  spent = reach.spent;
  ran_out = λ e. refl;
  words = let more : nat_lt (suc i) (length block.words) ≡ true = grind (arith, nat_tests) in words-on isa max region block fuel s i 0 now true (omega (arith, lt)) more reach;
  seen = λ w answers. reach.seen w answers ∙ ap (with_marks (marks_before block.words s (suc i))) (marked-spent max (room isa max block.words (suc i)) (Some region) w answers now);
}

same_either : (b : Bool) (n : ℕ) → n ≡ 0 → (if b then 0 else n) ≡ 0
same_either true n e = refl
same_either false n e = e

room_none : (isa : Isa) (max : ℕ) (words : List ℕ) (i : ℕ) → (closed isa words (suc i) ≡ true) ⊎ (suc i ≡ max) → room isa max words (suc i) ≡ 0
room_none isa max words i (inl shut) = rw shut refl
room_none isa max words i (inr full) = same_either (closed isa words (suc i)) (max - suc i) (omega (arith, full))

leaves-there : (region : Area) (x : ℕ) (now : State) → now.cpu.pc ≡ x → word_at (code_of region) x ≡ None → leaves (Some region) now ≡ true
leaves-there region x now at lacking =
    let lacks : holds now.cpu.pc 4 region ≡ false = rw at (is_lacking (has_word (code_of region) x) _ lacking) in
    rw lacks refl

full-free : (isa : Isa) (max : ℕ) (region : Area) (words : List ℕ) (i rest : ℕ) (now : State) → room isa max words (suc i) ≡ 0 → (w : Setting) (answers : List ℕ) →
    marked_in max (room isa max words (suc i)) (Some region) (run w rest answers now) ≡ marked max (run w rest answers now)
full-free isa max region words i rest now full w answers = ap (λ k. marked_in max k (Some region) (run w rest answers now)) full ∙ marked-closed max (Some region) (run w rest answers now)

-- the next block begins behind the last word
free-behind : (isa : Isa) (tool : Tool) (max : ℕ) (region : Area) (block : Parts) (fuel : ℕ) (s : State) (i rest : ℕ) (now : State) → IsBuilt (code_of region) isa tool max block → suc i ≡ length block.words →
    Reaches isa max region block fuel s (suc i) rest now → (w : Setting) (answers : List ℕ) →
    marked_in max (room isa max block.words (suc i)) (Some region) (run w rest answers now) ≡ marked max (run w rest answers now)
free-behind isa tool max region block fuel s i rest now built all reach =
    let final : slice_index block.words i ≡ last block.words = ap (slice_index block.words) (omega arith) in
    ⊎_elim
    (λ shut. full-free isa max region block.words i rest now (room_none isa max block.words i (inl (ap (λ x. ends_block (instruction isa x)) final ∙ shut))))
    (λ other. ⊎_elim
    (λ full. full-free isa max region block.words i rest now (room_none isa max block.words i (inr (all ∙ full))))
    (λ missing. ⊎_elim
    (λ shut. full-free isa max region block.words i rest now (room_none isa max block.words i (inl shut)))
    (λ unclosed.
    let out = leaves-there region (block.address + 4 * suc i) now (reach.pc unclosed) (ap (λ n. word_at (code_of region) (block.address + 4 * n)) all ∙ missing) in
    λ w answers. marked-left max (room isa max block.words (suc i)) (Some region) w rest answers now out)
    (cases_Bool (closed isa block.words (suc i))))
    other)
    built.stopped

pub reaches-done : (isa : Isa) (tool : Tool) (max : ℕ) (region : Area) (block : Parts) (fuel : ℕ) (s : State) (i rest : ℕ) (now : State) →
    IsBuilt (code_of region) isa tool max block → i ≡ length block.words → Reaches isa max region block fuel s i rest now →
    RunsBlock max block i fuel s (lefts.Exit (last_exit block.exits)) rest now
reaches-done isa tool max region block fuel s zero rest now built all reach = absurd (omega (arith, built.not_empty))
reaches-done isa tool max region block fuel s (suc i) rest now built all reach = record {
  spent = reach.spent;
  ran_out = λ e. absurd (cc);
  words = let more : nat_lt (suc i) (length block.words) ≡ false = grind (arith, nat_tests) in words-on isa max region block fuel s i rest now false (omega (arith, all)) more reach;
  seen = λ w answers. reach.seen w answers ∙ ap (with_marks (marks_before block.words s (suc i))) (free-behind isa tool max region block fuel s i rest now built all reach w answers);
}

-- ---- in the words of the loop

pub loop-out : (isa : Isa) (tool : Tool) (max : ℕ) (region : Area) (block : Parts) (fuel : ℕ) (s : State) (i rest word : ℕ) (now : State) (d : Done) (c : Cpu) (m : Memory) (left : Left) →
    0 < rest → IsBuilt (code_of region) isa tool max block → i < length block.words → word ≡ slice_index block.words i → (d, c, m) ≡ step word now.cpu now.memory → leaving d ≡ Some left →
    Reaches isa max region block fuel s i rest now → RunsBlock max block (i + 1) fuel s left (rest - 1) (record now { cpu = c; memory = m })
loop-out isa tool max region block fuel s i zero word now d c m left some built lt is did how reach = absurd (omega arith)
loop-out isa tool max region block fuel s i (suc rest) word now d c m left some built lt is did how reach =
    let less : rest ≡ suc rest - 1 = omega arith in
    let more : suc i ≡ i + 1 = omega arith in
    subst (λ n. RunsBlock max block (i + 1) fuel s left n (record now { cpu = c; memory = m })) less
    (subst (λ k. RunsBlock max block k fuel s left rest (record now { cpu = c; memory = m })) more
    (reaches-out isa tool max region block fuel s i rest word now d c m left built lt is did how reach))

pub loop-more : (isa : Isa) (tool : Tool) (max : ℕ) (region : Area) (block : Parts) (fuel : ℕ) (s : State) (i rest word : ℕ) (now : State) (d : Done) (c : Cpu) (m : Memory) →
    0 < rest → IsBuilt (code_of region) isa tool max block → i < length block.words → word ≡ slice_index block.words i → (d, c, m) ≡ step word now.cpu now.memory → leaving d ≡ None →
    Reaches isa max region block fuel s i rest now → Reaches isa max region block fuel s (i + 1) (rest - 1) (record now { cpu = c; memory = m })
loop-more isa tool max region block fuel s i zero word now d c m some built lt is did how reach = absurd (omega arith)
loop-more isa tool max region block fuel s i (suc rest) word now done.Next c m some built lt is did how reach =
    let less : rest ≡ suc rest - 1 = omega arith in
    let more : suc i ≡ i + 1 = omega arith in
    subst (λ n. Reaches isa max region block fuel s (i + 1) n (record now { cpu = c; memory = m })) less
    (subst (λ k. Reaches isa max region block fuel s k rest (record now { cpu = c; memory = m })) more
    (reaches-more isa tool max region block fuel s i rest word now c m built lt is did reach))
loop-more isa tool max region block fuel s i (suc rest) word now done.Taken c m some built lt is did how reach = absurd (cc)
loop-more isa tool max region block fuel s i (suc rest) word now done.Asked c m some built lt is did how reach = absurd (cc)
loop-more isa tool max region block fuel s i (suc rest) word now (done.Touched span) c m some built lt is did how reach = absurd (cc)
loop-more isa tool max region block fuel s i (suc rest) word now (done.Fault kind) c m some built lt is did how reach = absurd (cc)
