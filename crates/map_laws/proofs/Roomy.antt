-- A run behind a full pool.
use Rattle.std.proofs.Common.{◌≡◌, ℕ, zero, suc, ◌<◌, ◌==◌, ◌%◌, ◌⊎◌, ◌∷◌, ◌++◌, [], Bool, true, false, List, Option, Some, None, Result, Ok, Err, refl, sym, ◌∙◌, ap, subst, inl, inr, arith, append_assoc}
use Rattle.std.specs.Prelude.{find, if◌then◌else◌}
use Rattle.std.specs.FinMap as fin
use Rattle.std.proofs.lemmas.Bool.{cases_Bool}
use Rattle.std.proofs.lemmas.Bool.Decides.{nat_tests}
use Rattle.std.proofs.lemmas.List.{append-nil}
use Rattle.std.proofs.lemmas.Option.{same_Some, slice_get_past}
use Rattle.rv_decode.specs.declared.ins.Isa.{Isa}
use Rattle.cc_base.specs.Image.{Code}
use Rattle.guest_mem.specs.Results.{Shows}
use Rattle.plain_machine.specs.declared.access.Access.{Access}
use Rattle.plain_machine.specs.declared.access.Access.TheVariants.{NotMapped}
use Rattle.plain_machine.specs.declared.cpu.Done.TheVariants as done
use Rattle.plain_machine.specs.declared.io.Asked.TheVariants as asked
use Rattle.plain_machine.specs.Region.{Area, bytes_at, holds}
use Rattle.plain_machine.specs.Memory.{IsMemory, Memory, as_code, code_at, code_of, fetched, has_code, number_of, reach}
use Rattle.plain_machine.specs.Step.{Outcome, step}
use Rattle.plain_machine.specs.Calls.{Reply, called, is_module}
use Rattle.plain_machine.specs.Program.{Program}
use Rattle.plain_machine.specs.Machine.{State, Setting, Action, Unfetched, Ends, Goes, Maps, Unmaps, Replaces, action, action_at, base_at, is_done, program_in, replied, stepped, transition_by, unmap_from, unmap_module}
use Rattle.plain_machine.specs.Run.{Run, run, run_behind}
use Rattle.plain_machine.specs.Cut.{Marked, cut}
use Rattle.plain_machine.proofs.RunLaws.{run-done, run-unfetched, run-zero}
use Rattle.fragment.specs.Parts.{Parts}
use Rattle.fragment.specs.Build.{block_of, built, has_word, size_at, words_at}
use Rattle.engine.proofs.KeptCode.{holds-none}
use Rattle.block_ledger.specs.Ledger.{wants_room, all_offered, flushed, offered}
use Rattle.block_ledger.specs.Requests.{Asking, AsksFile, MakesBe, asked_at, offer, offers}
use Rattle.block_ledger.specs.Traced.{Scheme, Trace, traced, after_word, asking, beginning, block_at, built_in, mapped}
use Rattle.block_ledger.specs.Traced as tr
use Rattle.block_ledger.proofs.Room.{room, room-is-made}
use Rattle.guest_proc.specs.declared.stop.Stop.{Stop}
use Rattle.guest_proc.specs.declared.stop.Stop.TheVariants as stop
use Rattle.guest_proc.specs.Process.{Comes, GoesOn, Process, RanOn, StopsIn, Went, nothing, stop_of, stop_with, trace}
use Rattle.guest_proc.proofs.Beginning.{code-there}
use Rattle.guest_proc.specs.Maps.{put_to}
use Rattle.guest_proc.proofs.More.{stops-both, went-both}
use Rattle.map_laws.specs.Room.{AllAreOffered, OfferingBegins, OneMoreOffered, RoomGoesOn, RoomIsThere, room_made, roomy}

-- ---- what a full pool tells

full_by : (b : Bool) → ◌≡◌ {A = Option Stop} (if b then Some stop.PoolFull else None) (Some stop.PoolFull) → b ≡ true
full_by true e = refl
full_by false e = absurd (cc)

full_with : (pool : ℕ) (p : Process) (r : Result ℕ Access) → stop_with pool p r ≡ Some stop.PoolFull → ((word : ℕ) × (r ≡ Ok word)) × (wants_room pool p.ledger p.state.cpu.pc ≡ true)
full_with pool p (Ok word) e = ((word, refl), full_by (wants_room pool p.ledger p.state.cpu.pc) e)
full_with pool p (Err a) e = absurd (cc)

record IsFull (pool : ℕ) (p : Process) : Type 0 where
  some : (p.fuel == 0) ≡ false
  word : (word : ℕ) × (fetched p.state.memory p.state.cpu.pc ≡ Ok word)
  wants : wants_room pool p.ledger p.state.cpu.pc ≡ true

is_full : (pool : ℕ) (p : Process) → stop_of pool p ≡ Some stop.PoolFull → IsFull pool p
is_full pool p e = elim (cases_Bool (p.fuel == 0)) [
  | inl spent ↦ let h = rw spent at e in absurd (cc)
  | inr some ↦
      let there : stop_with pool p (fetched p.state.memory p.state.cpu.pc) ≡ Some stop.PoolFull = rw some at e in
      let full = full_with pool p (fetched p.state.memory p.state.cpu.pc) there in
      record { some = some; word = full.0; wants = full.1 }
]

-- no stop comes before the next block
none_before : (pool : ℕ) (p : Process) → (p.fuel == 0) ≡ false → ((word : ℕ) × (fetched p.state.memory p.state.cpu.pc ≡ Ok word)) → wants_room pool p.ledger p.state.cpu.pc ≡ false → stop_of pool p ≡ None
none_before pool p some word fits = rw some (rw word.1 (rw fits refl))

fits_then : (pool : ℕ) (p : Process) → 0 < pool → wants_room pool (roomy p).ledger p.state.cpu.pc ≡ false
fits_then pool p big = room pool p.state.cpu.pc (all_offered (fin.keys p.ledger.segments) p.ledger) big

roomy_none : (pool : ℕ) (p : Process) → 0 < pool → IsFull pool p → stop_of pool (roomy p) ≡ None
roomy_none pool p big full = none_before pool (roomy p) full.some full.word (fits_then pool p big)

-- a run that came to a full pool may go on from there
came_full : (scheme : Scheme) (made : List Asking) (first p : Process) → RanOn scheme made first p stop.PoolFull → GoesOn scheme made first p × IsFull scheme.pool p
came_full scheme made first p ran = elim ran.comes [
  | inl before ↦ (before.0, is_full scheme.pool p before.1)
  | inr within ↦ absurd within
]

-- ---- the block that begins

-- the region behind a code
region_behind : (x : ℕ) (m : Memory) (code : Code) (o : Option Area) → find (has_code x 1) m ≡ o → as_code o ≡ Some code → (r : Area) × (find (has_code x 1) m ≡ Some r) × (code_of r ≡ code)
region_behind x m code None e is = absurd (cc)
region_behind x m code (Some r) e is = (r, e, same_Some (code_of r) code is)

-- where a word is fetched the code has it
has_fetched : (m : Memory) (pc word : ℕ) (code : Code) → IsMemory m → fetched m pc ≡ Ok word → code_at m pc ≡ Some code → has_word code pc ≡ true
has_fetched m pc word code good there is = elim (cases_Bool (has_word code pc)) [
  | inl has ↦ has
  | inr lacks ↦
      let r = region_behind pc m code (find (has_code pc 1) m) refl is in
      let held : holds pc 4 r.0 ≡ false = subst (λ c. has_word c pc ≡ false) (sym r.2) lacks in
      let gone = holds-none pc 4 m r.0 good.disjoint (omega arith) r.1 held in
      let act : Area → ℕ = λ a. number_of (bytes_at pc 4 a) in
      let lost : fetched m pc ≡ Err NotMapped = ap (reach (λ a. a.flags.execute) act) gone in
      let impossible = sym lost ∙ there in absurd (cc)
]

built_with : (code : Code) (scheme : Scheme) (s : State) → s.cpu.pc % 4 ≡ 0 → has_word code s.cpu.pc ≡ true → (f : Parts) × ((built code s.cpu.pc s.cpu.isa scheme.tool scheme.max ≡ Some f) × (f.address ≡ s.cpu.pc))
unfolding built
built_with code scheme s aligned has =
    let even : (s.cpu.pc % 4 == 0) ≡ true = grind (arith, nat_tests) in
    let f : Parts = block_of s.cpu.pc s.cpu.isa scheme.tool (words_at code s.cpu.pc (size_at code s.cpu.pc s.cpu.isa scheme.max)) in
    (f, (rw even (rw has refl), refl))

block_by : (scheme : Scheme) (s : State) (o : Option Code) → IsMemory s.memory → s.cpu.pc % 4 ≡ 0 → ((word : ℕ) × (fetched s.memory s.cpu.pc ≡ Ok word)) → code_at s.memory s.cpu.pc ≡ o →
    (f : Parts) × ((block_at scheme s ≡ Some f) × (f.address ≡ s.cpu.pc))
block_by scheme s None good aligned word is = absurd (code-there s.cpu s.memory word (subst (Shows None) (sym is) tt))
block_by scheme s (Some code) good aligned word is =
    let b = built_with code scheme s aligned (has_fetched s.memory s.cpu.pc word.0 code good word.1 is) in
    (b.0, (ap (λ o. built_in o s.cpu.pc s.cpu.isa scheme.tool scheme.max) is ∙ b.1.0, b.1.1))

-- ---- the first state of a run

firsts : {A : Type 0} (x y : A) (xs ys : List A) → ◌≡◌ {A = List A} (x ∷ xs) (y ∷ ys) → x ≡ y
firsts x y xs ys e = cc

done_reply : (s : State) (r : Reply) → is_done (replied s r) ≡ true
done_reply s (asked.Back span, c, m, io) = refl
done_reply s (asked.Exit status, c, m, io) = refl
done_reply s (asked.Map k, c, m, io) = refl
done_reply s (asked.Unmap k, c, m, io) = refl
done_reply s (asked.Replace k f, c, m, io) = refl
done_reply s (asked.OutputFull, c, m, io) = refl

done_step : (s : State) (o : Outcome) → is_done (stepped s o) ≡ true
done_step s (done.Next, c, m) = refl
done_step s (done.Taken, c, m) = refl
done_step s (done.Touched span, c, m) = refl
done_step s (done.Fault kind, c, m) = refl
done_step s (done.Asked, c, m) = done_reply s (called s.cpu s.memory s.io)

done_there : (s : State) (word : ℕ) → fetched s.memory s.cpu.pc ≡ Ok word → is_done (action s) ≡ true
done_there s word is = ap (λ r. is_done (action_at r s)) is ∙ done_step s (step word s.cpu s.memory)

lost_action : (a : Action) → is_done a ≡ false → a ≡ Unfetched
lost_action Unfetched e = refl
lost_action (Ends end) e = absurd (cc)
lost_action (Goes next) e = absurd (cc)
lost_action (Maps k next) e = absurd (cc)
lost_action (Unmaps k next) e = absurd (cc)
lost_action (Replaces k f next) e = absurd (cc)

-- it comes first where its word is there
head_there : (w : Setting) (fuel : ℕ) (s : State) → (fuel == 0) ≡ false → ((word : ℕ) × (fetched s.memory s.cpu.pc ≡ Ok word)) → (more : List State) × ((run w fuel [] s).states ≡ s ∷ more)
head_there w zero s some word = absurd (cc)
head_there w (suc fuel) s some word =
    let rest : Run = run_behind w fuel s (transition_by w [] s (action s)) in
    (rest.states, ap (λ (r : Run). r.states) (run-done w fuel [] s (action s) refl (done_there s word.0 word.1)))

more_fuel : (fuel : ℕ) → (suc fuel == 0) ≡ false
more_fuel fuel = grind (arith, nat_tests)

head_is : (w : Setting) (fuel : ℕ) (s x : State) (xs : List State) → (run w fuel [] s).states ≡ x ∷ xs → (s ≡ x) × ((fuel == 0) ≡ false)
head_is w zero s x xs e = let none : [] ≡ x ∷ xs = sym (ap (λ (r : Run). r.states) (run-zero w [] s)) ∙ e in absurd (cc)
head_is w (suc fuel) s x xs e = elim (cases_Bool (is_done (action s))) [
  | inl there ↦
      let rest : Run = run_behind w fuel s (transition_by w [] s (action s)) in
      let one : s ∷ rest.states ≡ x ∷ xs = sym (ap (λ (r : Run). r.states) (run-done w fuel [] s (action s) refl there)) ∙ e in
      (firsts s x rest.states xs one, more_fuel fuel)
  | inr lost ↦ let none : [] ≡ x ∷ xs = sym (ap (λ (r : Run). r.states) (run-unfetched w fuel [] s (lost_action (action s) lost))) ∙ e in absurd (cc)
]

cut_from : (max : ℕ) (ss : List State) (s : State) (rest : List (State × Bool)) → cut max 0 None ss ≡ (s, true) ∷ rest → (more : List State) × (ss ≡ s ∷ more)
cut_from max [] s rest e = absurd (cc)
cut_from max (x ∷ xs) s rest e = let same : x ≡ s = ap (λ m. m.0) (firsts (x, true) (s, true) _ rest e) in (xs, ap (λ y. y ∷ xs) same)

-- ---- the first mark

abbrev pub any : Setting
any = record { bases = []; files = [] }

-- it begins a block at the state
cut_first : (scheme : Scheme) (made : List Asking) (q new : Process) (change : Setting → Trace → Trace) (behind : Setting → List ℕ → Marked) → (g : Went scheme made q new change behind) → (q.fuel == 0) ≡ false →
    ((word : ℕ) × (fetched q.state.memory q.state.cpu.pc ≡ Ok word)) → (rest : List (State × Bool)) × ((q.state, true) ∷ rest ≡ g.marks ++ (behind any []).marks)
cut_first scheme made q new change behind g some word =
    let head = head_there any q.fuel q.state some word in
    (_, sym (ap (cut scheme.max 0 None) head.1) ∙ ap (λ (m : Marked). m.marks) (g.seen any []))

marks_of : (ms : List (State × Bool)) → (ms ≡ []) ⊎ ((x : State × Bool) × ((xs : List (State × Bool)) × (ms ≡ x ∷ xs)))
marks_of [] = inl refl
marks_of (x ∷ xs) = inr (x, (xs, refl))

-- ---- behind a full pool

same_begin : (scheme : Scheme) (p : Process) (maps : List ℕ) (units : List (List ℕ)) (requests : List Asking) → 0 < scheme.pool → IsMemory p.state.memory → p.state.cpu.pc % 4 ≡ 0 → IsFull scheme.pool p →
    beginning scheme (block_at scheme p.state) (trace p.ledger maps units requests) ≡ beginning scheme (block_at scheme p.state) (trace (roomy p).ledger maps units (requests ++ room_made p))
same_begin scheme p maps units requests big good aligned full =
    let b = block_by scheme p.state (code_at p.state.memory p.state.cpu.pc) good aligned full.word refl in
    let wants : wants_room scheme.pool p.ledger b.0.address ≡ true = subst (λ a. wants_room scheme.pool p.ledger a ≡ true) (sym b.1.1) full.wants in
    let made = sym (room-is-made scheme b.0 (trace p.ledger maps units requests) big wants) in
    ap (λ o. beginning scheme o (trace p.ledger maps units requests)) b.1.0 ∙ made ∙ sym (ap (λ o. beginning scheme o (trace (roomy p).ledger maps units (requests ++ room_made p))) b.1.0)

first_same : (w : Setting) (scheme : Scheme) (p : Process) (maps : List ℕ) (units : List (List ℕ)) (requests : List Asking) → 0 < scheme.pool → IsMemory p.state.memory → p.state.cpu.pc % 4 ≡ 0 → IsFull scheme.pool p →
    tr.after w scheme (p.state, true) (trace p.ledger maps units requests) ≡ tr.after w scheme (p.state, true) (trace (roomy p).ledger maps units (requests ++ room_made p))
first_same w scheme p maps units requests big good aligned full =
    ap (after_word w scheme p.state (fetched p.state.memory p.state.cpu.pc)) (same_begin scheme p maps units requests big good aligned full)

went_room : (scheme : Scheme) (more : List Asking) (p new : Process) (change : Setting → Trace → Trace) (behind : Setting → List ℕ → Marked) → 0 < scheme.pool → IsMemory p.state.memory → p.state.cpu.pc % 4 ≡ 0 → IsFull scheme.pool p →
    (g : Went scheme more (roomy p) new change behind) → (g.marks ≡ [] → ⊥) → Went scheme (room_made p ++ more) p new change behind
went_room scheme more p new change behind big good aligned full g some = elim (marks_of g.marks) [
  | inl none ↦ absurd (some none)
  | inr one ↦
      let xs : List (State × Bool) = one.1.0 in
      let first = cut_first scheme more (roomy p) new change behind g full.some full.word in
      let at : one.0 ≡ (p.state, true) = sym (firsts (p.state, true) one.0 first.0 (xs ++ (behind any []).marks) (first.1 ∙ ap (λ ms. ms ++ (behind any []).marks) one.1.1)) in
      let is : g.marks ≡ (p.state, true) ∷ xs = one.1.1 ∙ ap (λ x. x ∷ xs) at in
      record {
        marks = g.marks;
        seen = g.seen;
        counted = g.counted;
        ledger = λ w maps units requests.
            ap (λ ms. traced w scheme ms (trace p.ledger maps units requests)) is
            ∙ ap (traced w scheme xs) (first_same w scheme p maps units requests big good aligned full)
            ∙ sym (ap (λ ms. traced w scheme ms (trace (roomy p).ledger maps units (requests ++ room_made p))) is)
            ∙ g.ledger w maps units (requests ++ room_made p)
            ∙ ap (λ rs. change w (trace new.ledger maps units rs)) (append_assoc requests (room_made p) more);
      }
]

-- ---- a block was run

ends_some : (scheme : Scheme) (made : List Asking) (q new : Process) (change : Setting → Trace → Trace) (behind : Setting → List ℕ → Marked) → (g : Went scheme made q new change behind) → (q.fuel == 0) ≡ false →
    ((word : ℕ) × (fetched q.state.memory q.state.cpu.pc ≡ Ok word)) → (behind any []).marks ≡ [] → g.marks ≡ [] → ⊥
ends_some scheme made q new change behind g some word over none =
    let first = cut_first scheme made q new change behind g some word in
    let empty : g.marks ++ (behind any []).marks ≡ [] = ap (λ ms. ms ++ (behind any []).marks) none ∙ over in
    let wrong : (q.state, true) ∷ first.0 ≡ [] = first.1 ∙ empty in absurd (cc)

not_empty : (xs : List Asking) (a : Asking) → [] ≡ xs ++ a ∷ [] → ⊥
not_empty [] a e = cc
not_empty (x ∷ xs) a e = cc

-- a call that makes a request of its own
asks_some : (scheme : Scheme) (made : List Asking) (q new : Process) (change : Setting → Trace → Trace) (behind : Setting → List ℕ → Marked) (a : Asking) → (g : Went scheme made q new change behind) →
    (change any (trace new.ledger [] [] made)).requests ≡ made ++ a ∷ [] → g.marks ≡ [] → ⊥
asks_some scheme made q new change behind a g one none =
    let e = sym (ap (λ ms. traced any scheme ms (trace q.ledger [] [] [])) none) ∙ g.ledger any [] [] [] in
    not_empty made a (ap (λ (t : Trace). t.requests) e ∙ one)

no_base : (k : ℕ) → base_at any k ≡ None
no_base k = slice_get_past [] k (omega arith)

map_asks : (scheme : Scheme) (isa : Isa) (k : ℕ) (m : Memory) (t : Trace) → (mapped any scheme isa k (base_at any k) m (asking (AsksFile k) t)).requests ≡ t.requests ++ asked_at t.ledger.counts.blocks (AsksFile k) ∷ []
map_asks scheme isa k m t = ap (λ o. (mapped any scheme isa k o m (asking (AsksFile k) t)).requests) (no_base k)

-- an unmapping, where no module is known
unmap_stuck : (s : State) (fuel k : ℕ) (o : Option ℕ) (p : Option Program) → o ≡ None → (run_behind any fuel s (unmap_from s k [] o p)).states ≡ []
unmap_stuck s fuel k None None e = refl
unmap_stuck s fuel k None (Some program) e = refl
unmap_stuck s fuel k (Some base) p e = absurd (cc)

unmap_over : (max : ℕ) (s : State) (fuel k : ℕ) → cut max 0 None (run_behind any fuel s (unmap_module any s k [])).states ≡ []
unmap_over max s fuel k = ap (cut max 0 None) (unmap_stuck s fuel k (base_at any k) (program_in any (find (is_module k) s.io.mapped)) (no_base k))

goes_some : (scheme : Scheme) (made : List Asking) (q new : Process) (s : Stop) → (g : GoesOn scheme made q new) → (q.fuel == 0) ≡ false → ((word : ℕ) × (fetched q.state.memory q.state.cpu.pc ≡ Ok word)) →
    wants_room scheme.pool q.ledger q.state.cpu.pc ≡ false → stop_of scheme.pool new ≡ Some s → g.marks ≡ [] → ⊥
goes_some scheme made q new s g some word fits stops none =
    let first = cut_first scheme made q new nothing _ g some word in
    let there : cut scheme.max 0 None (run any new.fuel [] new.state).states ≡ (q.state, true) ∷ first.0 = sym (first.1 ∙ ap (λ ms. ms ++ cut scheme.max 0 None (run any new.fuel [] new.state).states) none) in
    let states = cut_from scheme.max (run any new.fuel [] new.state).states q.state first.0 there in
    let head = head_is any new.fuel new.state q.state states.0 states.1 in
    let led : q.ledger ≡ new.ledger = ap (λ (t : Trace). t.ledger) (sym (ap (λ ms. traced any scheme ms (trace q.ledger [] [] [])) none) ∙ g.ledger any [] [] []) in
    let fits' : wants_room scheme.pool new.ledger new.state.cpu.pc ≡ false = ap (λ (x : State). wants_room scheme.pool new.ledger x.cpu.pc) head.0 ∙ ap (λ l. wants_room scheme.pool l q.state.cpu.pc) (sym led) ∙ fits in
    let word' : (word : ℕ) × (fetched new.state.memory new.state.cpu.pc ≡ Ok word) = (word.0, ap (λ (x : State). fetched x.memory x.cpu.pc) head.0 ∙ word.1) in
    let wrong : None ≡ Some s = sym (none_before scheme.pool new head.1 word' fits') ∙ stops in absurd (cc)

stops_room : (scheme : Scheme) (more : List Asking) (p new : Process) (s : Stop) → 0 < scheme.pool → IsMemory p.state.memory → p.state.cpu.pc % 4 ≡ 0 → IsFull scheme.pool p → StopsIn scheme more (roomy p) new s → StopsIn scheme (room_made p ++ more) p new s
stops_room scheme more p new (stop.Ended end) big good aligned full g =
    went_room scheme more p new nothing _ big good aligned full g (ends_some scheme more (roomy p) new nothing _ g full.some full.word refl)
stops_room scheme more p new (stop.Map k) big good aligned full g =
    went_room scheme more p new _ _ big good aligned full g
    (asks_some scheme more (roomy p) new _ _ (asked_at new.ledger.counts.blocks (AsksFile k)) g (map_asks scheme new.state.cpu.isa k new.state.memory (trace new.ledger [] [] more)))
stops_room scheme more p new (stop.Unmap k) big good aligned full g =
    went_room scheme more p new _ _ big good aligned full g (ends_some scheme more (roomy p) new _ _ g full.some full.word (unmap_over scheme.max new.state new.fuel k))
stops_room scheme more p new (stop.Replace k f) big good aligned full g =
    went_room scheme more p new _ _ big good aligned full g (asks_some scheme more (roomy p) new _ _ (asked_at new.ledger.counts.blocks (MakesBe k f)) g refl)
stops_room scheme more p new stop.PoolFull big good aligned full g = absurd g

comes_room : (scheme : Scheme) (more : List Asking) (p new : Process) (s : Stop) → 0 < scheme.pool → IsMemory p.state.memory → p.state.cpu.pc % 4 ≡ 0 → IsFull scheme.pool p → Comes scheme more (roomy p) new s → Comes scheme (room_made p ++ more) p new s
comes_room scheme more p new s big good aligned full (inl before) =
    inl (went_room scheme more p new nothing _ big good aligned full before.0 (goes_some scheme more (roomy p) new s before.0 full.some full.word (fits_then scheme.pool p big) before.1), before.1)
comes_room scheme more p new s big good aligned full (inr within) = inr (stops_room scheme more p new s big good aligned full within)

-- what was run before comes first
comes_behind : (scheme : Scheme) (made more : List Asking) (old mid new : Process) (s : Stop) → GoesOn scheme made old mid → Comes scheme more mid new s → Comes scheme (made ++ more) old new s
comes_behind scheme made more old mid new s a (inl on) = inl (went-both scheme made more old mid new nothing _ a on.0, on.1)
comes_behind scheme made more old mid new s a (inr within) = inr (stops-both scheme made more old mid new s a within)

-- ---- fuel

less_behind : (scheme : Scheme) (more : List Asking) (p new : Process) (s : Stop) → 0 < scheme.pool → IsFull scheme.pool p → RanOn scheme more (roomy p) new s → new.fuel < p.fuel
less_behind scheme more p new s big full ran = elim ran.spends [
  | inl first ↦ let wrong : None ≡ Some s = sym (roomy_none scheme.pool p big full) ∙ first.1 in absurd (cc)
  | inr less ↦ less
]

less_before : (scheme : Scheme) (made : List Asking) (first p new : Process) → RanOn scheme made first p stop.PoolFull → new.fuel < p.fuel → new.fuel < first.fuel
less_before scheme made first p new ran less = elim ran.spends [
  | inl same ↦ subst (λ (q : Process). new.fuel < q.fuel) same.0 less
  | inr before ↦ omega (arith, before, less)
]

pub room-goes-on : RoomGoesOn
room-goes-on scheme made more first p new s big good aligned to ran =
    let full = came_full scheme made first p to in
    record {
      comes = comes_behind scheme made (room_made p ++ more) first p new s full.0 (comes_room scheme more p new s big good aligned full.1 ran.comes);
      spends = inr (less_before scheme made first p new to (less_behind scheme more p new s big full.1 ran));
    }

pub room-is-there : RoomIsThere
room-is-there scheme made first p big to = roomy_none scheme.pool p big (came_full scheme made first p to).1

-- ---- one segment after the other

pub offering-begins : OfferingBegins
offering-begins p = record { same = refl; ledger = refl; requests = refl }

pub one-more-offered : OneMoreOffered
one-more-offered i is made p now a = record {
  same = ap (λ (q : Process). put_to q q.state (offered i now.ledger)) a.same;
  ledger = a.ledger;
  requests = append_assoc made (offer i now.ledger) (offers is (offered i now.ledger)) ∙ a.requests;
}

pub all-are-offered : AllAreOffered
all-are-offered made p now a = record {
  becomes = ap (λ (q : Process). put_to q q.state (flushed now.ledger)) a.same ∙ ap (λ l. put_to p p.state (flushed l)) a.ledger;
  requests = sym (append-nil made) ∙ a.requests;
}
