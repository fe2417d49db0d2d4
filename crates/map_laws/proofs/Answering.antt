-- How a stop at a map call is answered.
use Rattle.std.proofs.Common.{◌≡◌, ℕ, ◌+◌, ◌/◌, ◌==◌, if◌then◌else◌, filter, drop, length, Bool, true, false, List, [], ◌∷◌, ◌++◌, Option, Some, None, Result, Ok, Err, refl, sym, ◌∙◌, ap, append_assoc}
use Rattle.std.specs.Prelude.{find, not}
use Rattle.std.specs.FinMap as fin
use Rattle.std.proofs.lemmas.List.{append-nil}
use Rattle.std.proofs.lemmas.List.Concat.{flat_map-append}
use Rattle.cc_base.specs.Image.{Code}
use Rattle.rv_decode.specs.declared.ins.Isa.{Isa}
use Rattle.plain_machine.specs.declared.access.MemErr.{MemErr}
use Rattle.plain_machine.specs.Memory.{Memory}
use Rattle.plain_machine.specs.Calls.{is_module, minus}
use Rattle.plain_machine.specs.Program.{Program, placed}
use Rattle.plain_machine.specs.Machine.{Setting, State, after_placing, after_unmap, base_at, file_at, map_file, map_module, program_in, unmap_from, unmap_module, with_result}
use Rattle.plain_machine.specs.Run.{run, run_behind}
use Rattle.plain_machine.specs.Cut.{Marked, marked, with_marks}
use Rattle.plain_machine.specs.Events.{events, seen}
use Rattle.plain_machine.proofs.RunLaws.{with-more}
use Rattle.engine.specs.Seeing.{with_events}
use Rattle.engine.proofs.Counting.{events-counted}
use Rattle.block_ledger.specs.Ledger.{Ledger, Segment, all_offered, attached, candidates, offered, offered_to, segment_of, unmapped, with_offered}
use Rattle.block_ledger.specs.Requests.{Asking, AsksFile, AsksUnit, MakesBe, asked_at, parting, partings, segments_of, unit_asks}
use Rattle.block_ledger.proofs.Gets.{kept-insert}
use Rattle.block_ledger.specs.Traced.{Scheme, Trace, after, all_attached, codes_of, if_placed, letting_go, mapped, module_unmapped, on_ledger, program_mapped, traced, unit_blocks}
use Rattle.guest_proc.specs.Process.{Process, Went, trace}
use Rattle.guest_proc.specs.Maps.{placed_state, put_to}
use Rattle.map_laws.specs.Came.{Came, Goes, gone_from}
use Rattle.map_laws.specs.Laws.{MapIsAnswered, MapIsRefused, MapIsUnknown, MapWaits, OneMoreAttached, OneMoreLeaves, PlacedAttaches, ReplaceIsAnswered, ReplaceWaits, UnmapIsAnswered, UnmapLeaves, UnmapWaits}
use Rattle.map_laws.proofs.Stopping.{comes-asking}

traced_append : (w : Setting) (scheme : Scheme) (xs ys : List (State × Bool)) (t : Trace) → traced w scheme (xs ++ ys) t ≡ traced w scheme ys (traced w scheme xs t)
traced_append w scheme [] ys t = refl
traced_append w scheme (x ∷ xs) ys t = traced_append w scheme xs ys (after w scheme x t)

-- what is made comes behind what was made before
one_further : (before requests made later : List Asking) → (before ++ requests) ++ (made ++ later) ≡ (before ++ (requests ++ made)) ++ later
one_further before requests made later = sym (append_assoc (before ++ requests) made later) ∙ ap (λ xs. xs ++ later) (append_assoc before requests made)

-- what was run and answered up to mid, and what is run from there
pub came-more : (w : Setting) (scheme : Scheme) (maps : List ℕ) (units : List (List ℕ)) (requests made : List Asking) (old mid new : Process) (change : Setting → Trace → Trace) (behind : Setting → List ℕ → Marked) →
    Goes w scheme maps units requests old mid → Went scheme made mid new change behind → Came w scheme maps units (requests ++ made) old new (change w) (behind w)
came-more w scheme maps units requests made old mid new change behind a b = record {
  marks = a.marks ++ b.marks;
  seen = λ more. a.seen more ∙ ap (with_marks a.marks) (b.seen w more) ∙ with-more a.marks b.marks (behind w more);
  counted = events-counted (events scheme.tool a.marks) (events scheme.tool b.marks) old.report mid.report new.report a.counted b.counted
      ∙ ap (λ es. with_events es old.report) (sym (flat_map-append (seen scheme.tool) a.marks b.marks));
  ledger = λ more rest before.
      traced_append w scheme a.marks b.marks (trace old.ledger (maps ++ more) (units ++ rest) before)
      ∙ ap (traced w scheme b.marks) (a.ledger more rest before)
      ∙ b.ledger w more rest (before ++ requests)
      ∙ ap (λ rs. change w (trace new.ledger more rest rs)) (append_assoc before requests made);
}

-- one more map answer is taken
took : (w : Setting) (scheme : Scheme) (maps : List ℕ) (f : ℕ) (units : List (List ℕ)) (requests now : List Asking) (old mid new : Process) (change then_done : Trace → Trace) (behind next : List ℕ → Marked) →
    Came w scheme maps units requests old mid change behind → new.report ≡ mid.report →
    ((more : List ℕ) (rest : List (List ℕ)) (before : List Asking) → change (trace mid.ledger (f ∷ more) rest (before ++ requests)) ≡ then_done (trace new.ledger more rest (before ++ now))) →
    ((more : List ℕ) → behind (f ∷ more) ≡ next more) → Came w scheme (maps ++ f ∷ []) units now old new then_done next
took w scheme maps f units requests now old mid new change then_done behind next a same e h = record {
  marks = a.marks;
  seen = λ more. ap (λ xs. marked scheme.max (run w old.fuel xs old.state)) (append_assoc maps (f ∷ []) more) ∙ a.seen (f ∷ more) ∙ ap (with_marks a.marks) (h more);
  counted = same ∙ a.counted;
  ledger = λ more rest before. ap (λ xs. traced w scheme a.marks (trace old.ledger xs (units ++ rest) before)) (append_assoc maps (f ∷ []) more) ∙ a.ledger (f ∷ more) rest before ∙ e more rest before;
}

-- none is taken
answers : (w : Setting) (scheme : Scheme) (maps : List ℕ) (units : List (List ℕ)) (requests now : List Asking) (old mid new : Process) (change then_done : Trace → Trace) (behind next : List ℕ → Marked) →
    Came w scheme maps units requests old mid change behind → new.report ≡ mid.report →
    ((more : List ℕ) (rest : List (List ℕ)) (before : List Asking) → change (trace mid.ledger more rest (before ++ requests)) ≡ then_done (trace new.ledger more rest (before ++ now))) →
    ((more : List ℕ) → behind more ≡ next more) → Came w scheme maps units now old new then_done next
answers w scheme maps units requests now old mid new change then_done behind next a same e h = record {
  marks = a.marks;
  seen = λ more. a.seen more ∙ ap (with_marks a.marks) (h more);
  counted = same ∙ a.counted;
  ledger = λ more rest before. a.ledger more rest before ∙ e more rest before;
}

-- ---- stops

pub map-waits : MapWaits
map-waits w scheme maps units requests made old mid new k a b = came-more w scheme maps units requests made old mid new _ _ a (comes-asking scheme made mid new _ (λ x. x) b)

pub unmap-waits : UnmapWaits
unmap-waits w scheme maps units requests made old mid new k a b = came-more w scheme maps units requests made old mid new _ _ a (comes-asking scheme made mid new _ (λ x. x) b)

pub replace-waits : ReplaceWaits
replace-waits w scheme maps units requests made old mid new k f a b = came-more w scheme maps units requests made old mid new _ _ a (comes-asking scheme made mid new _ (λ x. x) b)

-- ---- a module is mapped

-- its file was asked for
abbrev asked_file : ℕ → Process → List Asking
asked_file k new = asked_at new.ledger.counts.blocks (AsksFile k) ∷ []

-- what its file comes to is done to the ledger
file_trace : (w : Setting) (scheme : Scheme) (isa : Isa) (k base f : ℕ) (program : Program) (m : Memory) (r : Result Memory MemErr) (led : Ledger) (more : List ℕ) (rest : List (List ℕ)) (before requests made : List Asking) →
    base_at w k ≡ Some base → file_at w f ≡ Some program → placed program base m ≡ r →
    mapped w scheme isa k (base_at w k) m (trace led (f ∷ more) rest ((before ++ requests) ++ made)) ≡ if_placed scheme isa k f (codes_of program base) r (trace led more rest (before ++ (requests ++ made)))
file_trace w scheme isa k base f program m r led more rest before requests made at_base at_file made_so =
    ap (λ o. mapped w scheme isa k o m (trace led (f ∷ more) rest ((before ++ requests) ++ made))) at_base
    ∙ ap (λ o. program_mapped scheme isa k base f m o (trace led more rest ((before ++ requests) ++ made))) at_file
    ∙ ap (λ x. if_placed scheme isa k f (codes_of program base) x (trace led more rest ((before ++ requests) ++ made))) made_so
    ∙ ap (λ rs. if_placed scheme isa k f (codes_of program base) r (trace led more rest rs)) (append_assoc before requests made)

-- and to the run
file_run : (w : Setting) (max fuel k base f : ℕ) (program : Program) (s : State) (r : Result Memory MemErr) (more : List ℕ) →
    base_at w k ≡ Some base → file_at w f ≡ Some program → placed program base s.memory ≡ r →
    marked max (run_behind w fuel s (map_module w s k (f ∷ more) (base_at w k))) ≡ marked max (run w fuel more (after_placing s k f r))
file_run w max fuel k base f program s r more at_base at_file made =
    ap (λ o. marked max (run_behind w fuel s (map_module w s k (f ∷ more) o))) at_base
    ∙ ap (λ o. marked max (run_behind w fuel s (map_file s k base f more o))) at_file
    ∙ ap (λ x. marked max (run w fuel more (after_placing s k f x))) made

pub placed-attaches : PlacedAttaches
placed-attaches w scheme maps units requests old new k base f program m a at_base at_file made =
    took w scheme maps f units requests (requests ++ asked_file k new) old new (put_to new (placed_state new.state k f m) new.ledger) _ _ _ _ a refl
    (λ more rest before. file_trace w scheme new.state.cpu.isa k base f program new.state.memory (Ok m) new.ledger more rest before requests (asked_file k new) at_base at_file made)
    (λ more. file_run w scheme.max new.fuel k base f program new.state (Ok m) more at_base at_file made)

pub map-is-refused : MapIsRefused
map-is-refused w scheme maps units requests old new k base f program e a at_base at_file made =
    took w scheme maps f units requests (requests ++ asked_file k new) old new (put_to new (with_result new.state (minus 12)) new.ledger) _ _ _ _ a refl
    (λ more rest before. file_trace w scheme new.state.cpu.isa k base f program new.state.memory (Err e) new.ledger more rest before requests (asked_file k new) at_base at_file made)
    (λ more. file_run w scheme.max new.fuel k base f program new.state (Err e) more at_base at_file made)

pub map-is-unknown : MapIsUnknown
map-is-unknown w scheme maps units requests old new k a none =
    answers w scheme maps units requests (requests ++ asked_file k new) old new (put_to new (with_result new.state (minus 22)) new.ledger) _ _ _ _ a refl
    (λ more rest before.
    ap (λ o. mapped w scheme new.state.cpu.isa k o new.state.memory (trace new.ledger more rest ((before ++ requests) ++ asked_file k new))) none
    ∙ ap (trace new.ledger more rest) (append_assoc before requests (asked_file k new)))
    (λ more. ap (λ o. marked scheme.max (run_behind w new.fuel new.state (map_module w new.state k more o))) none)

pub one-more-attached : OneMoreAttached
one-more-attached w scheme k f seg code codes maps units requests unit old new a =
    let asked : List Asking = asked_at new.ledger.counts.blocks (AsksUnit (segment_of k seg) f) ∷ [] in
    let led : Ledger = attached (segment_of k seg) code (unit_blocks scheme new.state.cpu.isa code unit) new.ledger in
    record {
      marks = a.marks;
      seen = a.seen;
      counted = a.counted;
      ledger = λ more rest before.
          ap (λ us. traced w scheme a.marks (trace old.ledger (maps ++ more) us before)) (append_assoc units (unit ∷ []) rest)
          ∙ a.ledger more (unit ∷ rest) before
          ∙ ap (trace (all_attached scheme new.state.cpu.isa k (seg + 1) codes rest led) more (drop (length codes) rest)) (one_further before requests asked (unit_asks k f (seg + 1) codes new.ledger.counts.blocks));
    }

pub map-is-answered : MapIsAnswered
map-is-answered w scheme k f seg maps units requests old new a =
    answers w scheme maps units requests requests old new (put_to new (with_result new.state 0) new.ledger) _ _ _ _ a refl (λ more rest before. ap (trace new.ledger more rest) (append-nil (before ++ requests))) (λ more. refl)

-- ---- a module is unmapped

-- the marks of what was offered go with the segments
unmapped_offered : (k i : ℕ) (codes : List Code) (o : Option Segment) (led : Ledger) → (i / 4 == k) ≡ true → unmapped k codes (offered_to i o led) ≡ unmapped k codes led
unmapped_offered k i codes None led own = refl
unmapped_offered k i codes (Some seg) led own =
    let gone : not (i / 4 == k) ≡ false = rw own refl in
    ap (λ s. record (unmapped k codes led) { segments = s }) (kept-insert led.segments i (with_offered seg (candidates seg led)) (λ j. not (j / 4 == k)) ∙ rw gone refl)

unmapped_by : (k i : ℕ) (codes : List Code) (is : List ℕ) (b : Bool) (led : Ledger) → (i / 4 == k) ≡ b → ((l : Ledger) → unmapped k codes (all_offered is l) ≡ unmapped k codes l) →
    unmapped k codes (all_offered (if b then i ∷ is else is) led) ≡ unmapped k codes led
unmapped_by k i codes is true led own rest = rest (offered i led) ∙ unmapped_offered k i codes (fin.get led.segments i) led own
unmapped_by k i codes is false led own rest = rest led

unmapped_all : (k : ℕ) (codes : List Code) (is : List ℕ) (led : Ledger) → unmapped k codes (all_offered (filter (λ i. i / 4 == k) is) led) ≡ unmapped k codes led
unmapped_all k codes [] led = refl
unmapped_all k codes (i ∷ is) led = unmapped_by k i codes (filter (λ i. i / 4 == k) is) (i / 4 == k) led refl (λ l. unmapped_all k codes is l)

gone_trace : (w : Setting) (k base : ℕ) (program : Program) (o : Option Program) (led : Ledger) (more : List ℕ) (rest : List (List ℕ)) (requests : List Asking) → base_at w k ≡ Some base → o ≡ Some program →
    on_ledger (module_unmapped k (base_at w k) o) (letting_go (segments_of k led) (trace led more rest requests)) ≡ gone_from k (codes_of program base) (segments_of k led) (trace led more rest requests)
gone_trace w k base program o led more rest requests at_base is =
    let asks : List Asking = requests ++ partings (segments_of k led) led in
    ap (λ b. trace (module_unmapped k b o led) more rest asks) at_base
    ∙ ap (λ p. trace (module_unmapped k (Some base) p led) more rest asks) is
    ∙ ap (λ l. trace l more rest asks) (sym (unmapped_all k (codes_of program base) (fin.keys led.segments) led))

unmap_run : (w : Setting) (max fuel k base : ℕ) (program : Program) (s : State) (more : List ℕ) → base_at w k ≡ Some base → program_in w (find (is_module k) s.io.mapped) ≡ Some program →
    marked max (run_behind w fuel s (unmap_module w s k more)) ≡ marked max (run w fuel more (after_unmap s k base program))
unmap_run w max fuel k base program s more at_base is =
    ap (λ b. marked max (run_behind w fuel s (unmap_from s k more b (program_in w (find (is_module k) s.io.mapped))))) at_base
    ∙ ap (λ p. marked max (run_behind w fuel s (unmap_from s k more (Some base) p))) is

pub unmap-leaves : UnmapLeaves
unmap-leaves w scheme maps units requests old new k base program a at_base is =
    answers w scheme maps units requests requests old new new _ _ _ _ a refl
    (λ more rest before. gone_trace w k base program (program_in w (find (is_module k) new.state.io.mapped)) new.ledger more rest (before ++ requests) at_base is)
    (λ more. unmap_run w scheme.max new.fuel k base program new.state more at_base is)

pub one-more-leaves : OneMoreLeaves
one-more-leaves w scheme k base program i is maps units requests old new a =
    let led : Ledger = unmapped k (codes_of program base) (all_offered is (offered i new.ledger)) in
    answers w scheme maps units requests (requests ++ parting i new.ledger) old new (put_to new new.state (offered i new.ledger)) _ _ _ _ a refl
    (λ more rest before. ap (trace led more rest) (one_further before requests (parting i new.ledger) (partings is (offered i new.ledger))))
    (λ more. refl)

pub unmap-is-answered : UnmapIsAnswered
unmap-is-answered w scheme k base program maps units requests old new a =
    let led : Ledger = unmapped k (codes_of program base) new.ledger in
    answers w scheme maps units requests requests old new (put_to new (after_unmap new.state k base program) led) _ _ _ _ a refl (λ more rest before. ap (trace led more rest) (append-nil (before ++ requests))) (λ more. refl)

pub replace-is-answered : ReplaceIsAnswered
replace-is-answered w scheme maps units requests old new k f a =
    let asked : List Asking = asked_at new.ledger.counts.blocks (MakesBe k f) ∷ [] in
    answers w scheme maps units requests (requests ++ asked) old new (put_to new _ new.ledger) _ _ _ _ a refl (λ more rest before. ap (trace new.ledger more rest) (append_assoc before requests asked)) (λ more. refl)
