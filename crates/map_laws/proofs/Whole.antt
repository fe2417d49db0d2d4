-- The end of a run.
use Rattle.std.proofs.Common.{◌≡◌, ℕ, ◌+◌, Bool, List, [], ◌∷◌, ◌++◌, drop, length, map, Option, Some, None, refl, sym, ◌∙◌, ap, subst, arith, append_assoc}
use Rattle.std.specs.Option.{option_to_list}
use Rattle.std.specs.Ordering.{nat_cmp}
use Rattle.std.specs.FinMap as fin
use Rattle.std.proofs.lemmas.List.{append-nil}
use Rattle.cc_base.specs.Image.{Code}
use Rattle.rv_decode.specs.declared.ins.Isa.{Isa}
use Rattle.probe_tools.specs.declared.event.Event.{Event}
use Rattle.probe_tools.specs.Rows.{AreRows, Counts, key_of, with_more}
use Rattle.probe_tools.proofs.Counting.{rows_more}
use Rattle.plain_machine.specs.declared.ends.End.{End}
use Rattle.plain_machine.specs.Region.{Area}
use Rattle.plain_machine.specs.Machine.{Setting, State, Guest, file_at}
use Rattle.plain_machine.specs.Run.{Run, run, plain, run_of, run_from}
use Rattle.plain_machine.specs.Cut.{Marked, cut, marked, with_marks, over}
use Rattle.plain_machine.specs.Own.{own_answers}
use Rattle.plain_machine.specs.Events.{events}
use Rattle.report.specs.Rows.{Rows}
use Rattle.engine.specs.Seeing.{counting, with_events}
use Rattle.block_ledger.specs.Ledger.{Ledger, attached, offered, segment_of, new_ledger}
use Rattle.block_ledger.specs.Requests.{Asking, AsksFile, asked_at, parting, partings, unit_asks}
use Rattle.block_ledger.specs.Traced.{Scheme, Trace, all_attached, asking, codes_of, first_trace, run_trace, if_started, started, started_at, traced, unit_blocks}
use Rattle.guest_proc.specs.declared.stop.Stop.TheVariants as stop
use Rattle.guest_proc.specs.Process.{Comes, Process, nothing, trace}
use Rattle.map_laws.specs.Came.{Came, Goes, attached_from, done}
use Rattle.map_laws.specs.Whole.{AllAreLetGo, ClosingBegins, EndIsOwn, EndIsWhole, IsFirst, OneMoreLetGo, first_asks}
use Rattle.map_laws.proofs.Answering.{came-more}
use Rattle.map_laws.proofs.Calling.{own-requests}
use Rattle.map_laws.proofs.Stopping.{comes-ended}

-- ---- rows

rows_counting : (es before : List Event) (counts : Counts) → AreRows before counts → AreRows (before ++ es) (counting es counts)
rows_counting [] before counts are = subst (λ xs. AreRows xs counts) (sym (append-nil before)) are
rows_counting (e ∷ es) before counts are =
    subst (λ xs. AreRows xs (counting es (with_more (key_of e) 1 counts))) (append_assoc before (e ∷ []) es)
    (rows_counting es (before ++ e ∷ []) (with_more (key_of e) 1 counts) (rows_more before e counts are))

no_rows : (counts : Counts) → counts ≡ fin.empty → AreRows [] counts
no_rows counts empty key = ap (λ c. fin.get c key) empty ∙ fin.get-empty nat_cmp key

-- an empty report that counted these events has their rows
pub rows-of : (es : List Event) (old new : Rows) → old.counts ≡ fin.empty → new ≡ with_events es old → AreRows es new.counts
rows-of es old new empty is = subst (λ (r : Rows). AreRows es r.counts) (sym is) (rows_counting es [] old.counts (no_rows old.counts empty))

-- ---- units

-- units of all these segments are attached, and the others are left
all_taken : (scheme : Scheme) (isa : Isa) (k seg : ℕ) (codes : List Code) (units rest : List (List ℕ)) (led : Ledger) → length units ≡ length codes →
    (all_attached scheme isa k seg codes (units ++ rest) led ≡ all_attached scheme isa k seg codes units led) × (drop (length codes) (units ++ rest) ≡ rest)
all_taken scheme isa k seg [] [] rest led e = (refl, refl)
all_taken scheme isa k seg [] (u ∷ us) rest led e = absurd (cc)
all_taken scheme isa k seg (c ∷ cs) [] rest led e = absurd (cc)
all_taken scheme isa k seg (c ∷ cs) (u ∷ us) rest led e = all_taken scheme isa k (seg + 1) cs us rest (attached (segment_of k seg) c (unit_blocks scheme isa c u) led) (omega (arith, e))

pub all-taken : (scheme : Scheme) (isa : Isa) (k f seg : ℕ) (codes : List Code) (units rest : List (List ℕ)) (led : Ledger) (maps : List ℕ) (requests : List Asking) → length units ≡ length codes →
    attached_from scheme isa k f seg codes (trace led maps (units ++ rest) requests) ≡ trace (all_attached scheme isa k seg codes units led) maps rest (requests ++ unit_asks k f seg codes led.counts.blocks)
all-taken scheme isa k f seg codes units rest led maps requests e =
    let both = all_taken scheme isa k seg codes units rest led e in
    let asks : List Asking = requests ++ unit_asks k f seg codes led.counts.blocks in
    ap (λ l. trace l maps (drop (length codes) (units ++ rest)) asks) both.0 ∙ ap (λ us. trace (all_attached scheme isa k seg codes units led) maps us asks) both.1

-- ---- the start

module _ (w : Setting) (scheme : Scheme) (g : Guest) (f : ℕ) (before : List (List ℕ)) (first : Process) (s : IsFirst w scheme g f before first) where
  -- the plain run is the run from there
  plain_is : (maps : List ℕ) → plain w g (f ∷ maps) ≡ run w first.fuel maps first.state
  plain_is maps =
      ap (λ o. run_of w g f maps o (file_at w f)) s.stands
      ∙ ap (run_of w g f maps (Some s.base)) s.known
      ∙ ap (run_from w g maps) s.starts
      ∙ ap (λ fuel. run w fuel maps first.state) (sym s.fuel)

  abbrev asked : List Asking
  asked = first_asks g.program f (codes_of s.program s.base)

  -- and so is the ledger
  started_is : (maps : List ℕ) (units : List (List ℕ)) → started w scheme g (f ∷ maps) (before ++ units) ≡ trace first.ledger maps units asked
  started_is maps units =
      let t : Trace = asking (AsksFile g.program) (first_trace maps (before ++ units)) in
      ap (λ o. started_at scheme g f o (file_at w f) t) s.stands
      ∙ ap (λ o. started_at scheme g f (Some s.base) o t) s.known
      ∙ ap (λ o. if_started scheme g.isa g.program f (codes_of s.program s.base) o t) s.starts
      ∙ all-taken scheme g.isa g.program f 0 (codes_of s.program s.base) before units new_ledger maps (asked_at 0 (AsksFile g.program) ∷ []) s.size
      ∙ ap (λ led. trace led maps units asked) (sym s.ledger)

abbrev states_of : List (State × Bool) → List State
states_of marks = map (λ x. x.0) marks

-- the states of a cut are those that were cut
cut_states : (max : ℕ) (states : List State) (room : ℕ) (place : Option Area) → states_of (cut max room place states) ≡ states
cut_states max [] room place = refl
cut_states max (s ∷ states) room place = ap (λ xs. s ∷ xs) (cut_states max states _ _)

-- ---- the end

-- the whole run from a state, with these marks
record Ends (w : Setting) (scheme : Scheme) (maps : List ℕ) (units : List (List ℕ)) (requests : List Asking) (first new : Process) (end : End) : Type 0 where
  marks : List (State × Bool)
  seen : marked scheme.max (run w first.fuel maps first.state) ≡ with_marks marks (over end new.state.io.output [])
  counted : new.report ≡ with_events (events scheme.tool marks) first.report
  ledger : (before : List Asking) → traced w scheme marks (trace first.ledger maps units before) ≡ trace new.ledger [] [] (before ++ requests)

ends_so : (w : Setting) (scheme : Scheme) (maps : List ℕ) (units : List (List ℕ)) (requests made : List Asking) (first mid new : Process) (end : End) →
    Goes w scheme maps units requests first mid → Comes scheme made mid new (stop.Ended end) → Ends w scheme maps units (requests ++ made) first new end
ends_so w scheme maps units requests made first mid new end a b =
    let c : Came w scheme maps units (requests ++ made) first new done (λ more. over end new.state.io.output more) =
    came-more w scheme maps units requests made first mid new nothing (λ x answers. over end new.state.io.output answers) a (comes-ended scheme made mid new end b) in
    record {
      marks = c.marks;
      seen = ap (λ xs. marked scheme.max (run w first.fuel xs first.state)) (sym (append-nil maps)) ∙ c.seen [];
      counted = c.counted;
      ledger = λ before. ap (λ xs. traced w scheme c.marks (trace first.ledger xs units before)) (sym (append-nil maps))
          ∙ ap (λ us. traced w scheme c.marks (trace first.ledger (maps ++ []) us before)) (sym (append-nil units)) ∙ c.ledger [] [] before;
    }

-- what is cut of the whole run
record IsCut (w : Setting) (scheme : Scheme) (g : Guest) (maps : List ℕ) (end : End) (output : List ℕ) (marks : List (State × Bool)) : Type 0 where
  cuts : cut scheme.max 0 None (plain w g maps).states ≡ marks
  ends : (plain w g maps).end ≡ Some end
  left : (plain w g maps).left ≡ []
  wrote : (plain w g maps).output ≡ output

cut_so : (w : Setting) (scheme : Scheme) (g : Guest) (f : ℕ) (maps : List ℕ) (before units : List (List ℕ)) (requests : List Asking) (first new : Process) (end : End) → IsFirst w scheme g f before first →
    (e : Ends w scheme maps units requests first new end) → IsCut w scheme g (f ∷ maps) end new.state.io.output e.marks
cut_so w scheme g f maps before units requests first new end s e =
    let whole : plain w g (f ∷ maps) ≡ run w first.fuel maps first.state = plain_is w scheme g f before first s maps in
    let cuts : cut scheme.max 0 None (run w first.fuel maps first.state).states ≡ e.marks = ap (λ (v : Marked). v.marks) e.seen ∙ append-nil e.marks in
    record {
      cuts = ap (λ (x : Run). cut scheme.max 0 None x.states) whole ∙ cuts;
      ends = ap (λ (x : Run). x.end) whole ∙ ap (λ (v : Marked). v.end) e.seen;
      left = ap (λ (x : Run). x.left) whole ∙ ap (λ (v : Marked). v.left) e.seen;
      wrote = ap (λ (x : Run). x.output) whole ∙ ap (λ (v : Marked). v.output) e.seen;
    }

pub end-is-whole : EndIsWhole
end-is-whole w scheme g f maps before units requests made first mid new end s a b =
    let e = ends_so w scheme maps units requests made first mid new end a b in
    let c = cut_so w scheme g f maps before units (requests ++ made) first new end s e in
    let trace_is = ap (λ xs. traced w scheme xs (started w scheme g (f ∷ maps) (before ++ units))) c.cuts ∙ ap (traced w scheme e.marks) (started_is w scheme g f before first s maps units)
    ∙ e.ledger (first_asks g.program f (codes_of s.program s.base)) in
    record {
      complete = record { ends = c.ends; took_all = c.left };
      wrote = c.wrote;
      rows = subst (λ xs. AreRows (events scheme.tool xs) new.report.counts) (sym c.cuts) (rows-of (events scheme.tool e.marks) first.report new.report s.empty e.counted);
      ledger = ap (λ (t : Trace). t.ledger) trace_is;
      asked = ap (λ (t : Trace). t.requests) trace_is;
    }

pub end-is-own : EndIsOwn
end-is-own w scheme g files f maps before units requests made first mid new end s named a b answered =
    let e = ends_so w scheme maps units requests made first mid new end a b in
    let c = cut_so w scheme g f maps before units (requests ++ made) first new end s e in
    let states : states_of e.marks ≡ (plain w g (f ∷ maps)).states = ap states_of (sym c.cuts) ∙ cut_states scheme.max (plain w g (f ∷ maps)).states 0 None in
    let own : maps ≡ own_answers w files (plain w g (f ∷ maps)).states =
    answered ∙ own-requests w scheme e.marks (trace first.ledger maps units []) (requests ++ made) files refl (ap (λ (t : Trace). t.requests) (e.ledger [])) ∙ ap (own_answers w files) states in
    ap (λ xs. f ∷ xs) own ∙ ap (λ o. option_to_list o ++ own_answers w files (plain w g (f ∷ maps)).states) (sym named)

-- ---- behind the end

pub closing-begins : ClosingBegins
closing-begins w scheme g maps units requests end new r =
    let t : Trace = run_trace w scheme g maps units in
    ap (λ l. t.requests ++ partings (fin.keys l.segments) l) r.ledger ∙ ap (λ rs. rs ++ partings (fin.keys new.ledger.segments) new.ledger) r.asked

pub one-more-let-go : OneMoreLetGo
one-more-let-go w scheme g maps units i is requests new a = a ∙ sym (append_assoc requests (parting i new.ledger) (partings is (offered i new.ledger)))

pub all-are-let-go : AllAreLetGo
all-are-let-go w scheme g maps units requests new a = a ∙ append-nil requests
