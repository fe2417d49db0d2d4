-- The requests that a run is traced to make take the answers that its states' actions take.
use Rattle.std.proofs.Common.{◌≡◌, ℕ, ◌+◌, Bool, true, false, if◌then◌else◌, List, [], ◌∷◌, ◌++◌, map, Option, Some, None, Result, Ok, Err, refl, sym, ◌∙◌, ap, append_assoc}
use Rattle.std.specs.FinMap as fin
use Rattle.std.proofs.lemmas.List.{append-nil}
use Rattle.rv_decode.specs.declared.ins.Ins.{Ins}
use Rattle.rv_decode.specs.declared.ins.Isa.{Isa}
use Rattle.rv_decode.specs.Table.{instruction}
use Rattle.cc_base.specs.Image.{Code}
use Rattle.plain_machine.specs.declared.access.Access.{Access}
use Rattle.plain_machine.specs.declared.access.MemErr.{MemErr}
use Rattle.plain_machine.specs.declared.cpu.Done.TheVariants as done
use Rattle.plain_machine.specs.declared.io.Asked.TheVariants as asked
use Rattle.plain_machine.specs.Memory.{Memory, fetched}
use Rattle.plain_machine.specs.Step.{Outcome, step}
use Rattle.plain_machine.specs.Calls.{Reply, called}
use Rattle.plain_machine.specs.Program.{Program, placed}
use Rattle.plain_machine.specs.Machine.{State, Setting, Action, Unfetched, action, action_at, base_at, file_at, replied, stepped}
use Rattle.plain_machine.specs.Own.{files_after, own_answers, taken_by}
use Rattle.fragment.specs.Parts.{Parts}
use Rattle.block_ledger.specs.Ledger.{Ledger, Segment, candidates, left_by, offered, wants_room}
use Rattle.block_ledger.specs.Requests.{Asking, AsksFile, LetsGo, MakesBe, asked_at, offer, offer_some, offer_to, offers, parting, partings, segments_of, unit_asks}
use Rattle.block_ledger.specs.Traced.{Scheme, Trace, after, after_call, after_step, after_word, asking, beginning, block_at, codes_of, file_mapped, if_placed, mapped, on_ledger, program_mapped, room_asks, traced}
use Rattle.map_laws.specs.Own.{TakesNone, OffersTakeNone, PartingsTakeNone, UnitsTakeNone, answer_to, answers_to, files_behind, last_files}

-- ---- requests that take none

pub take-nothing : TakesNone []
take-nothing = record { answers = λ w files more. refl; files = λ w files more. refl }

pub take-both : (xs ys : List Asking) → TakesNone xs → TakesNone ys → TakesNone (xs ++ ys)
take-both xs ys a b = record {
  answers = λ w files more. ap (answers_to w files) (append_assoc xs ys more) ∙ a.answers w files (ys ++ more) ∙ b.answers w files more;
  files = λ w files more. ap (last_files w files) (append_assoc xs ys more) ∙ a.files w files (ys ++ more) ∙ b.files w files more;
}

some_none : (i : ℕ) (addresses : List ℕ) (blocks : ℕ) → TakesNone (offer_some i addresses blocks)
some_none i [] blocks = take-nothing
some_none i (a ∷ addresses) blocks = record { answers = λ w files more. refl; files = λ w files more. refl }

offer_none : (i : ℕ) (o : Option Segment) (led : Ledger) → TakesNone (offer_to i o led)
offer_none i None led = take-nothing
offer_none i (Some seg) led = some_none i (map (λ e. e.0) (candidates seg led)) led.counts.blocks

pub offers-none : OffersTakeNone
offers-none [] led = take-nothing
offers-none (i ∷ is) led = take-both (offer i led) (offers is (offered i led)) (offer_none i (fin.get led.segments i) led) (offers-none is (offered i led))

pub parting-none : (i : ℕ) (led : Ledger) → TakesNone (parting i led)
parting-none i led = take-both (offer i led) (asked_at led.counts.blocks (LetsGo i) ∷ []) (offer_none i (fin.get led.segments i) led) (record { answers = λ w files more. refl; files = λ w files more. refl })

pub partings-none : PartingsTakeNone
partings-none [] led = take-nothing
partings-none (i ∷ is) led = take-both (parting i led) (partings is (offered i led)) (parting-none i led) (partings-none is (offered i led))

pub units-none : UnitsTakeNone
units-none k f seg [] blocks = take-nothing
units-none k f seg (code ∷ codes) blocks =
    let rest = units-none k f (seg + 1) codes blocks in
    record { answers = λ w files more. rest.answers w files more; files = λ w files more. rest.files w files more }

-- they change nothing behind others
pub answers-still : (w : Setting) (files : List ℕ) (xs made : List Asking) → TakesNone made → answers_to w files (xs ++ made) ≡ answers_to w files xs
answers-still w files [] made n = ap (answers_to w files) (sym (append-nil made)) ∙ n.answers w files []
answers-still w files (x ∷ xs) made n = ap (λ ys. answer_to files x.request ++ ys) (answers-still w (files_behind w files x.request) xs made n)

pub files-still : (w : Setting) (files : List ℕ) (xs made : List Asking) → TakesNone made → last_files w files (xs ++ made) ≡ last_files w files xs
files-still w files [] made n = ap (last_files w files) (sym (append-nil made)) ∙ n.files w files []
files-still w files (x ∷ xs) made n = files-still w (files_behind w files x.request) xs made n

-- ---- what is made behind others

module _ (w : Setting) where
  -- the requests made since take what this action takes
  record Adds (a : Action) (old new : List Asking) : Type 0 where
    made : List Asking
    is : new ≡ old ++ made
    takes : (files : List ℕ) (more : List Asking) → answers_to w files (made ++ more) ≡ taken_by files a ++ answers_to w (files_after w files a) more

  -- none was made
  same_then : (old : List Asking) → Adds Unfetched old old
  same_then old = record { made = []; is = sym (append-nil old); takes = λ files more. refl }

  -- these were, which take none
  none_then : (old made : List Asking) → TakesNone made → Adds Unfetched old (old ++ made)
  none_then old made n = record { made = made; is = refl; takes = λ files more. n.answers w files more }

  before_then : (a : Action) (old mid new : List Asking) → Adds Unfetched old mid → Adds a mid new → Adds a old new
  before_then a old mid new x y = record {
    made = x.made ++ y.made;
    is = y.is ∙ ap (λ rs. rs ++ y.made) x.is ∙ append_assoc old x.made y.made;
    takes = λ files more. ap (answers_to w files) (append_assoc x.made y.made more) ∙ x.takes files (y.made ++ more) ∙ y.takes files more;
  }

  behind_then : (a : Action) (old mid new : List Asking) → Adds a old mid → Adds Unfetched mid new → Adds a old new
  behind_then a old mid new x y = record {
    made = x.made ++ y.made;
    is = y.is ∙ ap (λ rs. rs ++ y.made) x.is ∙ append_assoc old x.made y.made;
    takes = λ files more.
        ap (answers_to w files) (append_assoc x.made y.made more) ∙ x.takes files (y.made ++ more)
        ∙ ap (λ xs. taken_by files a ++ xs) (y.takes (files_after w files a) more);
  }

  -- ---- a map call

  placed_adds : (scheme : Scheme) (isa : Isa) (k f : ℕ) (codes : List Code) (r : Result Memory MemErr) (t : Trace) → Adds Unfetched t.requests (if_placed scheme isa k f codes r t).requests
  placed_adds scheme isa k f codes (Ok m) t = none_then t.requests (unit_asks k f 0 codes t.ledger.counts.blocks) (units-none k f 0 codes t.ledger.counts.blocks)
  placed_adds scheme isa k f codes (Err e) t = same_then t.requests

  program_adds : (scheme : Scheme) (isa : Isa) (k base f : ℕ) (m : Memory) (o : Option Program) (t : Trace) → Adds Unfetched t.requests (program_mapped scheme isa k base f m o t).requests
  program_adds scheme isa k base f m None t = same_then t.requests
  program_adds scheme isa k base f m (Some program) t = placed_adds scheme isa k f (codes_of program base) (placed program base m) t

  file_adds : (scheme : Scheme) (isa : Isa) (k base : ℕ) (m : Memory) (maps : List ℕ) (t : Trace) → Adds Unfetched t.requests (file_mapped w scheme isa k base m maps t).requests
  file_adds scheme isa k base m [] t = same_then t.requests
  file_adds scheme isa k base m (f ∷ maps) t = program_adds scheme isa k base f m (file_at w f) (record t { maps = maps })

  mapped_adds : (scheme : Scheme) (isa : Isa) (k : ℕ) (o : Option ℕ) (m : Memory) (t : Trace) → Adds Unfetched t.requests (mapped w scheme isa k o m t).requests
  mapped_adds scheme isa k None m t = same_then t.requests
  mapped_adds scheme isa k (Some base) m t = file_adds scheme isa k base m t.maps t

  -- ---- one state

  -- one that takes none
  quiet : (a : Action) (old new : List Asking) → ((files : List ℕ) → taken_by files a ≡ []) → ((files : List ℕ) → files_after w files a ≡ files) → Adds Unfetched old new → Adds a old new
  quiet a old new none still x = record {
    made = x.made;
    is = x.is;
    takes = λ files more. x.takes files more ∙ ap (λ fs. answers_to w fs more) (sym (still files)) ∙ ap (λ xs. xs ++ answers_to w (files_after w files a) more) (sym (none files));
  }

  call_adds : (scheme : Scheme) (s : State) (r : Reply) (t : Trace) → Adds (replied s r) t.requests (after_call w scheme r t).requests
  call_adds scheme s (asked.Back (Some span), c, m, io) t = quiet _ t.requests t.requests (λ files. refl) (λ files. refl) (same_then t.requests)
  call_adds scheme s (asked.Back None, c, m, io) t = quiet _ t.requests t.requests (λ files. refl) (λ files. refl) (same_then t.requests)
  call_adds scheme s (asked.Exit status, c, m, io) t = quiet _ t.requests t.requests (λ files. refl) (λ files. refl) (same_then t.requests)
  call_adds scheme s (asked.OutputFull, c, m, io) t = quiet _ t.requests t.requests (λ files. refl) (λ files. refl) (same_then t.requests)
  call_adds scheme s (asked.Map k, c, m, io) t =
      let now : Trace = asking (AsksFile k) t in
      behind_then (replied s (asked.Map k, c, m, io)) t.requests now.requests _ (record { made = asked_at t.ledger.counts.blocks (AsksFile k) ∷ []; is = refl; takes = λ files more. refl })
      (mapped_adds scheme c.isa k (base_at w k) m now)
  call_adds scheme s (asked.Unmap k, c, m, io) t =
      quiet _ t.requests _ (λ files. refl) (λ files. refl) (none_then t.requests (partings (segments_of k t.ledger) t.ledger) (partings-none (segments_of k t.ledger) t.ledger))
  call_adds scheme s (asked.Replace k f, c, m, io) t = record { made = asked_at t.ledger.counts.blocks (MakesBe k f) ∷ []; is = refl; takes = λ files more. refl }

  step_adds : (scheme : Scheme) (s : State) (i : Ins) (o : Outcome) (t : Trace) → Adds (stepped s o) t.requests (after_step w scheme s i o t).requests
  step_adds scheme s i (done.Next, c, m) t = quiet _ t.requests t.requests (λ files. refl) (λ files. refl) (same_then t.requests)
  step_adds scheme s i (done.Taken, c, m) t = quiet _ t.requests t.requests (λ files. refl) (λ files. refl) (same_then t.requests)
  step_adds scheme s i (done.Asked, c, m) t = call_adds scheme s (called s.cpu s.memory s.io) (on_ledger (left_by None) t)
  step_adds scheme s i (done.Touched span, c, m) t = quiet _ t.requests t.requests (λ files. refl) (λ files. refl) (same_then t.requests)
  step_adds scheme s i (done.Fault kind, c, m) t = quiet _ t.requests t.requests (λ files. refl) (λ files. refl) (same_then t.requests)

  word_adds : (scheme : Scheme) (s : State) (r : Result ℕ Access) (t : Trace) → Adds (action_at r s) t.requests (after_word w scheme s r t).requests
  word_adds scheme s (Ok word) t = step_adds scheme s (instruction s.cpu.isa word) (step word s.cpu s.memory) t
  word_adds scheme s (Err e) t = same_then t.requests

  room_none : (b : Bool) (is : List ℕ) (led : Ledger) → TakesNone (if b then offers is led else [])
  room_none true is led = offers-none is led
  room_none false is led = take-nothing

  block_none : (scheme : Scheme) (o : Option Parts) (led : Ledger) → TakesNone (room_asks scheme o led)
  block_none scheme None led = take-nothing
  block_none scheme (Some f) led = room_none (wants_room scheme.pool led f.address) (fin.keys led.segments) led

  begin_adds : (scheme : Scheme) (s : State) (begins : Bool) (t : Trace) → Adds Unfetched t.requests (if begins then beginning scheme (block_at scheme s) t else t).requests
  begin_adds scheme s true t = none_then t.requests (room_asks scheme (block_at scheme s) t.ledger) (block_none scheme (block_at scheme s) t.ledger)
  begin_adds scheme s false t = same_then t.requests

  one_adds : (scheme : Scheme) (x : State × Bool) (t : Trace) → Adds (action x.0) t.requests (after w scheme x t).requests
  one_adds scheme (s, begins) t =
      let now : Trace = if begins then beginning scheme (block_at scheme s) t else t in
      before_then (action s) t.requests now.requests _ (begin_adds scheme s begins t) (word_adds scheme s (fetched s.memory s.cpu.pc) now)

  -- ---- all states

  -- the requests made behind these take what the states take
  pub record AddsAll (states : List State) (old new : List Asking) : Type 0 where
    pub made : List Asking
    pub is : new ≡ old ++ made
    pub takes : (files : List ℕ) → answers_to w files made ≡ own_answers w files states

  all_adds : (scheme : Scheme) (marks : List (State × Bool)) (t : Trace) → AddsAll (map (λ x. x.0) marks) t.requests (traced w scheme marks t).requests
  all_adds scheme [] t = record { made = []; is = sym (append-nil t.requests); takes = λ files. refl }
  all_adds scheme (x ∷ xs) t =
      let now : Trace = after w scheme x t in
      let first = one_adds scheme x t in
      let rest = all_adds scheme xs now in
      record {
        made = first.made ++ rest.made;
        is = rest.is ∙ ap (λ rs. rs ++ rest.made) first.is ∙ append_assoc t.requests first.made rest.made;
        takes = λ files. first.takes files rest.made ∙ ap (λ ys. taken_by files (action x.0) ++ ys) (rest.takes (files_after w files (action x.0)));
      }

  -- so do those that are made behind none
  pub own-requests : (scheme : Scheme) (marks : List (State × Bool)) (t : Trace) (requests : List Asking) (files : List ℕ) → t.requests ≡ [] → (traced w scheme marks t).requests ≡ requests →
      answers_to w files requests ≡ own_answers w files (map (λ x. x.0) marks)
  own-requests scheme marks t requests files none is =
      let all = all_adds scheme marks t in
      ap (answers_to w files) (sym is ∙ all.is ∙ ap (λ rs. rs ++ all.made) none) ∙ all.takes files
