-- One instruction, by what it does.
use Rattle.std.specs.Prelude.{option_map}
use Rattle.std.specs.Option.{option_to_list}
use Rattle.std.proofs.Common.{◌≡◌, ℕ, ◌-◌, ◌+◌, ◌<◌, ◌≤◌, ◌||◌, Bool, true, false, if◌then◌else◌, List, [], ◌∷◌, ◌++◌, length, Option, Some, None, Ok, refl, sym, ◌∙◌, ap, subst, arith}
use Rattle.std.proofs.lemmas.List.{append-nil}
use Rattle.cc_base.specs.Span.{Range}
use Rattle.rv_decode.specs.declared.ins.Ins.{Ins}
use Rattle.rv_decode.specs.Table.{instruction}
use Rattle.probe_tools.specs.declared.tool.Tool.{Tool}
use Rattle.probe_tools.specs.declared.tool.Tool.TheVariants as tools
use Rattle.probe_tools.specs.declared.event.Event.{Event}
use Rattle.probe_tools.specs.declared.event.Event.TheVariants as event
use Rattle.probe_tools.specs.Rows.{Counts, count_at}
use Rattle.plain_machine.specs.declared.cpu.Cpu.{Cpu}
use Rattle.plain_machine.specs.declared.cpu.Done.{Done}
use Rattle.plain_machine.specs.declared.cpu.Done.TheVariants as done
use Rattle.plain_machine.specs.declared.ends.End.{End}
use Rattle.plain_machine.specs.declared.ends.End.TheVariants as ends
use Rattle.plain_machine.specs.declared.ends.Kind.{Kind}
use Rattle.plain_machine.specs.declared.ends.Kind.TheVariants as kinds
use Rattle.plain_machine.specs.Region.{Area}
use Rattle.plain_machine.specs.Memory.{Memory, fetched}
use Rattle.plain_machine.specs.Step.{step, effect_of, access_of, target_of}
use Rattle.plain_machine.specs.Machine.{State, Setting, action, action_at, stepped, call, Unfetched, Ends, Goes, transition_by}
use Rattle.plain_machine.specs.Run.{Run, run, run_behind, ended}
use Rattle.plain_machine.specs.Cut.{begins, closes, closes_with, ends_block, touched, room_after, place_of, marked_in, with_marks, over}
use Rattle.plain_machine.specs.Own.{own_answers, taken_by, files_after}
use Rattle.plain_machine.specs.Events.{access_event, events, is_call, seen, seen_at, seen_before}
use Rattle.plain_machine.proofs.RunLaws.{after, run-goes, run-ends, run-unfetched, run-call}
use Rattle.report.specs.Rows.{Rows}
use Rattle.engine.specs.Seeing.{counting, with_events}
use Rattle.engine.proofs.Counting.{counting-bound, listed-few}
use Rattle.engine.proofs.Reach.{IsSame, same-step}
use Rattle.plain_run.specs.Answer.{Answers, GoesOn}
use Rattle.plain_run.specs.Runs.{Counted}
use Rattle.plain_run.proofs.Rows.{counted-by}
use Rattle.plain_run.specs.declared.block.OpenBlock.{OpenBlock}
use Rattle.plain_run.specs.Places.{LiesAt}
use Rattle.plain_run.specs.Steps.{Moves, Finishes, OneWord}

-- The word of now is done so, and the open block is then that. The report has what the tool saw.
pub record Did (tool : Tool) (max : ℕ) (block block_after : OpenBlock) (place : Option Area) (now : State) (word : ℕ) (begun : Bool) (d : Done) (c : Cpu) (m : Memory) (old new : Rows) : Type 0 where
  pub fetch : fetched now.memory now.cpu.pc ≡ Ok word
  pub step : (d, c, m) ≡ step word now.cpu now.memory
  pub begins : begun ≡ begins block.room place now
  pub room : block_after.room ≡ (if (ends_block (instruction now.cpu.isa word) || touched (d, c, m)) then 0 else (if begun then max - 1 else block.room - 1))
  pub lies : LiesAt block_after.region (place_of now)
  pub counted : new ≡ with_events (seen_at tool now.cpu begun (instruction now.cpu.isa word)) old

pub did-so : (tool : Tool) (max : ℕ) (block : OpenBlock) (place : Option Area) (now : State) (word : ℕ) (begun shut : Bool) (i : Ins) (room : ℕ) (span : Range) (was d : Done) (c : Cpu) (m : Memory) (old new : Rows) →
    was ≡ d → fetched now.memory now.cpu.pc ≡ Ok word → (was, c, m) ≡ step word now.cpu now.memory → begun ≡ begins block.room place now →
    i ≡ instruction now.cpu.isa word → shut ≡ (ends_block i || touched (was, c, m)) → room ≡ (if shut then 0 else (if begun then max - 1 else block.room - 1)) → LiesAt (Some span) (place_of now) →
    new ≡ with_events (seen_at old.tool now.cpu begun i) old → old.tool ≡ tool →
    Did tool max block (record { room = room; region = Some span }) place now word begun d c m old new
did-so tool max block place now word begun shut i room span was d c m old new same fetch step begin ins shuts rooms lies counts tools =
    subst (λ x. Did tool max block (record { room = room; region = Some span }) place now word begun x c m old new) same (record {
      fetch = fetch;
      step = step;
      begins = begin;
      room = rooms ∙ ap (λ b. if b then 0 else (if begun then max - 1 else block.room - 1)) (shuts ∙ ap (λ x. ends_block x || touched (was, c, m)) ins);
      lies = lies;
      counted = counts ∙ ap (λ x. with_events (seen_at old.tool now.cpu begun x) old) ins ∙ ap (λ t. with_events (seen_at t now.cpu begun (instruction now.cpu.isa word)) old) tools;
    })

append_none : (xs : List Event) → xs ++ [] ≡ xs
append_none [] = refl
append_none (x ∷ xs) = ap (λ ys. x ∷ ys) (append_none xs)

module _ (tool : Tool) (max : ℕ) (block block_after : OpenBlock) (place : Option Area) (now : State) (word : ℕ) (begun : Bool) (d : Done) (c : Cpu) (m : Memory) (old new : Rows)
    (did : Did tool max block block_after place now word begun d c m old new) where
  closes-so : closes now ≡ (ends_block (instruction now.cpu.isa word) || touched (d, c, m))
  closes-so = ap (λ r. closes_with now r) did.fetch ∙ ap (λ o. ends_block (instruction now.cpu.isa word) || touched o) (sym did.step)

  pub acts-so : action now ≡ stepped now (d, c, m)
  acts-so = ap (λ r. action_at r now) did.fetch ∙ ap (stepped now) (sym did.step)

  -- what the tool saw
  pub counts-so : Counted tool ((now, begun) ∷ []) old.counts new.counts
  counts-so =
      let one : events tool ((now, begun) ∷ []) ≡ seen_at tool now.cpu begun (instruction now.cpu.isa word) =
      append_none (seen tool (now, begun)) ∙ ap (seen_before tool now.cpu begun) did.fetch in
      counted-by tool ((now, begun) ∷ []) old new (did.counted ∙ ap (λ es. with_events es old) (sym one))

  -- the run with its cut, its first instruction done
  pub marks-so : (r : Run) → marked_in max block.room place (after now r) ≡ with_marks ((now, begun) ∷ []) (marked_in max block_after.room (place_of now) r)
  marks-so r =
      let room : room_after max block.room begun now ≡ block_after.room = ap (λ b. if b then 0 else (if begun then max - 1 else block.room - 1)) closes-so ∙ sym did.room in
      marked-after r ∙ ap (λ k. with_marks ((now, begun) ∷ []) (marked_in max k (place_of now) r)) room
    where
      marked-after : (r : Run) → marked_in max block.room place (after now r) ≡ with_marks ((now, begun) ∷ []) (marked_in max (room_after max block.room begun now) (place_of now) r)
      marked-after r = rw did.begins refl

  -- the run goes on
  pub moves-so : (w : Setting) (next : State) (files maps : List ℕ) → action now ≡ Goes next → Moves w tool max block place now block_after next old.counts new.counts files files maps maps
  moves-so w next files maps goes = record {
    marks = (now, begun) ∷ [];
    counted = counts-so;
    taken = [];
    took = sym (append-nil maps);
    own = λ states. ap (λ a. taken_by files a ++ own_answers w (files_after w files a) states) goes;
    region = place_of now;
    lies = did.lies;
    seen = λ fuel answers. ap (marked_in max block.room place) (run-goes w fuel answers now next goes) ∙ marks-so (run w fuel answers next);
  }

  -- it ends with this instruction
  ends-so : (w : Setting) (next : State) (files before after : List ℕ) (end : End) → action now ≡ Ends end → after ≡ before → next.io.output ≡ now.io.output →
      Finishes w tool max block place now next old.counts new.counts files before after end
  ends-so w next files before after end stops same output = record {
    marks = (now, begun) ∷ [];
    counted = counts-so;
    same = same;
    own = ap (λ a. taken_by files a ++ own_answers w (files_after w files a) []) stops;
    seen = λ fuel answers. ap (marked_in max block.room place) (run-ends w fuel answers now end stops) ∙ marks-so (ended now end answers)
        ∙ ap (λ out. with_marks ((now, begun) ∷ []) (over end out answers)) (sym output);
  }

  -- it calls the system, which answered
  pub calls-so : (w : Setting) (next : State) (files later before after : List ℕ) → action now ≡ call now → GoesOn w now next files later before after →
      Moves w tool max block place now block_after next old.counts new.counts files later before after
  calls-so w next files later before after calls goes = record {
    marks = (now, begun) ∷ [];
    counted = counts-so;
    taken = taken_by files (call now);
    took = goes.took;
    own = λ states. ap (λ a. taken_by files a ++ own_answers w (files_after w files a) states) calls ∙ ap (λ fs. taken_by files (call now) ++ own_answers w fs states) (sym goes.become);
    region = place_of now;
    lies = did.lies;
    seen = λ fuel answers. ap (marked_in max block.room place) (run-call w fuel (taken_by files (call now) ++ answers) now calls)
        ∙ marks-so (run_behind w fuel now (transition_by w (taken_by files (call now) ++ answers) now (call now)))
        ∙ ap (λ t. with_marks ((now, begun) ∷ []) (marked_in max block_after.room (place_of now) (run_behind w fuel now t))) (goes.goes answers);
  }

-- ---- there is no word

pub finishes-unfetched : (w : Setting) (tool : Tool) (max : ℕ) (block : OpenBlock) (place : Option Area) (s : State) (counts : Counts) (files maps : List ℕ) → action s ≡ Unfetched →
    Finishes w tool max block place s s counts counts files maps maps (ends.Fault kinds.Fetch s.cpu.pc)
finishes-unfetched w tool max block place s counts files maps is = record {
  marks = [];
  counted = λ before are. rw (append-nil before) are;
  same = refl;
  own = refl;
  seen = λ fuel answers. ap (marked_in max block.room place) (run-unfetched w fuel answers s is);
}

-- ---- by what the word did

pub moves-next : (w : Setting) (tool : Tool) (max : ℕ) (block block_after : OpenBlock) (place : Option Area) (now : State) (word : ℕ) (begun : Bool) (c : Cpu) (m : Memory) (old new : Rows) (files maps : List ℕ) →
    Did tool max block block_after place now word begun done.Next c m old new → Moves w tool max block place now block_after (record now { cpu = c; memory = m }) old.counts new.counts files files maps maps
moves-next w tool max block block_after place now word begun c m old new files maps did =
    moves-so tool max block block_after place now word begun done.Next c m old new did w _ files maps (acts-so tool max block block_after place now word begun done.Next c m old new did)

pub moves-taken : (w : Setting) (tool : Tool) (max : ℕ) (block block_after : OpenBlock) (place : Option Area) (now : State) (word : ℕ) (begun : Bool) (c : Cpu) (m : Memory) (old new : Rows) (files maps : List ℕ) →
    Did tool max block block_after place now word begun done.Taken c m old new → Moves w tool max block place now block_after (record now { cpu = c; memory = m }) old.counts new.counts files files maps maps
moves-taken w tool max block block_after place now word begun c m old new files maps did =
    moves-so tool max block block_after place now word begun done.Taken c m old new did w _ files maps (acts-so tool max block block_after place now word begun done.Taken c m old new did)

pub moves-touched : (w : Setting) (tool : Tool) (max : ℕ) (block block_after : OpenBlock) (place : Option Area) (now : State) (word : ℕ) (begun : Bool) (span : Range) (c : Cpu) (m : Memory) (old new : Rows) (files maps : List ℕ) →
    Did tool max block block_after place now word begun (done.Touched span) c m old new → Moves w tool max block place now block_after (record now { cpu = c; memory = m }) old.counts new.counts files files maps maps
moves-touched w tool max block block_after place now word begun span c m old new files maps did =
    moves-so tool max block block_after place now word begun (done.Touched span) c m old new did w _ files maps (acts-so tool max block block_after place now word begun (done.Touched span) c m old new did)

pub finishes-fault : (w : Setting) (tool : Tool) (max : ℕ) (block block_after : OpenBlock) (place : Option Area) (now next : State) (word : ℕ) (begun : Bool) (kind : Kind) (c : Cpu) (m : Memory) (old new : Rows) (files maps : List ℕ) →
    Did tool max block block_after place now word begun (done.Fault kind) c m old new → next.io.output ≡ now.io.output →
    Finishes w tool max block place now next old.counts new.counts files maps maps (ends.Fault kind now.cpu.pc)
finishes-fault w tool max block block_after place now next word begun kind c m old new files maps did same =
    ends-so tool max block block_after place now word begun (done.Fault kind) c m old new did w next files maps maps (ends.Fault kind now.cpu.pc)
    (acts-so tool max block block_after place now word begun (done.Fault kind) c m old new did) refl same

-- a call changes nothing yet
asked-state : (tool : Tool) (max : ℕ) (block block_after : OpenBlock) (place : Option Area) (now : State) (word : ℕ) (begun : Bool) (c : Cpu) (m : Memory) (old new : Rows) →
    Did tool max block block_after place now word begun done.Asked c m old new → now ≡ record now { cpu = c; memory = m }
asked-state tool max block block_after place now word begun c m old new did =
    let same : (c ≡ now.cpu) × (m ≡ now.memory) = subst (IsSame now.cpu now.memory) (sym did.step) (same-step (effect_of (instruction now.cpu.isa word) now.cpu now.memory) now.cpu now.memory) in
    rw (same.0, same.1) refl

steps-at : (w : Setting) (tool : Tool) (max : ℕ) (block block_after : OpenBlock) (place : Option Area) (now next : State) (word : ℕ) (begun : Bool) (c : Cpu) (m : Memory) (old new : Rows) (files later before after : List ℕ) (end : Option End) →
    Did tool max block block_after place now word begun done.Asked c m old new → Answers w now next files later before after end →
    OneWord w tool max block place now block_after next old.counts new.counts files later before after end
steps-at w tool max block block_after place now next word begun c m old new files later before after None did goes =
    calls-so tool max block block_after place now word begun done.Asked c m old new did w next files later before after (acts-so tool max block block_after place now word begun done.Asked c m old new did) goes
steps-at w tool max block block_after place now next word begun c m old new files later before after (Some end) did stops =
    ends-so tool max block block_after place now word begun done.Asked c m old new did w next files before after end
    (acts-so tool max block block_after place now word begun done.Asked c m old new did ∙ stops.stops) stops.same stops.output

-- the call stands in the state that the word leaves
pub steps-call : (w : Setting) (tool : Tool) (max : ℕ) (block block_after : OpenBlock) (place : Option Area) (now next : State) (word : ℕ) (begun : Bool) (c : Cpu) (m : Memory) (old new : Rows) (files later before after : List ℕ) (end : Option End) →
    Did tool max block block_after place now word begun done.Asked c m old new → Answers w (record now { cpu = c; memory = m }) next files later before after end →
    OneWord w tool max block place now block_after next old.counts new.counts files later before after end
steps-call w tool max block block_after place now next word begun c m old new files later before after end did answers =
    steps-at w tool max block block_after place now next word begun c m old new files later before after end did
    (subst (λ s. Answers w s next files later before after end) (sym (asked-state tool max block block_after place now word begun c m old new did)) answers)

-- ---- counts

if-few : (b : Bool) (xs : List Event) → length xs ≤ 1 → length (if b then xs else []) ≤ 1
if-few true xs few = few
if-few false xs few = omega arith

-- a tool sees one event at most
seen-few : (tool : Tool) (cpu : Cpu) (begins : Bool) (i : Ins) → length (seen_at tool cpu begins i) ≤ 1
seen-few tools.Blocks cpu begins i = if-few begins (event.Block cpu.pc ∷ []) (omega arith)
seen-few tools.Calls cpu begins i = if-few (is_call i) (option_to_list (option_map (event.Call cpu.pc) (target_of i cpu))) (listed-few (option_map (event.Call cpu.pc) (target_of i cpu)))
seen-few tools.Memory cpu begins i = listed-few (option_map (access_event cpu.pc) (access_of i cpu))

pub small-after : (tool : Tool) (cpu : Cpu) (begins : Bool) (i : Ins) (old new : Rows) (left limit : ℕ) → new ≡ with_events (seen_at tool cpu begins i) old → 0 < left →
    ((key : ℕ) → count_at old.counts key + left < limit) → (key : ℕ) → count_at new.counts key + (left - 1) < limit
small-after tool cpu begins i old new left limit is some small key =
    let es : List Event = seen_at tool cpu begins i in
    let bound : count_at (counting es old.counts) key ≤ count_at old.counts key + length es = counting-bound es old.counts key in
    let few : length es ≤ 1 = seen-few tool cpu begins i in
    let before : count_at old.counts key + left < limit = small key in
    let same : count_at new.counts key ≡ count_at (counting es old.counts) key = ap (λ r. count_at r.counts key) is in
    omega arith
