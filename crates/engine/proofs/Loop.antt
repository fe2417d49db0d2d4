-- What holds while the words of a block are done, in the words of the loop.
use Rattle.std.proofs.Common.{◌≡◌, ℕ, ◌+◌, ◌<◌, ◌≤◌, suc, [], ◌++◌, length, slice_index, Option, Some, None, refl, sym, ◌∙◌, ap, subst, arith}
use Rattle.std.proofs.lemmas.Option.{same_Some}
use Rattle.rv_decode.specs.declared.ins.Isa.{Isa}
use Rattle.rv_decode.specs.Table.{instruction}
use Rattle.probe_tools.specs.declared.tool.Tool.{Tool}
use Rattle.probe_tools.specs.declared.probe.ProbeKind.{ProbeKind}
use Rattle.plain_machine.specs.declared.cpu.Cpu.{Cpu}
use Rattle.plain_machine.specs.declared.cpu.Done.{Done}
use Rattle.plain_machine.specs.declared.cpu.Done.TheVariants as done
use Rattle.plain_machine.specs.Memory.{Memory, code_of}
use Rattle.plain_machine.specs.Step.{Outcome, step, effect_of}
use Rattle.plain_machine.specs.Io.{Io}
use Rattle.plain_machine.specs.Machine.{State}
use Rattle.plain_machine.specs.Events.{seen, events}
use Rattle.fragment.specs.Parts.{Parts}
use Rattle.fragment.specs.Build.{IsBuilt, size_at}
use Rattle.fragment.specs.Probing.{probe_at}
use Rattle.fragment.proofs.Values.{value-built, length_words, size-low}
use Rattle.fragment.proofs.Testing.{fresh_parts}
use Rattle.report.specs.Rows.{Rows}
use Rattle.engine.specs.Words.{is_first, leaving, marks_before, state_at}
use Rattle.engine.specs.Seeing.{LacksRow, WantsRow, seen_with, with_events}
use Rattle.engine.specs.Standing.{CodeAfter, SameCode, StandsIn}
use Rattle.engine.specs.declared.block.Left.{Left}
use Rattle.engine.specs.declared.block.Left.TheVariants as lefts
use Rattle.engine.proofs.Path.{events-more}
use Rattle.engine.proofs.Reach.{Reaches, fetches}
use Rattle.engine.proofs.Stored.{Leaves, leaves-so}
use Rattle.engine.proofs.Counting.{events-counted}
use Rattle.engine.proofs.Probes.{sees-word}

pub no_io : Io
no_io = record { input = []; output = []; heap = None; map_calls = 0; mapped = [] }

-- a block that is fresh for its own number of words has one
pub some-words : (m : Memory) (isa : Isa) (tool : Tool) (max : ℕ) (f : Parts) → StandsIn m isa tool max f → 0 < length f.words
some-words m isa tool max f stands =
    let n : ℕ = size_at (code_of stands.region) f.address isa max in
    let parts = fresh_parts (code_of stands.region) isa tool max n f refl stands.fresh in
    let size : length f.words ≡ n = ap length parts.words ∙ length_words (code_of stands.region) f.address n in
    let low : 1 ≤ n = size-low (code_of stands.region) f.address isa max in
    omega arith

pub is-built : (m : Memory) (isa : Isa) (tool : Tool) (max : ℕ) (f : Parts) → 0 < max → (stands : StandsIn m isa tool max f) → IsBuilt (code_of stands.region) isa tool max f
is-built m isa tool max f some stands = (value-built (code_of stands.region) f.address isa tool max f some stands.fresh).0

-- what the tool sees at the word at i is counted by its probe
pub sees-here : (isa : Isa) (tool : Tool) (max : ℕ) (m : Memory) (f : Parts) (fuel : ℕ) (s : State) (i rest word : ℕ) (now : State) → 0 < max → (stands : StandsIn m isa tool max f) →
    i < length f.words → word ≡ slice_index f.words i → Reaches isa max stands.region f fuel s i rest now →
    seen tool (state_at f.words s i, is_first i) ≡ seen_with (probe_at tool isa f.words i) now.cpu (instruction now.cpu.isa word)
sees-here isa tool max m f fuel s i rest word now some stands lt is reach =
    let built = is-built m isa tool max f some stands in
    let f' = fetches isa tool max stands.region f fuel s i rest word now built lt is reach in
    ap (λ x. seen tool (x, is_first i)) (sym reach.at) ∙ sees-word (code_of stands.region) isa tool max f i word now built lt is reach.isa_kept f'.fetch

-- the events up to the word at i, and its own
pub counts-more : (isa : Isa) (tool : Tool) (max : ℕ) (m : Memory) (f : Parts) (fuel : ℕ) (s : State) (i rest word : ℕ) (now : State) (probe : Option ProbeKind) (r0 old new : Rows) → 0 < max →
    (stands : StandsIn m isa tool max f) → i < length f.words → word ≡ slice_index f.words i → Reaches isa max stands.region f fuel s i rest now → probe ≡ probe_at tool isa f.words i →
    old ≡ with_events (events tool (marks_before f.words s i)) r0 → new ≡ with_events (seen_with probe now.cpu (instruction now.cpu.isa word)) old →
    new ≡ with_events (events tool (marks_before f.words s (i + 1))) r0
counts-more isa tool max m f fuel s i rest word now probe r0 old new some stands lt is reach at before behind =
    let more : suc i ≡ i + 1 = omega arith in
    let here = sees-here isa tool max m f fuel s i rest word now some stands lt is reach in
    events-counted (events tool (marks_before f.words s i)) (seen_with probe now.cpu (instruction now.cpu.isa word)) r0 old new before behind
    ∙ ap (λ o. with_events (events tool (marks_before f.words s i) ++ seen_with o now.cpu (instruction now.cpu.isa word)) r0) at
    ∙ ap (λ es. with_events (events tool (marks_before f.words s i) ++ es) r0) (sym here)
    ∙ ap (λ es. with_events es r0) (sym (events-more tool f.words s i))
    ∙ ap (λ k. with_events (events tool (marks_before f.words s k)) r0) more

-- an event of the word at i has no row
pub wants-row : (isa : Isa) (max : ℕ) (m : Memory) (f : Parts) (fuel : ℕ) (s : State) (i n rest word : ℕ) (now : State) (probe : Option ProbeKind) (r0 old new : Rows) → 0 < max →
    (stands : StandsIn m isa r0.tool max f) → i < length f.words → word ≡ slice_index f.words i → i ≡ n → Reaches isa max stands.region f fuel s i rest now → probe ≡ probe_at r0.tool isa f.words i →
    old ≡ with_events (events r0.tool (marks_before f.words s i)) r0 → new ≡ old → LacksRow (seen_with probe now.cpu (instruction now.cpu.isa word)) old.counts →
    WantsRow f n s now r0 new
wants-row isa max m f fuel s i n rest word now probe r0 old new some stands lt is same reach at before kept lacks =
    let here = sees-here isa r0.tool max m f fuel s i rest word now some stands lt is reach in
    let seen_here : seen_with probe now.cpu (instruction now.cpu.isa word) ≡ seen r0.tool (state_at f.words s i, is_first i) =
    ap (λ o. seen_with o now.cpu (instruction now.cpu.isa word)) at ∙ sym here in
    let told : WantsRow f i s now r0 new = record {
      some = lt;
      went = reach.went;
      reached = reach.at;
      counted = kept ∙ before;
      lacks = subst (λ es. LacksRow es new.counts) seen_here (subst (λ r. LacksRow (seen_with probe now.cpu (instruction now.cpu.isa word)) r.counts) (sym kept) lacks);
    } in
    subst (λ k. WantsRow f k s now r0 new) same told

-- ---- the code behind a word that leaves its block

taken-so : (old m after : Memory) → SameCode old m → after ≡ m → SameCode old after
taken-so old m after same is = subst (SameCode old) (sym is) same

code-by : (old m : Memory) (o : Outcome) (left : Left) → SameCode old m → Leaves m o → leaving o.0 ≡ Some left → CodeAfter left old o.2
code-by old m (done.Next, c, after) left same so how = absurd (cc)
code-by old m (done.Taken, c, after) left same so how = subst (λ l. CodeAfter l old after) (same_Some (lefts.Exit 0) left how) (taken-so old m after same so)
code-by old m (done.Asked, c, after) left same so how = subst (λ l. CodeAfter l old after) (same_Some lefts.Asked left how) (taken-so old m after same so)
code-by old m (done.Fault kind, c, after) left same so how = subst (λ l. CodeAfter l old after) (same_Some (lefts.Fault kind) left how) (taken-so old m after same so)
code-by old m (done.Touched span, c, after) left same so how = subst (λ l. CodeAfter l old after) (same_Some (lefts.Touched span) left how) (record {
  before = so.before;
  same = λ a. so.same a ∙ same a;
  bytes = so.bytes;
  some = so.some;
  size = so.size;
  made = so.made;
})

pub code-out : (old m after : Memory) (cpu c : Cpu) (word : ℕ) (d : Done) (left : Left) → SameCode old m → (d, c, after) ≡ step word cpu m → leaving d ≡ Some left → CodeAfter left old after
code-out old m after cpu c word d left same did how =
    code-by old m (d, c, after) left same (subst (Leaves m) (sym did) (leaves-so (effect_of (instruction cpu.isa word) cpu m) cpu m)) how
