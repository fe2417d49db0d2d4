use Rattle.std.proofs.Common.{◌≡◌, ◌<◌, ◌≤◌, ◌+◌, ◌-◌, ◌%◌, ℕ, length, slice_index, ◌^◌, sym, ap, arith, ◌∙◌, subst, refl}
use Rattle.rv_decode.specs.Table.{instruction}
use Rattle.plain_machine.specs.Step.{effect_of}
use Rattle.plain_machine.specs.Events.{events}
use Rattle.fragment.proofs.Places.{before-none}
use Rattle.engine.specs.Words.{last_exit, marks_before}
use Rattle.engine.specs.Seeing.{with_events}
use Rattle.engine.specs.Standing.{state}
use Rattle.engine.specs.Runs.{RunsBlock}
use Rattle.engine.specs.declared.block.Left.TheVariants as lefts
use Rattle.engine.proofs.Path.{marks-none}
use Rattle.engine.proofs.Reach.{reaches-start, loop-more, loop-out, reaches-spent, reaches-done}
use Rattle.engine.proofs.Stored.{isa-kept}
use Rattle.engine.proofs.Starts.{starts-through}
use Rattle.engine.proofs.Counting.{small-more}
use Rattle.engine.proofs.Probes.{next-more, one-at-most}
use Rattle.engine.proofs.Loop.{no_io, some-words, is-built, counts-more, wants-row, code-out}
use Rattle.engine.proofs.block.run_block.Goals as goal

pub block-init : goal.block-init
block-init c =
    let f = c.args.f.now in
    let some = some-words c.args.mem.now c.args.cpu.now.isa c.args.report.now.tool (length f.words) f c.requires.fresh in
    let built = is-built c.args.mem.now c.args.cpu.now.isa c.args.report.now.tool (length f.words) f some c.requires.fresh in
    record {
      spent = omega arith;
      same_words = c.words-words.ensures;
      same_probes = c.probes-probes.ensures;
      tool = refl;
      aligned = ap (λ x. x % 4) c.requires.begins ∙ built.aligned;
      isa = refl;
      regions = λ s. refl;
      small = c.requires.small;
      stands = c.requires.fresh;
      few = omega arith;
      next = ap length (sym (before-none c.args.report.now.tool c.args.cpu.now.isa f.words));
      counted = λ io. ap (λ marks. with_events (events c.args.report.now.tool marks) c.args.report.now) (sym (marks-none f.words (state c.args.cpu.now c.args.mem.now io)));
      reaches = λ max io some stands.
          reaches-start c.args.cpu.now.isa max stands.region f c.args.fuel.now (state c.args.cpu.now c.args.mem.now io) c.requires.begins refl stands.memory stands.here;
    }

pub returns-then-rest-eq0-clause-runs : goal.returns-then-rest-eq0-clause-runs
returns-then-rest-eq0-clause-runs c = λ max io some stands.
    let f = c.args.f.now in
    let s = state c.args.cpu.now c.args.mem.now io in
    let now = state c.block.cpu c.block.mem io in
    let lt : c.block.place < length f.words = omega (arith, ap length c.words-words.ensures) in
    let begun : 0 < c.block.place = omega (arith, c.block.invariant.spent, c.requires.fuel) in
    let n : c.block.place ≡ c.args.fuel.now - c.block.rest = omega (arith, c.block.invariant.spent) in
    subst (λ k. RunsBlock max f k c.args.fuel.now s lefts.Fuel c.block.rest now) n
    (reaches-spent c.args.cpu.now.isa max stands.region f c.args.fuel.now s c.block.place c.block.rest now lt begun c.if-rest-eq0.true (c.block.invariant.reaches max io some stands))

pub returns-then-rest-eq0-clause-code : goal.returns-then-rest-eq0-clause-code
returns-then-rest-eq0-clause-code c =
    let f = c.args.f.now in
    let some = some-words c.args.mem.now c.args.cpu.now.isa c.args.report.now.tool (length f.words) f c.requires.fresh in
    (c.block.invariant.reaches (length f.words) no_io some c.requires.fresh).same

pub returns-clause-code : goal.returns-clause-code
returns-clause-code c =
    let f = c.args.f.now in
    let some = some-words c.args.mem.now c.args.cpu.now.isa c.args.report.now.tool (length f.words) f c.requires.fresh in
    (c.block.invariant.reaches (length f.words) no_io some c.requires.fresh).same

pub returns-clause-less : goal.returns-clause-less
returns-clause-less c =
    let f = c.args.f.now in
    let some = some-words c.args.mem.now c.args.cpu.now.isa c.args.report.now.tool (length f.words) f c.requires.fresh in
    omega (arith, c.block.invariant.spent, ap length c.words-words.ensures, some)

pub returns-clause-runs : goal.returns-clause-runs
returns-clause-runs c = λ max io some stands.
    let f = c.args.f.now in
    let s = state c.args.cpu.now c.args.mem.now io in
    let now = state c.block.cpu c.block.mem io in
    let all : c.block.place ≡ length f.words = omega (arith, ap length c.words-words.ensures) in
    let n : c.block.place ≡ c.args.fuel.now - c.block.rest = omega (arith, c.block.invariant.spent) in
    let left : lefts.Exit c.last_exit.result ≡ lefts.Exit (last_exit f.exits) = ap lefts.Exit (c.last_exit.ensures ∙ ap last_exit c.exits.ensures) in
    subst (λ l. RunsBlock max f (c.args.fuel.now - c.block.rest) c.args.fuel.now s l c.block.rest now) (sym left)
    (subst (λ k. RunsBlock max f k c.args.fuel.now s (lefts.Exit (last_exit f.exits)) c.block.rest now) n
    (reaches-done c.args.cpu.now.isa c.args.report.now.tool max stands.region f c.args.fuel.now s c.block.place c.block.rest now
    (is-built c.args.mem.now c.args.cpu.now.isa c.args.report.now.tool max f some stands) all (c.block.invariant.reaches max io some stands)))

pub returns-in-Err-clause-wants : goal.returns-in-Err-clause-wants
returns-in-Err-clause-wants c = λ io.
    let f = c.args.f.now in
    let tool = c.args.report.now.tool in
    let isa = c.args.cpu.now.isa in
    let s = state c.args.cpu.now c.args.mem.now io in
    let now = state c.block.cpu c.block.mem io in
    let some = some-words c.args.mem.now isa tool (length f.words) f c.requires.fresh in
    let built = is-built c.args.mem.now isa tool (length f.words) f some c.requires.fresh in
    let lt : c.block.place < length f.words = omega (arith, ap length c.words-words.ensures) in
    let word : ℕ = slice_index c.words-words.result.now c.block.place in
    let same : word ≡ slice_index f.words c.block.place = ap (λ ws. slice_index ws c.block.place) c.words-words.ensures in
    let n : c.block.place ≡ c.args.fuel.now - c.block.rest = omega (arith, c.block.invariant.spent) in
    let kind = c.kind_at-kind.ensures tool isa f.words (c.probes-probes.ensures ∙ built.probes) c.block.invariant.next lt in
    wants-row isa (length f.words) c.args.mem.now f c.args.fuel.now s c.block.place (c.args.fuel.now - c.block.rest) c.block.rest word now c.kind_at-kind.result c.args.report.now c.block.report c.see.new.report
    some c.requires.fresh lt same n (c.block.invariant.reaches (length f.words) io some c.requires.fresh) kind (c.block.invariant.counted io) c.in-Err.ensures.same c.in-Err.ensures.lacks

pub returns-in-Some-clause-runs : goal.returns-in-Some-clause-runs
returns-in-Some-clause-runs c = λ max io some stands.
    let f = c.args.f.now in
    let tool = c.args.report.now.tool in
    let isa = c.args.cpu.now.isa in
    let s = state c.args.cpu.now c.args.mem.now io in
    let now = state c.block.cpu c.block.mem io in
    let next = state c.exec-done.new.cpu c.exec-done.new.mem io in
    let lt : c.block.place < length f.words = omega (arith, ap length c.words-words.ensures) in
    let word : ℕ = slice_index c.words-words.result.now c.block.place in
    let same : word ≡ slice_index f.words c.block.place = ap (λ ws. slice_index ws c.block.place) c.words-words.ensures in
    let more : 0 < c.block.rest = omega arith in
    let n : c.block.place + 1 ≡ c.args.fuel.now - (c.block.rest - 1) = omega (arith, c.block.invariant.spent, more) in
    subst (λ k. RunsBlock max f k c.args.fuel.now s c.in-Some.left (c.block.rest - 1) next) n
    (loop-out isa tool max stands.region f c.args.fuel.now s c.block.place c.block.rest word now c.exec-done.result c.exec-done.new.cpu c.exec-done.new.mem c.in-Some.left more
    (is-built c.args.mem.now isa tool max f some stands) lt same c.exec-done.ensures.step (sym c.in-Some.ensures) (c.block.invariant.reaches max io some stands))

pub returns-in-Some-clause-report : goal.returns-in-Some-clause-report
returns-in-Some-clause-report c = λ io.
    let f = c.args.f.now in
    let tool = c.args.report.now.tool in
    let isa = c.args.cpu.now.isa in
    let s = state c.args.cpu.now c.args.mem.now io in
    let now = state c.block.cpu c.block.mem io in
    let some = some-words c.args.mem.now isa tool (length f.words) f c.requires.fresh in
    let built = is-built c.args.mem.now isa tool (length f.words) f some c.requires.fresh in
    let lt : c.block.place < length f.words = omega (arith, ap length c.words-words.ensures) in
    let word : ℕ = slice_index c.words-words.result.now c.block.place in
    let same : word ≡ slice_index f.words c.block.place = ap (λ ws. slice_index ws c.block.place) c.words-words.ensures in
    let more : 0 < c.block.rest = omega arith in
    let n : c.block.place + 1 ≡ c.args.fuel.now - (c.block.rest - 1) = omega (arith, c.block.invariant.spent, more) in
    let kind = c.kind_at-kind.ensures tool isa f.words (c.probes-probes.ensures ∙ built.probes) c.block.invariant.next lt in
    counts-more isa tool (length f.words) c.args.mem.now f c.args.fuel.now s c.block.place c.block.rest word now c.kind_at-kind.result c.args.report.now c.block.report c.see.new.report
    some c.requires.fresh lt same (c.block.invariant.reaches (length f.words) io some c.requires.fresh) kind (c.block.invariant.counted io) c.in_default.ensures.ok
    ∙ ap (λ k. with_events (events tool (marks_before f.words s k)) c.args.report.now) n

pub returns-in-Some-clause-code : goal.returns-in-Some-clause-code
returns-in-Some-clause-code c =
    let f = c.args.f.now in
    let some = some-words c.args.mem.now c.args.cpu.now.isa c.args.report.now.tool (length f.words) f c.requires.fresh in
    let before = (c.block.invariant.reaches (length f.words) no_io some c.requires.fresh).same in
    code-out c.args.mem.now c.block.mem c.exec-done.new.mem c.block.cpu c.exec-done.new.cpu (slice_index c.words-words.result.now c.block.place) c.exec-done.result c.in-Some.left
    before c.exec-done.ensures.step (sym c.in-Some.ensures)

pub returns-in-Some-clause-regions : goal.returns-in-Some-clause-regions
returns-in-Some-clause-regions c =
    let word : ℕ = slice_index c.words-words.result.now c.block.place in
    starts-through c.args.mem.now c.block.mem c.exec-done.new.mem (c.exec-done.result, c.exec-done.new.cpu, c.exec-done.new.mem) c.block.cpu (effect_of (instruction c.block.cpu.isa word) c.block.cpu c.block.mem)
    c.block.invariant.regions c.exec-done.ensures.step refl

pub returns-in-Some-clause-isa : goal.returns-in-Some-clause-isa
returns-in-Some-clause-isa c =
    let word : ℕ = slice_index c.words-words.result.now c.block.place in
    ap (λ o. o.1.isa) c.exec-done.ensures.step ∙ isa-kept (effect_of (instruction c.block.cpu.isa word) c.block.cpu c.block.mem) c.block.cpu c.block.mem ∙ c.block.invariant.isa

pub returns-in-Some-clause-small : goal.returns-in-Some-clause-small
returns-in-Some-clause-small c =
    let word : ℕ = slice_index c.words-words.result.now c.block.place in
    let more : 0 < c.block.rest = omega arith in
    small-more c.kind_at-kind.result c.block.cpu (instruction c.block.cpu.isa word) c.block.report c.see.new.report c.block.rest (2 ^ 64) c.in_default.ensures.ok more c.block.invariant.small

pub block-preserved : goal.block-preserved
block-preserved c =
    let f = c.args.f.now in
    let tool = c.args.report.now.tool in
    let isa = c.args.cpu.now.isa in
    let some = some-words c.args.mem.now isa tool (length f.words) f c.requires.fresh in
    let built = is-built c.args.mem.now isa tool (length f.words) f some c.requires.fresh in
    let lt : c.block.place < length f.words = omega (arith, ap length c.words-words.ensures) in
    let word : ℕ = slice_index c.words-words.result.now c.block.place in
    let same : word ≡ slice_index f.words c.block.place = ap (λ ws. slice_index ws c.block.place) c.words-words.ensures in
    let more : 0 < c.block.rest = omega arith in
    let kind = c.kind_at-kind.ensures tool isa f.words (c.probes-probes.ensures ∙ built.probes) c.block.invariant.next lt in
    record {
      spent = omega (arith, c.block.invariant.spent, more);
      same_words = c.words-words.ensures;
      same_probes = c.probes-probes.ensures;
      tool = ap (λ r. r.tool) c.in_default.ensures.ok ∙ c.block.invariant.tool;
      aligned = c.exec-done.ensures.aligned;
      isa = ap (λ o. o.1.isa) c.exec-done.ensures.step ∙ isa-kept (effect_of (instruction c.block.cpu.isa word) c.block.cpu c.block.mem) c.block.cpu c.block.mem ∙ c.block.invariant.isa;
      regions =
          starts-through c.args.mem.now c.block.mem c.exec-done.new.mem (c.exec-done.result, c.exec-done.new.cpu, c.exec-done.new.mem) c.block.cpu (effect_of (instruction c.block.cpu.isa word) c.block.cpu c.block.mem)
          c.block.invariant.regions c.exec-done.ensures.step refl;
      small = small-more c.kind_at-kind.result c.block.cpu (instruction c.block.cpu.isa word) c.block.report c.see.new.report c.block.rest (2 ^ 64) c.in_default.ensures.ok more c.block.invariant.small;
      stands = c.requires.fresh;
      few =
          let one : c.probe_count-next.result ≤ 1 = rw c.probe_count-next.ensures (one-at-most c.kind_at-kind.result) in
          omega (arith, one, c.block.invariant.few);
      next = ap (λ k. c.block.next + k) c.probe_count-next.ensures ∙ next-more tool isa f.words c.block.place c.block.next c.kind_at-kind.result c.block.invariant.next kind;
      counted = λ io.
          counts-more isa tool (length f.words) c.args.mem.now f c.args.fuel.now (state c.args.cpu.now c.args.mem.now io) c.block.place c.block.rest word (state c.block.cpu c.block.mem io) c.kind_at-kind.result
          c.args.report.now c.block.report c.see.new.report
          some c.requires.fresh lt same (c.block.invariant.reaches (length f.words) io some c.requires.fresh) kind (c.block.invariant.counted io) c.in_default.ensures.ok;
      reaches = λ max io some stands.
          loop-more isa tool max stands.region f c.args.fuel.now (state c.args.cpu.now c.args.mem.now io) c.block.place c.block.rest word (state c.block.cpu c.block.mem io)
          c.exec-done.result c.exec-done.new.cpu c.exec-done.new.mem more (is-built c.args.mem.now isa tool max f some stands) lt same c.exec-done.ensures.step (sym c.in_default-leaving.ensures) (c.block.invariant.reaches max io some stands);
    }
