use Rattle.std.proofs.Common.{◌≡◌, ◌+◌, ◌-◌, ◌*◌, true, false, Some, length, refl, sym, ◌∙◌, ap, arith}
use Rattle.rv_decode.specs.Table.{instruction}
use Rattle.fragment.specs.Build.{built, can_build, word_in}
use Rattle.fragment.specs.Exits.{exits_of}
use Rattle.fragment.specs.Probing.{probes_of}
use Rattle.fragment.specs.View.{shown}
use Rattle.fragment.proofs.Values.{length_words}
use Rattle.fragment.proofs.Testing.{parts_fresh}
use Rattle.block_build.proofs.builder.build.Goals as goal

pub returns-then-not-can_build-clause-built : goal.returns-then-not-can_build-clause-built
unfolding built
returns-then-not-can_build-clause-built g c = let cannot : can_build (shown c.args.code) c.args.addr ≡ false = cc in rw cannot refl

pub probes_of-requires-clause-most : goal.probes_of-requires-clause-most
probes_of-requires-clause-most g c =
    let long : length c.deref.result.now ≡ c.word_count-count.result = ap length (c.deref.ensures.value ∙ c.in_ok-words.ensures) ∙ length_words (shown c.args.code) c.args.addr c.word_count-count.result in
    omega arith

pub returns-clause-built : goal.returns-clause-built
returns-clause-built g c =
    let can : can_build (shown c.args.code) c.args.addr ≡ true = cc in
    let place : c.args.addr + 4 * (c.from.result - 1) ≡ c.args.addr + 4 * (c.word_count-count.result - 1) = ap (λ k. c.args.addr + 4 * (k - 1)) c.from.ensures in
    let last : c.decode-last.result ≡ instruction c.args.isa (word_in (shown c.args.code) (c.args.addr + 4 * (c.word_count-count.result - 1))) =
    c.decode-last.ensures.value ∙ ap (instruction c.args.isa) (c.word_in.ensures ∙ ap (word_in (shown c.args.code)) place) in
    let exits : c.in_ok-exits.exits.items ≡ exits_of (c.args.addr + 4 * (c.word_count-count.result - 1)) (instruction c.args.isa (word_in (shown c.args.code) (c.args.addr + 4 * (c.word_count-count.result - 1)))) =
    c.in_ok-exits.ensures ∙ c.exits_of.ensures ∙ ap (λ p. exits_of p c.decode-last.result) place ∙ ap (exits_of (c.args.addr + 4 * (c.word_count-count.result - 1))) last in
    ap Some c.from_parts.ensures ∙ sym (parts_fresh (shown c.args.code) c.args.isa c.args.tool c.args.max c.word_count-count.result _ can c.word_count-count.ensures.count
    (record { words = c.in_ok-words.ensures; exits = exits; probes = c.in_ok-probes.ensures ∙ ap (probes_of c.args.tool c.args.isa) c.deref.ensures.value }))
