use Rattle.std.proofs.Common.{◌≡◌, ◌+◌, ◌-◌, ◌*◌, true, length, sym, ◌∙◌, ap, arith}
use Rattle.rv_decode.specs.Table.{instruction}
use Rattle.fragment.specs.Exits.{exits_of, list_of}
use Rattle.fragment.specs.Build.{can_build, word_in, words_at}
use Rattle.fragment.specs.View.{shown}
use Rattle.fragment.proofs.Values.{length_words}
use Rattle.fragment.proofs.Testing.{fresh_can, fresh_parts, parts_fresh}
use Rattle.fragment.proofs.same.are_built.Goals as goal

pub returns-then-not-can_build : goal.returns-then-not-can_build
returns-then-not-can_build c = (
  λ no. absurd (cc),
  λ fresh. let can : can_build (shown c.args.code) c.args.addr ≡ true = fresh_can (shown c.args.code) c.args.isa c.args.tool c.args.max _ fresh in absurd (cc),
)

pub returns-then-not-are_words : goal.returns-then-not-are_words
returns-then-not-are_words c = (
  λ no. absurd (cc),
  λ fresh.
      let parts = fresh_parts (shown c.args.code) c.args.isa c.args.tool c.args.max c.word_count-count.result _ c.word_count-count.ensures.count fresh in
      let yes = c.are_words.ensures.1 parts.words in absurd (cc),
)

pub returns-then-not-are_exits : goal.returns-then-not-are_exits
returns-then-not-are_exits c = (
  λ no. absurd (cc),
  λ fresh.
      let parts = fresh_parts (shown c.args.code) c.args.isa c.args.tool c.args.max c.word_count-count.result _ c.word_count-count.ensures.count fresh in
      let want : list_of c.exits_of.result ≡ exits_of (c.args.addr + 4 * (c.word_count-count.result - 1)) (instruction c.args.isa (word_in (shown c.args.code) (c.args.addr + 4 * (c.word_count-count.result - 1)))) = cc in
      let yes = c.are_exits.ensures.1 (parts.exits ∙ sym want) in absurd (cc),
)

pub are_probes-requires : goal.are_probes-requires
are_probes-requires c =
    let words = c.are_words.ensures.0 c.if-not-are_words.false in
    omega (arith, ap length words, length_words (shown c.args.code) c.args.addr c.word_count-count.result)

pub returns : goal.returns
returns c =
    let want : list_of c.exits_of.result ≡ exits_of (c.args.addr + 4 * (c.word_count-count.result - 1)) (instruction c.args.isa (word_in (shown c.args.code) (c.args.addr + 4 * (c.word_count-count.result - 1)))) = cc in
    let words : c.args.words.now ≡ words_at (shown c.args.code) c.args.addr c.word_count-count.result = c.are_words.ensures.0 c.if-not-are_words.false in
    let exits : c.args.exits.now ≡ list_of c.exits_of.result = c.are_exits.ensures.0 c.if-not-are_exits.false in
    let can : can_build (shown c.args.code) c.args.addr ≡ true = cc in (
      λ yes. parts_fresh (shown c.args.code) c.args.isa c.args.tool c.args.max c.word_count-count.result _ can c.word_count-count.ensures.count
          (record { words = words; exits = exits ∙ want; probes = c.are_probes.ensures.0 yes }),
      λ fresh. c.are_probes.ensures.1 (fresh_parts (shown c.args.code) c.args.isa c.args.tool c.args.max c.word_count-count.result _ c.word_count-count.ensures.count fresh).probes,
    )
