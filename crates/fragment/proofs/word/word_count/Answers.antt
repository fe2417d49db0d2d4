use Rattle.std.proofs.Common.{◌≡◌, ◌+◌, ◌-◌, true, false, refl, sym, ◌∙◌, arith}
use Rattle.plain_machine.specs.Cut.{ends_block}
use Rattle.rv_decode.specs.Table.{instruction}
use Rattle.fragment.specs.Build.{has_word, may_end, size_at, word_in}
use Rattle.fragment.specs.View.{shown}
use Rattle.fragment.proofs.Least.{least-failed}
use Rattle.fragment.proofs.Testing.{goes_on}
use Rattle.fragment.proofs.word.word_count.Goals as goal

pub loop-count-init : goal.loop-count-init
unfolding size_at
loop-count-init c = record { place = omega arith; there = c.requires.there; search = refl }

pub loop-count-preserved : goal.loop-count-preserved
loop-count-preserved c =
    let inv = c.loop-count.invariant in
    let unended : ends_block (instruction c.args.isa (word_in (shown c.args.code) c.loop-count.place)) ≡ false = cc in
    let more : has_word (shown c.args.code) (c.loop-count.place + 4) ≡ true = sym c.has_word.ensures ∙ c.if-not-has_word.false in
    let failed : may_end (shown c.args.code) c.args.addr c.args.isa c.args.max c.loop-count.count ≡ false =
    goes_on (shown c.args.code) c.args.addr c.args.isa c.args.max c.loop-count.count c.loop-count.place inv.place (omega arith) (omega arith) unended more in
    record {
      place = omega arith;
      there = more;
      search = inv.search ∙ least-failed (may_end (shown c.args.code) c.args.addr c.args.isa c.args.max) c.loop-count.count (c.args.max - c.loop-count.count) (c.args.max - (c.loop-count.count + 1)) (omega arith) failed;
    }
