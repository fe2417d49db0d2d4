use Rattle.std.proofs.Common.{◌≡◌, ◌+◌, ◌*◌, [], ◌∷◌, ◌++◌, sym, ◌∙◌, ap, arith}
use Rattle.std.proofs.lemmas.List.FromFn.{map-range_with_len_more}
use Rattle.fragment.specs.Build.{word_in, words_at}
use Rattle.fragment.specs.View.{shown}
use Rattle.unit_format.proofs.fragments.words_in.Goals as goal

pub loop-i-preserved : goal.loop-i-preserved
loop-i-preserved c =
    let word : c.word_in.result ≡ word_in (shown c.args.image) (c.args.address + 4 * c.loop-i.i) =
    c.word_in.ensures ∙ ap (λ k. word_in (shown c.args.image) (c.args.address + 4 * k)) c.from-in-loop-i.ensures in
    rw c.in_ok-push.ensures.items (
    ap (λ ws. ws ++ c.word_in.result ∷ []) c.loop-i.invariant
    ∙ ap (λ w. words_at (shown c.args.image) c.args.address c.loop-i.i ++ w ∷ []) word
    ∙ sym (map-range_with_len_more (λ k. word_in (shown c.args.image) (c.args.address + 4 * k)) 0 c.loop-i.i c.loop-i.i (omega arith)))
