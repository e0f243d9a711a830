use Rattle.std.proofs.Common.{◌≡◌, ◌∙◌, ap, sym, take, get_or, [], ◌++◌, append_assoc}
use Rattle.std.specs.List.{flat_map}
use Rattle.std.proofs.lemmas.List.{flat_map_more, take_more}
use Rattle.spa_format.specs.Words.{word_bytes}
use Rattle.test_bytes.proofs.push_words.Goals as goal

pub loop-word-preserved : goal.loop-word-preserved
unfolding word_bytes
loop-word-preserved c =
    let old = c.args.bytes.now.items in
    let first = take c.loop-word.word-index c.args.words.now in
    let word = get_or c.args.words.now c.loop-word.word-index 0 in
    let its : c.to_le_bytes.result ≡ word_bytes word = c.to_le_bytes.ensures in
    c.in_ok-extend_from_slice.ensures.items
    ∙ ap (λ l. l ++ c.to_le_bytes.result) c.loop-word.invariant
    ∙ ap (λ l. (old ++ flat_map word_bytes first) ++ l) its
    ∙ append_assoc old (flat_map word_bytes first) (word_bytes word)
    ∙ ap (λ l. old ++ l) (flat_map_more word_bytes [] first word)
    ∙ ap (λ l. old ++ flat_map word_bytes l) (sym (take_more c.args.words.now c.loop-word.word-index 0 c.loop-word-test.true))
