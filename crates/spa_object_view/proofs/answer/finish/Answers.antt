use Rattle.std.proofs.Common.{◌≡◌, ◌-◌, ◌++◌, ◌∙◌, sym, ap, length, drop, rules}
use Rattle.spa_format.specs.Words.{word_bytes}
use Rattle.spa_format.proofs.Encodings.{word_bytes_is}
use Rattle.spa_object_view.proofs.answer.finish.Goals as goal

pub returns-clause-bytes : goal.returns-clause-bytes
returns-clause-bytes c = λ _.
    let size : c.in-Ok.size ≡ length c.args.out.now.items - 8 = search rules in
    c.overwrite.ensures.value
    ∙ ap (λ x. x ++ drop 4 c.args.out.now.items) (c.to_le_bytes.ensures ∙ sym (word_bytes_is c.in-Ok.size) ∙ ap word_bytes size)
