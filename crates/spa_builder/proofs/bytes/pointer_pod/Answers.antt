use Rattle.std.proofs.Common.{◌∙◌}
use Rattle.spa_builder.proofs.Lengths.{pointer_parts}
use Rattle.spa_builder.proofs.bytes.pointer_pod.Goals as goal

pub returns : goal.returns
returns c = pointer_parts c.args.type_ c.args.address _ _ _ (c.copy_from_slice.ensures.after
    ∙ c.two_words.ensures) (c.copy_from_slice-2.ensures.after ∙ c.two_words-2.ensures)
    (c.copy_from_slice-3.ensures.after ∙ c.to_le_bytes.ensures)
