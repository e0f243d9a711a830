use Rattle.std.proofs.Common.{[], flat_map, sym, ap, ◌∙◌, map-id, rules}
use Rattle.std.proofs.Output.{has_written_append, has_written_of_eq}
use Rattle.std.proofs.lemmas.Iterator.{YieldsList-from_chars}
use Rattle.std.proofs.lemmas.Iterator.Consumers.{YieldsList-end}
use Rattle.std.proofs.lemmas.List.{flat_map_more}
use Rattle.spa_text_read.specs.Letters.{shown_letter}
use Rattle.pod_commands.proofs.plain.write_letters.Goals as goal

pub loop-letter-preserved : goal.loop-letter-preserved
loop-letter-preserved g c p =
    has_written_of_eq _ _ _ _ _ (flat_map_more shown_letter [] c.loop-letter.yielded c.in-Some.letter)
    (has_written_append _ _ _ _ _ _ (c.loop-letter.invariant p) (search rules))

pub returns : goal.returns
returns g c p ok =
    let end = YieldsList-end (YieldsList-from_chars c.args.text.now c.utf8.text cc) c.loop-letter.yielded _ c.loop-letter.yielded_by _ _ c.in-None.is
    c.next.ensures.steps in
    has_written_of_eq _ _ _ _ _ (ap (flat_map shown_letter) (sym (map-id c.loop-letter.yielded) ∙ end.0)) (c.loop-letter.invariant p)
