use Rattle.std.proofs.Common.{◌∙◌, codes}
use Rattle.clap.specs.Walk.{rows_of}
use Rattle.clap.specs.Words.{found_of}
use Rattle.clap.proofs.WalkLemmas.{first_value-rows}
use Rattle.pod_commands.proofs.Requested.{texts_given, texts_wrong}
use Rattle.pod_commands.proofs.texts.texts_for.Goals as goal

pub returns-clause-texts : goal.returns-clause-texts
returns-clause-texts c =
    let found = found_of c.args.given.now in
    texts_given (rows_of found) c.is_set.result c.is_set-2.result c.is_set-3.result _ _ c.is_set.ensures c.is_set-2.ensures c.is_set-3.ensures
    (c.get_str.ensures ∙ first_value-rows found (codes "type")) (c.get_str-2.ensures ∙ first_value-rows found (codes "id")) c.args.name.now
    c.texts_of.result c.texts_of.ensures.texts

pub returns-clause-wrong : goal.returns-clause-wrong
returns-clause-wrong c =
    let found = found_of c.args.given.now in
    texts_wrong (rows_of found) c.is_set.result c.is_set-2.result c.is_set-3.result _ _ c.is_set.ensures c.is_set-2.ensures c.is_set-3.ensures
    (c.get_str.ensures ∙ first_value-rows found (codes "type")) (c.get_str-2.ensures ∙ first_value-rows found (codes "id")) c.texts_of.result
    c.texts_of.ensures.wrong
