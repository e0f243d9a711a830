use Rattle.spa_object_view.proofs.ObjectPods.{deep_takes_memory, no_object_of, of_ok, other_rewritten}
use Rattle.spa_object_view.proofs.front.deep_no_object.Goals as goal

pub rewritten-requires : goal.rewritten-requires
rewritten-requires c = deep_takes_memory _ c.requires.deep

pub returns-in_default : goal.returns-in_default
returns-in_default c =
    of_ok c.rewritten.result c.in_default.not-Err
    (λ bytes r. other_rewritten c.args.input.now bytes.items c.requires.other r) c.rewritten.ensures.rewriting

pub returns : goal.returns
returns c = no_object_of _ _ c.in-Err.ensures.cause
