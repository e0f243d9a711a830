use Rattle.std.proofs.Common.{◌∙◌}
use Rattle.spav.proofs.Written.{put_keeps, rewritten_short}
use Rattle.spav.proofs.lists.spav_rewrite.Goals as goal

pub returns-in-Ok-clause-behind : goal.returns-in-Ok-clause-behind
returns-in-Ok-clause-behind c =
    let put = c.put_front-in-Ok.ensures in
    let short = rewritten_short _ _ _ _ c.new-rewritten.ensures.items c.in-Ok.ensures.rewritten c.as_slice.ensures.value in
    put_keeps _ _ _ _ _ put.answers put.done put.unchanged short ∙ c.put_into.ensures.behind
