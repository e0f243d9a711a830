use Rattle.std.proofs.Common.{◌++◌, ap, ◌∙◌}
use Rattle.spa_value.specs.Views.{views}
use Rattle.spa_value.proofs.Copying.{put_copied}
use Rattle.spa_value.proofs.nested_copies.VecValueTakes.put.Goals as goal

pub returns : goal.returns
returns c = λ left.
    ap (λ l. views (l ++ left)) c.push_reserved.ensures.items ∙ put_copied c.args.self.now.items left c.args.value
