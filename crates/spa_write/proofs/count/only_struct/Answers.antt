use Rattle.std.proofs.Common.{ap, ◌∙◌, sym}
use Rattle.spa_format.specs.Tree.{member, no_trees, struct}
use Rattle.spa_value.specs.View.{view}
use Rattle.spa_value.specs.Views.{views}
use Rattle.spa_value.proofs.ViewLaws.{view-struct}
use Rattle.spa_write.proofs.MemberLists.{only_member}
use Rattle.spa_write.proofs.count.only_struct.Goals as goal

pub returns-in-Struct : goal.returns-in-Struct
returns-in-Struct c =
    only_member c.args.members.now c.index-members-0.result c.if-members-ne1.false c.index-members-0.is
    ∙ ap (λ v. member v no_trees)
    (ap view c.in-Struct.is ∙ view-struct c.in-Struct.inner ∙ ap (λ l. struct (views l)) (sym c.as_slice.ensures.value))
