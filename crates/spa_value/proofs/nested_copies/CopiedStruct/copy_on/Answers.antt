use Rattle.std.proofs.Common.{◌≡◌, ◌∷◌, ◌++◌, rules, sym, ap, ◌∙◌, subst, arith}
use Rattle.spa_format.specs.Tree.{join_members, member, member_node_count, node_count, struct}
use Rattle.spa_value.specs.NestedCopies.{CopiesLeaf, TakesMember, nested_view}
use Rattle.spa_value.specs.View.{view}
use Rattle.spa_value.specs.Views.{views}
use Rattle.spa_value.proofs.Copying.{nested_copied}
use Rattle.spa_value.proofs.ViewLaws.{views-append}
use Rattle.spa_value.proofs.nested_copies.CopiedStruct.copy_on.Goals as goal

pub loop-member-preserved : goal.loop-member-preserved
loop-member-preserved c =
    let before = c.loop-member.invariant in
    let copies = c.loop-member.self.copies.items in
    let v = c.in-Some.member.now in
    let left = c.in-Some.behind.now in
    let first : c.loop-member.left.now ≡ v ∷ left = search rules in
    let taken = subst (λ o. CopiesLeaf TakesMember v c.reserve.new.self o c.copy_leaf.new.to) c.in_default-2.is c.in_ok-nested.ensures in
    let count = ap (λ l. member_node_count (views l)) first in
    let fewer = before.1 in (
      taken left
          ∙ ap (λ l. join_members (views l) (member (view v) (views left))) c.in_ok-reserve.ensures.items
          ∙ sym (views-append copies (v ∷ left))
          ∙ ap (λ l. views (copies ++ l)) (sym first)
          ∙ before.0,
      omega arith,
    )

pub returns-in-Some-2 : goal.returns-in-Some-2
returns-in-Some-2 c =
    let before = c.loop-member.invariant in
    let copies = c.loop-member.self.copies.items in
    let v = c.in-Some.member.now in
    let left = c.in-Some.behind.now in
    let first : c.loop-member.left.now ≡ v ∷ left = search rules in
    let tree = nested_view c.in-Some-2.nested in
    let found = subst (λ o. CopiesLeaf TakesMember v c.reserve.new.self o c.copy_leaf.new.to) c.in-Some-2.is c.in_ok-nested.ensures in
    let count = ap (λ l. member_node_count (views l)) first in
    let inner = ap node_count found.1 in
    let fewer = before.1 in (
      ap (λ t. struct (join_members (views t.items) (member tree (views left)))) found.0
          ∙ ap (λ l. struct (join_members (views l) (member tree (views left)))) c.in_ok-reserve.ensures.items
          ∙ ap struct (nested_copied copies left v _ found.1 ∙ ap (λ l. views (copies ++ l)) (sym first) ∙ before.0),
      omega arith,
    )
